-- For the proofs of the code, no rule: the sets of either kind in one pass (docs/SPECIFICATION.md, "Refused calls").
use Rattle.std.specs.Prelude.{ℕ, Bool, ◌&&◌, ◌||◌, List}
use Rattle.whole.specs.Lists.{all}
use Rattle.station_rules.specs.Lines.{is_nonzero}
use Rattle.station_rules.specs.Soundness.{days_fall, sound_set}
use Rattle.station_rules.specs.declared.PastSet.{PastSet}

-- a sound set; where its kind has no zeros, its S is not 0
abbrev pub sound_one : (zeros : Bool) (n : ℕ) → PastSet → Bool
sound_one zeros n p = sound_set n p && (zeros || is_nonzero p)

-- the days of a kind's sets, and each set
abbrev pub sound_kind : (zeros : Bool) (n day : ℕ) → List PastSet → Bool
sound_kind zeros n day past = days_fall day past && all (sound_one zeros n) past

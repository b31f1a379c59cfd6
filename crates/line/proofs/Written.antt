-- What the writes to a line's places come to: the places are spelled out, and the rest is computed.
use mathlib.Core.Path.{◌≡◌, refl, subst}
use mathlib.Core.List.{List, [], ◌∷◌, ◌++◌}
use lib.IntN.{ℤ, pos}
use lib.ListN.{length, set}
use borrow.Rule.Slice.PartMut.{mid_of, put_mid}
use Rattle.whole.proofs.Spelled.{elements, spelled}
use Rattle.whole.specs.Places.{place, joined_sets}
use Rattle.station_rules.specs.InPlace.{newest_places, nonzero_places, emptied_places}

-- the phase written, and a set joined to the newest
abbrev pub newest_joined : (line joining : List ℤ) → List ℤ
newest_joined line joining = let old = set line 1 (pos 1) in put_mid 2 7 old (joined_sets 2 (mid_of 2 7 old) joining)

-- and to the ones that aren't zero
abbrev pub both_joined : (line joining : List ℤ) → List ℤ
both_joined line joining = let now = newest_joined line joining in put_mid 9 13 now (joined_sets 4 (mid_of 9 13 now) joining)

-- the phase written, and no set held
pub repairs : (line : List ℤ) → length line ≡ 22 → (phase : ℤ)
    → emptied_places (place (set line 1 phase) 0) (place (set line 1 phase) 1) ≡ emptied_places (place line 0) phase
unfolding elements
repairs line full phase =
    subst (λ (w : List ℤ). emptied_places (place (set w 1 phase) 0) (place (set w 1 phase) 1) ≡ emptied_places (place w 0) phase) (spelled (pos 0) line 22 full) refl

module _ (line : List ℤ) (full : length line ≡ 22) (a b c : ℤ) where
  abbrev joining : List ℤ
  joining = a ∷ b ∷ c ∷ []

  pub joins_newest : newest_joined line joining ≡ place line 0 ∷ pos 1 ∷ joined_sets 2 (newest_places line) joining ++ nonzero_places line
  unfolding elements
  joins_newest =
      subst (λ (w : List ℤ). newest_joined w joining ≡ place w 0 ∷ pos 1 ∷ joined_sets 2 (newest_places w) joining ++ nonzero_places w) (spelled (pos 0) line 22 full) refl

  pub joins_both : both_joined line joining ≡ place line 0 ∷ pos 1 ∷ joined_sets 2 (newest_places line) joining ++ joined_sets 4 (nonzero_places line) joining
  unfolding elements
  joins_both =
      subst (λ (w : List ℤ). both_joined w joining ≡ place w 0 ∷ pos 1 ∷ joined_sets 2 (newest_places w) joining ++ joined_sets 4 (nonzero_places w) joining)
      (spelled (pos 0) line 22 full) refl

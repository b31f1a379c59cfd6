-- For the proofs of the code, no rule: what a sound station's line gives, so that nothing wraps (docs/SPECIFICATION.md, "Refused calls").
use Rattle.std.specs.Prelude.{List, ℕ, ◌≤◌, ◌<◌, T, take}
use Rattle.whole.specs.Bounds.{Within}
use Rattle.station_rules.specs.Soundness.{days_fall}
use Rattle.line_past.specs.Ranges.{Held}
use Rattle.station_rules.specs.declared.Line.{Line}
use Rattle.station_rules.specs.declared.PastSet.{PastSet}

-- the held sets of either kind
pub record SetsFit (most held : ℕ) (past : List PastSet) : Type 0 where
  pub room : held ≤ most
  pub each : Held held past
  pub falls : T (days_fall 99999 (take held past))

pub record LineFits (l : Line) : Type 0 where
  pub small : Within 1000 1000 l.intercept
  pub newest : SetsFit 2 l.newest_held l.newest
  pub nonzero : SetsFit 4 l.nonzero_held l.nonzero

-- a set whose numbers a place holds
pub record SetFits (p : PastSet) : Type 0 where
  pub day : p.day < 2147483648
  pub sum : Within 132000 132000 p.sum
  pub count : p.count < 2147483648

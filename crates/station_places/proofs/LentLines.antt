-- A line's places, lent as a part.
use mathlib.Core.Path.{◌≡◌, ap}
use mathlib.Core.List.{List}
use Prim.Native.Nat.{ℕ, ◌+◌, ◌-◌, ◌<◌}
use native.Mathlib.Omega.{arith}
use lib.IntN.{ℤ}
use Rattle.whole.specs.Places.{place}
use Rattle.station_rules.specs.Places.{line_in, line_places, station_in}
use Rattle.station_rules.specs.Stations.{line_of}
use Rattle.station_rules.specs.declared.Line.{Line}
use Rattle.station_rules.proofs.InPlace.{line_there}

pub line_long : (at : ℕ) → (at + 22) - at ≡ 22
line_long at = omega arith

module _ (words : List ℤ) (line : ℕ) (h : line < 3) where
  pub same_intercept : place (line_places words line) 0 ≡ (line_of (station_in words) line).intercept
  unfolding line_in
  same_intercept = ap (λ (l : Line). l.intercept) (line_there words line h)

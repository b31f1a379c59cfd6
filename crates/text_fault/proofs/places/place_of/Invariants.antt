use mathlib.Core.Path.{◌≡◌}
use Prim.Native.Nat.{◌-◌}
use Rattle.text_fault.specs.Places.{passed, place_of}
use Rattle.text_fault.proofs.places.place_of.Given as goal

-- the lines that are left, behind this place
abbrev pub invariant-loop-line : goal.invariant-loop-line
invariant-loop-line l = passed (l.line - l._line) l.text l.place ≡ place_of l.text l.line

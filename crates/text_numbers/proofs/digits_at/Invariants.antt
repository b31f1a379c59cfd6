-- `text_numbers::digits_at` meets its contract.
use mathlib.Core.Path.{◌≡◌}
use Prim.Native.Nat.{◌<◌}
use lib.ListN.{drop}
use Rattle.chart_rules.specs.TextLines.{digits}
use Rattle.text_numbers.proofs.digits_at.Given as goal

abbrev pub invariant-loop-i : goal.invariant-loop-i
invariant-loop-i l = (l.n < 100000) × (digits l.n l.i (drop l.i l.text) ≡ digits l.first l.at (drop l.at l.text))

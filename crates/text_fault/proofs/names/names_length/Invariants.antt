use mathlib.Core.Path.{◌≡◌}
use Prim.Native.Nat.{◌+◌}
use lib.ListN.{drop}
use Rattle.std.specs.Prelude.{nat_eq}
use Rattle.std.specs.List.{common_prefix_len}
use Rattle.chart_rules.specs.TextLines.{names_line}
use Rattle.text_fault.proofs.names.names_length.Given as goal

-- as far as the loop has come the text has the names line's bytes
abbrev pub invariant-loop-i : goal.invariant-loop-i
invariant-loop-i l = l.i + common_prefix_len nat_eq (drop l.i l.text) (drop l.i names_line) ≡ common_prefix_len nat_eq l.text names_line

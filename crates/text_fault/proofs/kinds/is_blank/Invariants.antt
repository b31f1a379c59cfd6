use mathlib.Core.Path.{◌≡◌}
use lib.ListN.{drop}
use Rattle.text_fault.specs.Kinds.{is_blank}
use Rattle.text_fault.proofs.kinds.is_blank.Given as goal

-- so far nothing but spaces and tabs
abbrev pub invariant-loop-c : goal.invariant-loop-c
invariant-loop-c l = is_blank (drop l.c-index l.bytes) ≡ is_blank l.bytes

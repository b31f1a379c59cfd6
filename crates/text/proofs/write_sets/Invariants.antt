-- `text::write_sets` meets its contract.
use Rattle.text_lines.specs.Lines.{lines_left}
use Rattle.text.proofs.Left.{Left}
use Rattle.text.proofs.write_sets.Given as goal

abbrev pub invariant-loop-read : goal.invariant-loop-read
invariant-loop-read l = Left l.text l.initial.out l.start l.out l.p (lines_left l.read-iterator)

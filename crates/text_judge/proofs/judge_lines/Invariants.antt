-- `text_judge::judge_lines` meets its contract.
use mathlib.Core.Path.{◌≡◌}
use Prim.Native.Nat.{◌+◌, ◌≤◌}
use lib.ListN.{length}
use Rattle.chart_rules.specs.Judging.{first_ruling, value_lines, lines_checks, starts, verdict}
use Rattle.chart_rules.proofs.Judging.{verdict_at}
use Rattle.text_lines.specs.Lines.{lines_left}
use Rattle.text_judge.proofs.judge_lines.Given as goal

abbrev pub invariant-loop-read : goal.invariant-loop-read
invariant-loop-read l =
    record {
      few : l.read-iterator.b.start + length (lines_left l.read-iterator.a) ≤ 70000;
      counted : l.sets ≤ l.read-iterator.b.start;
      five : l.sample ≤ 5;
      left : verdict_at l.week l.sample l.sets l.read-iterator.b.start (lines_left l.read-iterator.a) ≡ verdict (first_ruling (lines_checks 0 0 2 (value_lines l.text))) (starts (value_lines l.text));
    }

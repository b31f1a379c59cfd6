use Rattle.std.proofs.Common.{rules, sym}
use Rattle.chart_rules.proofs.Judging.{judge_refused}
use Rattle.text_lines.specs.Lines.{lines_left}
use Rattle.text_judge.proofs.judge_lines.Goals as goal

pub returns-in_err-rule : goal.returns-in_err-rule
returns-in_err-rule c =
    let s = c.in-Some.ensures.steps in
    let p = judge_refused c.loop-read.week c.loop-read.sample c.loop-read.sets c.in-Some.line c.in-Some-read.v (lines_left c.next.new.self.a) c.in_err-rule.field-0.0 (sym c.in_err-rule.ensures) in
    rw (sym c.loop-read.invariant.left, s.0, sym s.1.0, c.in-Some-read.is, p) (search rules)

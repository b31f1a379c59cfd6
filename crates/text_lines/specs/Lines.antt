-- For the proofs of the code, no rule: what an iterator over value lines has left.
use Rattle.std.specs.Prelude.{List, Option}
use Rattle.chart_rules.specs.Judging.{lines_at}
use Rattle.chart_rules.specs.declared.ValueLine.{ValueLine}
use Rattle.text_lines.specs.declared.ValueLines.{ValueLines}

-- the lines that are left
abbrev pub lines_left : ValueLines → List (Option ValueLine)
lines_left s = lines_at s.text.now s.at

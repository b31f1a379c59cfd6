use mathlib.Core.Path.{◌≡◌}
use native.Mathlib.Omega.{arith}
use lib.ListN.{drop}
use Rattle.chart_rules.specs.TextLines.{names_line}
use Rattle.text_fault.proofs.Lengths.{same_end, same_apart, same_more, same_none}
use Rattle.text_fault.proofs.names.names_length.Goals as goal
use Rattle.text_fault.proofs.names.names_length.Goals.{then-text-i-via-then-text-i, then-text-i-via-else-text-i+then-text-i-2}

pub returns-then-text-i-clause-length : goal.returns-then-text-i-clause-length
returns-then-text-i-clause-length c =
    let text = c.args.text.now in
    let i = c.loop-i.i in
    elim c.then-text-i.branch [
      | then-text-i-via-then-text-i w ↦ omega (arith, same_end text names_line i w.if-text-i.true)
      | then-text-i-via-else-text-i+then-text-i-2 w ↦ omega (arith, same_apart text names_line i w.if-text-i.false c.loop-i-test.true w.if-text-i-2.true)
    ]

pub loop-i-preserved : goal.loop-i-preserved
loop-i-preserved c =
    omega (arith, same_more c.args.text.now names_line c.loop-i.i c.if-text-i.false c.loop-i-test.true c.if-text-i-2.false)

pub returns-clause-length : goal.returns-clause-length
returns-clause-length c =
    let last : c.loop-i.i ≡ 29 = omega arith in
    let whole = rw last at c.loop-i.invariant in
    omega (arith, whole, same_none (drop 29 c.args.text.now))

use Rattle.std.proofs.Common.{arith}
use Rattle.std.proofs.lemmas.Int.{ints}
use Rattle.sheet_again.proofs.TotalLaws.{next_measured, counting_start, counting_next, counting_end}
use Rattle.sheet_again.proofs.counted.Goals as goal

pub loop-sample-init : goal.loop-sample-init
loop-sample-init c =
    let t = c.args.terms in
    let start = counting_start t.limits t.intercept t.small c.args.numbers.now c.requires.0 c.requires.1 in
    rw (c.into_iter-sample-iterator.ensures.into_iter_gives, c.samples-sample-items.ensures) start

pub loop-sample-preserved : goal.loop-sample-preserved
loop-sample-preserved c =
    let t = c.args.terms in
    let steps = c.in-Some.ensures.steps in
    counting_next t.limits t.intercept t.small _ c.loop-sample.invariant _ steps c.add_sample-t.ensures

pub returns-clause-is : goal.returns-clause-is
returns-clause-is c =
    let t = c.args.terms in
    counting_end t.limits t.intercept t.small _ c.loop-sample.invariant c.in-None.ensures.steps.0

pub invariant_of-add_sample : goal.invariant_of-add_sample
invariant_of-add_sample c =
    let t = c.args.terms in
    record { fine = next_measured t.limits t.intercept t.small _ c.loop-sample.invariant _ c.in-Some.ensures.steps }

pub add_sample-t-requires : goal.add_sample-t-requires
add_sample-t-requires c =
    let g = c.loop-sample.invariant in
    (record { over = omega (arith, ints); under = omega (arith, ints) }, omega arith)

use Rattle.std.proofs.Common.{rules, sym}
use borrow.Author.Tests.{tests}
use Rattle.std.proofs.lemmas.Iterator.{YieldsList-from_slice}
use Rattle.std.proofs.lemmas.Iterator.Search.{all_from_yields_List}
use Rattle.whole.specs.Lists.{above, below}
use Rattle.chart_rules.specs.Run.{one_side}
use Rattle.chart_rules.specs.declared.ChartSet.{ChartSet}
use Rattle.chart_run.proofs.one_side.Goals as goal

pub returns-then-all : goal.returns-then-all
unfolding one_side
returns-then-all c =
    let up = all_from_yields_List (λ (s : ChartSet). above s.plot) _ _ c.all.result c.all.ensures.ran (YieldsList-from_slice c.args.four.now c.iter.ensures.rest) (λ x b q k. search (rules, tests)) in
    rw (sym up, c.if-all.true)

pub returns-else-all : goal.returns-else-all
unfolding one_side
returns-else-all c =
    let up = all_from_yields_List (λ (s : ChartSet). above s.plot) _ _ c.all.result c.all.ensures.ran (YieldsList-from_slice c.args.four.now c.iter.ensures.rest) (λ x b q k. search (rules, tests)) in
    rw (sym up, c.if-all.false)
    (all_from_yields_List (λ (s : ChartSet). below s.plot) _ _ c.all-else-all.result c.all-else-all.ensures.ran (YieldsList-from_slice c.args.four.now c.iter-else-all.ensures.rest) (λ x b q k. search (rules, tests)))

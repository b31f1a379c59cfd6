use Rattle.std.proofs.Common.{rules, ◌∙◌, arith}
use borrow.Author.Tests.{tests, lt-ltb, le-leb}
use Rattle.std.proofs.lemmas.Iterator.{YieldsList-from_slice}
use Rattle.std.proofs.lemmas.Iterator.Search.{all_from_yields_List}
use Rattle.chart_rules.specs.Charts.{sound_set, sound, past_of}
use Rattle.chart_state.proofs.sound.Goals as goal

pub returns-then-chart-le-MOST_SETS : goal.returns-then-chart-le-MOST_SETS
unfolding sound
returns-then-chart-le-MOST_SETS c =
    let chart = c.args.chart in
    let row = lt-ltb chart.row 4 (omega arith) in
    let week = le-leb chart.week 9999 (omega arith) in
    let held = le-leb chart.held 4 (omega arith) in
    rw (row, week, held)
    (all_from_yields_List sound_set _ _ c.all.result c.all.ensures.ran (YieldsList-from_slice (past_of chart) (c.iter.ensures.rest ∙ c.past.ensures)) (λ x b q k. search (rules, tests)))

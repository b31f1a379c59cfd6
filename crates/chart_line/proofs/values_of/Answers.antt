-- `chart_line::values_of` meets its contract.
use Rattle.std.proofs.Common.{rules, ◌≡◌, arith, length, take, to_z, of_z, w32}
use Rattle.std.proofs.Math.ListN.{length-take}
use Rattle.std.proofs.lemmas.Int.{ints}
use Rattle.std.proofs.lemmas.List.{take_all}
use Rattle.chart_rules.specs.Charts.{past_of}
use Rattle.chart_rules.specs.Lines.{values_of}
use Rattle.chart_line.proofs.values_of.Goals as goal

-- a chart has four places for its sets
pub returns : goal.returns
unfolding values_of
returns c =
    let chart = c.args.chart in
    let four : length chart.sets ≡ 4 = search rules in
    let newest : take 4 (past_of chart) ≡ past_of chart = take_all 4 (past_of chart) (omega (arith, length-take chart.held chart.sets)) in
    let plot : to_z w32 (of_z w32 c.args.s.plot) ≡ c.args.s.plot = omega (arith, ints) in
    rw (c.absolute.ensures, c.tolerance.ensures, c.run.ensures, c.range_absolute.ensures, c.range_tolerance.ensures, c.limits_of.ensures, c.past.ensures, newest, plot)

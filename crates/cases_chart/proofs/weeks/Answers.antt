use mathlib.Core.Path.{sym, ap}
use native.Mathlib.Omega.{arith}
use Rattle.std.proofs.lemmas.List.{length-take-le}
use Rattle.chart_rules.specs.Calls.{chart_set_of}
use Rattle.chart_rules.specs.InPlace.{ChartedIn, chart_set_in}
use Rattle.chart_rules.proofs.Results.{charted_short}
use Rattle.cases_chart.proofs.weeks.Goals as goal

pub slice_bounds-out-end : goal.slice_bounds-out-end
unfolding chart_set_in chart_set_of
slice_bounds-out-end g c =
    let short = charted_short _ _ _ _ c.in-Ok.charted (sym (ap (λ (x : ChartedIn). x.answer) c.in-Ok.ensures)) in
    omega (arith, short)

pub slice_bounds-write_all-end : goal.slice_bounds-write_all-end
unfolding chart_set_in chart_set_of
slice_bounds-write_all-end g c =
    let short = charted_short _ _ _ _ c.in-Ok.charted (sym (ap (λ (x : ChartedIn). x.answer) c.in-Ok.ensures)) in
    sym (length-take-le c.in-Ok.charted.length c.chart_set.new.out (omega (arith, short)))

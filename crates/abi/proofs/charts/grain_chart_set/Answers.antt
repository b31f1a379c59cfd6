use mathlib.Core.Path.{ap, ◌∙◌}
use Rattle.chart_rules.specs.InPlace.{ChartedIn}
use Rattle.abi_chart.specs.ChartAnswers.{set_given, chart_set_call}
use Rattle.abi_chart.proofs.Lengths.{line_length_lem}
use Rattle.abi.proofs.charts.grain_chart_set.Goals as goal

pub charted-requires : goal.charted-requires
charted-requires c =
    rw (ap (λ (x : ChartedIn). x.answer) c.chart_set.ensures) (line_length_lem c.args.state.now c.args.week c.args.numbers.now c.args.line.now)

pub returns : goal.returns
unfolding chart_set_call
returns c =
    let call = c.chart_set.ensures in
    let given = c.charted.ensures ∙ ap (λ (x : ChartedIn). set_given x.answer) call in
    λ i. record { given = given i; places = (call i).places; line = (call i).buffer }

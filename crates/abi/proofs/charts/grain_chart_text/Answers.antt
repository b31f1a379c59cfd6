use mathlib.Core.Path.{sym, ap, ◌∙◌}
use Rattle.chart_rules.specs.Output.{TextCharted}
use Rattle.abi_chart.specs.ChartAnswers.{text_given, chart_text_call}
use Rattle.abi_chart.proofs.Lengths.{text_length_lem}
use Rattle.abi.proofs.charts.grain_chart_text.Goals as goal

pub written-requires : goal.written-requires
written-requires c =
    rw (sym (ap (λ (x : TextCharted). x.answer) c.chart_text.ensures)) (text_length_lem c.args.text.now c.args.out.now)

pub returns : goal.returns
unfolding chart_text_call
returns c =
    let call = sym c.chart_text.ensures in
    let given = c.written.ensures ∙ ap (λ (x : TextCharted). text_given x.answer) call in
    λ i. record { given = given i; out = (call i).buffer }

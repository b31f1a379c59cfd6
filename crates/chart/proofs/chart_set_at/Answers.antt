-- `chart::chart_set_at` meets its contract.
use mathlib.Core.Path.{◌≡◌, refl, sym, ap, ◌∙◌}
use native.Mathlib.Omega.{arith}
use Prim.Native.Nat.{◌-◌}
use lib.ListN.{length}
use Rattle.std.specs.Prelude.{Ok}
use Rattle.std.proofs.lemmas.Result.{err_from_is_err_and}
use Rattle.chart_rules.specs.Lines.{values_of, line_of}
use Rattle.chart_rules.specs.Calls.{result_of, decided, accepted, bytes_of}
use Rattle.chart_rules.specs.declared.Values.{Values}
use Rattle.chart_line.proofs.Lines.{values_small}
use Rattle.chart.proofs.Ready.{ready}
use Rattle.chart.proofs.chart_set_at.Goals as goal

pub returns-in_err-judge_call-clause-value : goal.returns-in_err-judge_call-clause-value
unfolding result_of decided
returns-in_err-judge_call-clause-value c =
    let p = err_from_is_err_and c.from_residual.result c.from_residual.ensures.1 in
    rw (p.1, p.2, sym c.chart_at-chart.ensures, sym c.in_err-judge_call.ensures)

pub returns-in_err-judge_call-clause-put : goal.returns-in_err-judge_call-clause-put
unfolding bytes_of
returns-in_err-judge_call-clause-put c =
    let p = err_from_is_err_and c.from_residual.result c.from_residual.ensures.1 in
    rw p.1 (record { written = refl; behind = refl })

pub set_of-s-requires : goal.set_of-s-requires
set_of-s-requires c = let r = ready c.chart_at-chart.ensures c.in_ok-judge_call.ensures in (r.size, r.results)

pub write_values-end-requires : goal.write_values-end-requires
write_values-end-requires c =
    let r = ready c.chart_at-chart.ensures c.in_ok-judge_call.ensures in
    (omega (arith, r.place), rw c.values_of-values.ensures (values_small _ _ _ r.time (rw c.set_of-s.ensures r.made)))

pub put_next-requires-clause-state_len : goal.put_next-requires-clause-state_len
put_next-requires-clause-state_len c = (ready c.chart_at-chart.ensures c.in_ok-judge_call.ensures).full

pub put_next-requires-clause-fits : goal.put_next-requires-clause-fits
put_next-requires-clause-fits c =
    let r = ready c.chart_at-chart.ensures c.in_ok-judge_call.ensures in
    rw c.set_of-s.ensures (omega (arith, r.time, r.made))

pub returns-clause-value : goal.returns-clause-value
unfolding result_of decided accepted bytes_of
returns-clause-value c =
    let s = c.args in
    let values = c.values_of-values.ensures ∙ (λ i. values_of (c.chart_at-chart.ensures i) s.week (c.set_of-s.ensures i)) in
    let long : c.write_values-end.result - s.at ≡ length (line_of c.values_of-values.result) = omega (arith, c.write_values-end.ensures.0.behind) in
    let all_long = long ∙ ap (λ (v : Values). length (line_of v)) values in
    rw (sym c.chart_at-chart.ensures, sym c.in_ok-judge_call.ensures, c.chart_at-chart.ensures) (λ i. Ok (record { values = values i; length = all_long i }))

pub returns-clause-put : goal.returns-clause-put
unfolding bytes_of
returns-clause-put c = let put = c.write_values-end.ensures.0 in record { written = put.written; behind = refl }

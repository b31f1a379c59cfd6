-- `chart::chart_set` meets its contract: the line stands at the buffer's start.
use mathlib.Core.Path.{◌≡◌, ap, ◌∙◌}
use native.Mathlib.Omega.{arith}
use Prim.Native.Nat.{ℕ, ◌-◌, ◌≤◌}
use lib.ListN.{length}
use Rattle.decimal.specs.Put.{overwritten}
use Rattle.decimal.proofs.Put.{put_whole}
use Rattle.chart_rules.specs.Places.{chart_at}
use Rattle.chart_rules.specs.Calls.{result_of, bytes_of, chart_set_of}
use Rattle.chart_rules.specs.InPlace.{left_by, chart_set_in}
use Rattle.std.specs.Prelude.{Result}
use Rattle.chart_rules.specs.declared.Refusal.{Refusal}
use Rattle.chart_rules.specs.declared.Charted.{Charted}
use Rattle.chart_rules.proofs.Results.{line_fits}
use Rattle.chart.proofs.chart_set.Goals as goal

pub returns : goal.returns
unfolding chart_set_in chart_set_of
returns c =
    let call = c.chart_set_at.ensures in
    let s = c.args in
    let words = s.state.now in
    let numbers = s.numbers.now in
    let old = s.out.now in
    let all : length old - 0 ≡ length old = omega arith in
    let is = call.value ∙ ap (λ (room : ℕ). (result_of (chart_at words) s.week numbers room).answer) all in
    let short : length (bytes_of c.chart_set_at.result) ≤ length old = rw is (line_fits.inside (chart_at words) s.week numbers (length old)) in
    let places = call.state_after ∙ ap (λ (a : Result Charted Refusal). left_by a words s.week numbers) is in
    let bytes = (put_whole call.put short).0 ∙ ap (λ (a : Result Charted Refusal). overwritten (bytes_of a) old) is in
    λ i. record { answer = is i; places = places i; buffer = bytes i }

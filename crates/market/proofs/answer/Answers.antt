-- `market::answer` meets its contract: a call that numbers 0, 2 or 3 refuse is one law of `answered_of`, any other another.
use mathlib.Core.Path.{◌∙◌, ap₂}
use Prim.Native.Nat.{ℕ}
use Rattle.std.proofs.lemmas.Result.{err_from_is_err_and}
use Rattle.station_rules.specs.Held.{line_values}
use Rattle.station_rules.specs.Places.{station_in}
use Rattle.station_rules.specs.declared.Line.{Line}
use Rattle.station_entry.proofs.EntryLaws.{enters}
use Rattle.market.specs.Answers.{tested_of}
use Rattle.market.proofs.AnswerLaws.{answer_refused, answer_tested}
use Rattle.market.proofs.answer.Goals as goal

pub returns-in_err-entry : goal.returns-in_err-entry
returns-in_err-entry c =
    let q = c.args.request.now in
    let p = err_from_is_err_and c.from_residual.result c.from_residual.ensures.1 in
    rw (p.1, p.2) (answer_refused (station_in c.args.state.now) q.day q.line q.scan q.asked q.basis _ c.in_err-entry.ensures)

pub returns : goal.returns
returns c =
    let w = c.args.state.now in
    let q = c.args.request.now in
    let e = enters w q.day q.line c.in_ok-entry.entry c.in_ok-entry.ensures in
    c.judge.ensures
    ∙ ap₂ (λ (row : ℕ) (l : Line). tested_of row (line_values l) q.day q.line q.scan q.asked q.basis) e.row e.line_is
    ∙ answer_tested (station_in w) q.day q.line q.scan q.asked q.basis e.none

-- Each way out is one law of `DueLaws`.
use Rattle.std.proofs.Common.{arith, ◌∙◌}
use Rattle.std.proofs.lemmas.Result.{err_from_is_err_and}
use Rattle.line_averages.proofs.DueLaws.{one_found, one_due, two_found, two_due, three_due}
use Rattle.line_averages.proofs.meet_newest.Goals as goal

pub returns-in_err-meet : goal.returns-in_err-meet
returns-in_err-meet c =
    let s = c.args in
    let e = c.in_err-meet.ensures in
    let p = err_from_is_err_and c.from_residual.result c.from_residual.ensures.1 in
    rw (p.1, p.2) (one_found s.limits s.set s.set s.set s.newest.now e.0, e.1)

pub returns-in_default : goal.returns-in_default
returns-in_default c =
    let s = c.args in
    (one_due s.limits s.set s.set s.set s.newest.now c.in_ok-meet.ensures.0 c.in_default.len_below, tt)

pub returns-in_err-meet-2 : goal.returns-in_err-meet-2
returns-in_err-meet-2 c =
    let s = c.args in
    let e = c.in_err-meet-2.ensures in
    let p = err_from_is_err_and c.from_residual-in_err-meet-2.result c.from_residual-in_err-meet-2.ensures.1 in
    rw (p.1, p.2) (two_found s.limits s.set c.plus-two.result s.set s.newest.now c.in_ok-meet.ensures.0 (omega arith) c.plus-two.ensures e.0, e.1)

pub returns-in_default-newest : goal.returns-in_default-newest
returns-in_default-newest c =
    let s = c.args in
    (two_due s.limits s.set c.plus-two.result s.set s.newest.now c.in_ok-meet.ensures.0 (omega arith) c.plus-two.ensures c.in_ok-meet-2.ensures.0 (omega arith), tt)

pub returns : goal.returns
returns c =
    let s = c.args in
    let e = c.meet-3.ensures in (
      e.0
          ∙ three_due s.limits s.set c.plus-two.result c.plus.result s.newest.now c.in_ok-meet.ensures.0 (omega arith) c.plus-two.ensures c.in_ok-meet-2.ensures.0 (omega arith) c.plus.ensures,
      e.1,
    )

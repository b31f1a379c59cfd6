use Rattle.std.proofs.Common.{◌∙◌}
use Rattle.std.proofs.lemmas.Result.{err_from_is_err_and}
use Rattle.station_rules.specs.Lines.{newest_tests, five_test}
use Rattle.line_averages.proofs.DueLaws.{found_before, met_before}
use Rattle.line_averages.proofs.meet_averages.Goals as goal

pub returns-in_err-meet_newest : goal.returns-in_err-meet_newest
returns-in_err-meet_newest c =
    let s = c.args in
    let e = c.in_err-meet_newest.ensures in
    let p = err_from_is_err_and c.from_residual.result c.from_residual.ensures.1 in
    rw (p.1, p.2) (found_before _ (newest_tests s.limits s.set s.newest.now) (five_test s.limits s.set s.nonzero.now) e.0, e.1)

pub returns : goal.returns
returns c =
    let s = c.args in
    let e = c.meet_five.ensures in
    (e.0 ∙ met_before (newest_tests s.limits s.set s.newest.now) (five_test s.limits s.set s.nonzero.now) c.in_ok-meet_newest.ensures.0, e.1)

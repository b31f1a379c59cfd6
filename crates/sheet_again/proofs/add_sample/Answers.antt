use mathlib.Core.Path.{◌≡◌}
use mathlib.Core.Bool.{◌||◌}
use Rattle.std.proofs.Common.{arith}
use Rattle.std.proofs.lemmas.Int.{ints, to_z-of_z}
use Rattle.station_rules.specs.Sheets.{deviates}
use Rattle.sheet_again.proofs.TotalLaws.{dropped, joins}
use Rattle.sheet_again.proofs.add_sample.Goals as goal

pub returns-then-is_deviating : goal.returns-then-is_deviating
returns-then-is_deviating c =
    let a = c.args in
    let again = c.in_round-again in
    let either : c.if-t.wrong ≡ a.t.wrong || again.result.wrong = grind arith in
    let test : c.is_deviating.result ≡ deviates a.terms.limits again.result.deviation = grind (arith, to_z-of_z) in
    dropped a.terms.limits a.terms.intercept a.t a.s.sample again.ensures.is either test c.if-is_deviating.true

pub returns : goal.returns
returns c =
    let a = c.args in
    let again = c.in_round-again in
    let either : c.if-t.wrong ≡ a.t.wrong || again.result.wrong = grind arith in
    let test : c.is_deviating.result ≡ deviates a.terms.limits again.result.deviation = grind (arith, to_z-of_z) in
    let small = again.ensures.small in
    joins a.terms.limits a.terms.intercept a.t a.s.sample again.ensures.is either test c.if-is_deviating.false
    (omega (arith, ints, small.over, small.under))

use Rattle.std.proofs.lemmas.Result.{err_from_is_err_and}
use Rattle.station_rules.specs.Sheets.{wrong_number}
use Rattle.station_refusals.specs.declared.Refusal.TheVariants.{SheetNumber}
use Rattle.sheet_numbers.proofs.SheetLaws.{going_end}
use Rattle.sheet_pass.specs.Passes.{Bounded, more}
use Rattle.sheet_pass.proofs.PassLaws.{passing_start, passing_stop}
use Rattle.sheet_pass.proofs.pass.Goals as goal

pub loop-s-init : goal.loop-s-init
loop-s-init c =
    let t = c.args.terms in
    let start = passing_start t.limits t.intercept t.small c.args.numbers.now c.requires.0 c.requires.1 in
    rw (c.into_iter-s-iterator.ensures.into_iter_gives, c.samples-s-items.ensures) start

pub returns-in_err-t-clause-is : goal.returns-in_err-t-clause-is
returns-in_err-t-clause-is c =
    let t = c.args.terms in
    let p = err_from_is_err_and c.from_residual.result c.from_residual.ensures.1 in
    rw (p.1, p.2) (passing_stop t.limits t.intercept t.small _ c.loop-s.invariant _ c.in-Some.ensures.steps c.in_err-t.ensures)

pub returns-clause-is : goal.returns-clause-is
returns-clause-is c =
    let t = c.args.terms in
    going_end wrong_number SheetNumber (more t.limits t.intercept) Bounded _ c.loop-s.invariant c.in-None.ensures.steps.0

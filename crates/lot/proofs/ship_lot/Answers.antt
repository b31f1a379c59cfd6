use borrow.Author.Rules.{rules}
use mathlib.Core.Path.{◌≡◌, sym, ◌∙◌}
use native.Mathlib.Omega.{arith}
use Prim.Native.Nat.{◌+◌}
use Rattle.std.proofs.lemmas.Int.{ints}
use Rattle.std.specs.Prelude.{Err}
use Rattle.std.proofs.lemmas.Bool.Decides.{nat_tests}
use Rattle.std.proofs.lemmas.Result.{MatchResult-at_ok, MatchResult-at_err, err_from_is_err_and}
use Rattle.lot_rules.specs.Lots.{bad_size, lot_of}
use Rattle.lot.proofs.TallyLaws.{Tallying, wrong_size, begun, stepped, done}
use Rattle.lot.proofs.ship_lot.Goals as goal

pub returns-then-not-contains : goal.returns-then-not-contains
unfolding bad_size
returns-then-not-contains c = sym (wrong_size c.args.records.now (grind (arith, nat_tests)))

pub loop-record-init : goal.loop-record-init
unfolding bad_size
loop-record-init c = rw c.new-tally.ensures (begun c.args.records.now _ (omega (arith, ints)) (grind (arith, nat_tests)))

pub returns-in_err-tally : goal.returns-in_err-tally
returns-in_err-tally c =
    let l = c.loop-record in
    let p = err_from_is_err_and c.from_residual.result c.from_residual.ensures.1 in
    let refused =
    MatchResult-at_err (Tallying c.args.records.now (l.record-index + 1)) (λ e. lot_of c.args.records.now ≡ Err e) _ (sym c.with_record.ensures ∙ c.in_err-tally.was)
    (stepped c.args.records.now l.record-index l.tally l.invariant _ c.loop-record-test.true (search rules)) in
    rw (p.1, p.2) (sym refused)

pub loop-record-preserved : goal.loop-record-preserved
loop-record-preserved c =
    let l = c.loop-record in
    MatchResult-at_ok (Tallying c.args.records.now (l.record-index + 1)) (λ e. lot_of c.args.records.now ≡ Err e) c.in_ok-tally.tally (sym c.with_record.ensures ∙ c.in_ok-tally.was)
    (stepped c.args.records.now l.record-index l.tally l.invariant _ c.loop-record-test.true (search rules))

pub returns : goal.returns
returns c = c.statement.ensures ∙ done c.args.records.now _ _ c.loop-record.invariant c.loop-record-test.false

use mathlib.Core.Path.{◌∙◌}
use native.Mathlib.Omega.{arith}
use Rattle.std.proofs.lemmas.Int.{to_z-of_z}
use Rattle.std.proofs.lemmas.Result.{err_from_is_err_and}
use Rattle.sheet.proofs.JudgedLaws.{size_refused, number_refused, found_right, third_refused, judged_in_round, judged_without}
use Rattle.sheet.proofs.judge.Goals as goal

pub returns-then-numbers-samples : goal.returns-then-numbers-samples
returns-then-numbers-samples c =
    let s = c.args in
    size_refused s.limits s.intercept s.samples s.numbers.now c.if-numbers-samples.true

pub returns-in_err-found : goal.returns-in_err-found
returns-in_err-found c =
    let s = c.args in
    let fits = c.ranges.intercept in
    let wrong = simp to_z-of_z at c.in_err-found.ensures.is in
    let p = err_from_is_err_and c.from_residual.result c.from_residual.ensures.1 in
    rw (p.1, p.2) (number_refused s.limits s.intercept s.samples s.numbers.now c.if-numbers-samples.false wrong)

pub returns-then-found : goal.returns-then-found
returns-then-found c =
    let s = c.args in
    let fits = c.ranges.intercept in
    let found = simp to_z-of_z at c.in_ok-found.ensures.is in
    third_refused s.limits s.intercept s.samples s.numbers.now c.if-numbers-samples.false found c.if-found.true

pub in_round-requires : goal.in_round-requires
in_round-requires c =
    (omega arith, (found_right c.args.limits _ _ c.in_ok-found.ensures.is).0)

pub returns-then-again_round : goal.returns-then-again_round
returns-then-again_round c =
    let s = c.args in
    let fits = c.ranges.intercept in
    let found = simp to_z-of_z at c.in_ok-found.ensures.is in
    let round = simp to_z-of_z at c.in_round.ensures in
    round
    ∙ judged_in_round s.limits s.intercept s.samples s.numbers.now c.if-numbers-samples.false found c.if-found.false
    c.again_round.ensures c.if-again_round.true

pub returns-else-again_round : goal.returns-else-again_round
returns-else-again_round c =
    let s = c.args in
    let fits = c.ranges.intercept in
    let found = simp to_z-of_z at c.in_ok-found.ensures.is in
    c.without_round.ensures
    ∙ judged_without s.limits s.intercept s.samples s.numbers.now c.if-numbers-samples.false found c.if-found.false c.again_round.ensures c.if-again_round.false

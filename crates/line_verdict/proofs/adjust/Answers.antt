use mathlib.Core.Path.{◌≡◌, ap, ◌∙◌}
use native.Mathlib.Omega.{arith}
use lib.IntN.{pos, neg_ℤ, nat_abs, ◌-ℤ◌}
use mir.Syntax.{w32}
use mir.Val.{to_z, of_z}
use Rattle.std.proofs.lemmas.Int.{ints}
use Rattle.line_verdict.proofs.VerdictLaws.{adjusted}
use Rattle.line_verdict.proofs.adjust.Goals as goal

pub returns-then-unsigned_abs-le-INTERCEPT_BOUND : goal.returns-then-unsigned_abs-le-INTERCEPT_BOUND
returns-then-unsigned_abs-le-INTERCEPT_BOUND c =
    let i = c.args.l.line.intercept in
    let small = c.args.l.fits.small in
    let a = c.args.average in
    let back : to_z w32 (of_z w32 (pos 0 -ℤ to_z w32 (of_z w32 a))) ≡ neg_ℤ a = omega (arith, ints) in
    let next : to_z w32 (of_z w32 (to_z w32 (of_z w32 i) -ℤ to_z w32 (of_z w32 a))) ≡ i -ℤ a = omega (arith, ints) in
    let size : c.unsigned_abs.result ≡ nat_abs (i -ℤ a) = c.unsigned_abs.ensures.value ∙ ap nat_abs next in
    (adjusted i a (omega arith) back, record { over = omega (arith, ints); under = omega (arith, ints) })

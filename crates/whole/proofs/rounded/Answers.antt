use mathlib.Core.Path.{◌∙◌, ap, ◌≡◌}
use Prim.Native.Nat.{ℕ, ◌+◌, ◌*◌, ◌/◌}
use native.Mathlib.Nat.{div-le_self}
use native.Mathlib.Omega.{arith}
use lib.IntN.{pos, neg_ℤ, ◌-ℤ◌, nat_abs}
use mir.Syntax.{w32}
use mir.Val.{of_z, to_z}
use Rattle.std.proofs.lemmas.Int.{ints, to_z-of_z}
use Rattle.whole.proofs.RoundLaws.{rounded_below, rounded_above}
use Rattle.whole.proofs.rounded.Goals as goal

pub returns-then-dividend-lt0 : goal.returns-then-dividend-lt0
returns-then-dividend-lt0 c =
    let n = c.args.divisor in
    let size = c.unsigned_abs in
    let q = (2 * size.result + n) / (2 * n) in
    let most = div-le_self (2 * size.result + n) (2 * n) in
    let is : to_z w32 (of_z w32 (pos 0 -ℤ to_z w32 q)) ≡ neg_ℤ (pos q) = omega (arith, ints) in (
      is ∙ ap (λ (k : ℕ). neg_ℤ (pos ((2 * k + n) / (2 * n)))) (size.ensures.value ∙ ap nat_abs (to_z-of_z w32 c.args.dividend c.ranges.dividend)) ∙ rounded_below c.args.dividend n (omega (arith, ints)),
      record { over = omega (arith, ints); under = omega (arith, ints) },
    )

pub returns-else-dividend-lt0 : goal.returns-else-dividend-lt0
returns-else-dividend-lt0 c =
    let n = c.args.divisor in
    let size = c.unsigned_abs in
    let q = (2 * size.result + n) / (2 * n) in
    let most = div-le_self (2 * size.result + n) (2 * n) in
    let is : to_z w32 q ≡ pos q = omega (arith, ints) in (
      is ∙ ap (λ (k : ℕ). pos ((2 * k + n) / (2 * n))) (size.ensures.value ∙ ap nat_abs (to_z-of_z w32 c.args.dividend c.ranges.dividend)) ∙ rounded_above c.args.dividend n (omega (arith, ints)),
      record { over = omega (arith, ints); under = omega (arith, ints) },
    )

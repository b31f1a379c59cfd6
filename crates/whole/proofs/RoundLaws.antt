-- A rounded quotient by the sign of what is divided; a quotient rounded halves up, as a figure's tenth and a chart's mean are.
use mathlib.Core.Path.{◌≡◌, refl, ◌∙◌, ap₂}
use Prim.Native.Nat.{ℕ, ◌+◌, ◌*◌, ◌/◌, ◌≤◌, ◌<◌}
use native.Mathlib.Nat.{mul_assoc, add-mul, mul-le-mul_right, mul-div-mul_right, div-mul-le_self, lt-div-mul-add}
use native.Mathlib.Omega.{arith}
use lib.IntN.{ℤ, pos, negsuc, neg_ℤ, nat_abs}
use lib.Signed.{◌<ℤ◌, ◌≤ℤ◌}
use Rattle.std.proofs.lemmas.Int.{ints}
use lib.Dec.{leb}
use borrow.Author.Tests.{leb-true, leb-false}
use Rattle.whole.specs.Rounding.{half_up, rounded_away, nearest_tenth}
use Rattle.whole.proofs.ListLaws.{by_test}

pub rounded_below : (z : ℤ) (n : ℕ) → z <ℤ pos 0 → neg_ℤ (pos (half_up (nat_abs z) n)) ≡ rounded_away z n
unfolding rounded_away
rounded_below (pos m) n h = absurd (omega (arith, ints))
rounded_below (negsuc m) n h = refl

pub rounded_above : (z : ℤ) (n : ℕ) → pos 0 ≤ℤ z → pos (half_up (nat_abs z) n) ≡ rounded_away z n
unfolding rounded_away
rounded_above (pos m) n h = refl
rounded_above (negsuc m) n h = absurd (omega (arith, ints))

-- ---- the whole number nearest to n over d: at most a half off, a half going up

pub half_up_not_above : (n d : ℕ) → 2 * half_up n d * d ≤ 2 * n + d
half_up_not_above n d =
    let q = (2 * n + d) / (2 * d) in
    omega (arith, div-mul-le_self (2 * n + d) (2 * d), twice q d)
  where
    twice : (q d : ℕ) → q * (2 * d) ≡ 2 * q * d
    twice q d = omega arith

pub half_up_not_below : (n d : ℕ) → 0 < d → 2 * n < 2 * half_up n d * d + d
half_up_not_below n d h = omega (arith, lt-div-mul-add {a = 2 * n + d} {b = 2 * d} (omega arith))

-- it is at most a whole number that n over d is at most
pub half_up_at_most : (n d high : ℕ) → 0 < d → n ≤ high * d → half_up n d ≤ high
half_up_at_most n d high h l =
    by_test (leb (half_up n d) high) (λ t. half_up n d ≤ high) (leb-true (half_up n d) high)
    (λ e. let q = mul-le-mul_right d (leb-false (half_up n d) high e) in absurd (omega (arith, q, half_up_not_above n d)))

-- ---- the tenth nearest to n over d, as a figure is reported: said once more, so that nothing about figures rests on how a tenth is rounded

pub nearest_not_above : (n d : ℕ) → 2 * nearest_tenth n d * d ≤ 2 * n + d
unfolding nearest_tenth
nearest_not_above = half_up_not_above

pub nearest_not_below : (n d : ℕ) → 0 < d → 2 * n < 2 * nearest_tenth n d * d + d
unfolding nearest_tenth
nearest_not_below = half_up_not_below

-- it lies between whole tenths that n over d lies between
pub nearest_at_least : (n d low : ℕ) → 0 < d → low * d ≤ n → low ≤ nearest_tenth n d
nearest_at_least n d low h l =
    by_test (leb low (nearest_tenth n d)) (λ t. low ≤ nearest_tenth n d) (leb-true low (nearest_tenth n d))
    (λ e. let q = mul-le-mul_right d (leb-false low (nearest_tenth n d) e) in absurd (omega (arith, q, nearest_not_below n d h)))

pub nearest_at_most : (n d high : ℕ) → 0 < d → n ≤ high * d → nearest_tenth n d ≤ high
unfolding nearest_tenth
nearest_at_most = half_up_at_most

-- a factor of both changes nothing
pub nearest_scaled : (n d w : ℕ) → 0 < w → nearest_tenth (n * w) (d * w) ≡ nearest_tenth n d
unfolding nearest_tenth
nearest_scaled n d w h = ap₂ ◌/◌ over under ∙ mul-div-mul_right (2 * n + d) (2 * d) h
  where
    over : 2 * (n * w) + d * w ≡ (2 * n + d) * w
    over = omega (arith, add-mul (2 * n) d w, mul_assoc 2 n w)

    under : 2 * (d * w) ≡ 2 * d * w
    under = omega (arith, mul_assoc 2 d w)

-- A certificate's figure at a basis lies within its distance of the exact value.
use mathlib.Core.Path.{◌≡◌, ap, subst}
use Prim.Native.Nat.{ℕ, ◌+◌, ◌-◌, ◌*◌, ◌≤◌, ◌<◌}
use native.Mathlib.Nat.{mul-le-mul_left, mul-le-mul_right, mul-one, le_of_lt, div-mul-le_self, lt-div-mul-add}
use native.Mathlib.Omega.{arith}
use lib.Dec.{lit<}
use lib.IntN.{ℤ, pos, nat_abs, ◌+ℤ◌, ◌-ℤ◌, ◌*ℤ◌, one, *ℤ-one}
use lib.Ieee.{Float}
use borrow.Author.Differences.{up, down}
use Rattle.std.proofs.lemmas.Int.{ints}
use Rattle.reading.specs.Reading.{unit, units_of, reading_of}
use Rattle.whole.proofs.RoundLaws.{nearest_not_above, nearest_not_below}
use Rattle.station_rules.specs.Markets.{derived_intercept, tenths, tenths_at}
use Rattle.station_rules.specs.Demand3.{WithinDistance, WithinGluten}

-- ---- the distance, where h is k and the sum of changes any integer
module _ (D a b f k r u : ℕ) where
  -- what is rounded: the figure f of the value k, and the reading r of u units
  pub record Roundings : Type 0 where
    pub low : f * (20 * a) ≤ 2 * k * b + 10 * a
    pub high : 2 * k * b + 10 * a ≤ f * (20 * a) + 20 * a
    pub read_low : r * (2 * D) ≤ 200 * u + D
    pub read_high : 200 * u + D ≤ r * (2 * D) + 2 * D

  -- D times the figure's roundings and b times the reading's, with D · b times the sum and b times the exact value by their parts
  pub within_all : Roundings → (sum : ℤ) → pos r +ℤ sum ≡ pos k
      → nat_abs (pos (20 * D * f * a) -ℤ (pos (200 * u) +ℤ pos (2 * D) *ℤ sum) *ℤ pos b) ≤ 10 * D * a + D * b
  within_all h sum e =
      let exact = pos (200 * u) +ℤ pos (2 * D) *ℤ sum in
      let value : r + up sum ≡ k + down sum = omega (arith, ints) in
      let parts : up exact + 2 * D * down sum ≡ down exact + 200 * u + 2 * D * up sum = omega (arith, ints) in
      let q₁ = mul-le-mul_left D h.low in
      let q₂ = mul-le-mul_left D h.high in
      let q₃ = mul-le-mul_right b h.read_low in
      let q₄ = mul-le-mul_right b h.read_high in
      let q₅ = ap (λ (x : ℕ). D * (x * b)) value in
      let q₆ = ap (λ (x : ℕ). x * b) parts in
      omega (arith, ints)

-- the reading, and the figure at a basis, are rounded to the nearest
roundings : (x : Float) (a b k : ℕ) → 0 < 10000 - a
    → Roundings unit (10000 - a) (10000 - b) (tenths_at a b k) k (reading_of x) (units_of x)
unfolding tenths_at reading_of
roundings x a b k h =
    let n = k * (10000 - b) in
    let d = 10 * (10000 - a) in
    let w = 200 * units_of x + unit in
    record {
      low = omega (arith, nearest_not_above n d);
      high = omega (arith, nearest_not_below n d (omega arith));
      read_low = div-mul-le_self w (2 * unit);
      read_high = le_of_lt (lt-div-mul-add {a = w} {b = 2 * unit} (lit< tt));
    }

pub within : (x : Float) (a b k : ℕ) (sum : ℤ) → 0 < 10000 - a → pos (reading_of x) +ℤ sum ≡ pos k → WithinDistance a b (tenths_at a b k) x sum
within x a b k sum h e =
    within_all unit (10000 - a) (10000 - b) (tenths_at a b k) k (reading_of x) (units_of x) (roundings x a b k h) sum e

-- ---- gluten, which is not converted: both bases are one, so that they go out

gluten_all : (D f k r u : ℕ) → Roundings D 1 1 f k r u → (s : ℤ) → pos r +ℤ s ≡ pos k
    → nat_abs (pos (20 * D * f) -ℤ (pos (200 * u) +ℤ pos (2 * D) *ℤ s)) ≤ 11 * D
unfolding one
gluten_all D f k r u h s e =
    let w = within_all D 1 1 f k r u h s e in
    let z = pos (200 * u) +ℤ pos (2 * D) *ℤ s in
    let near : nat_abs (pos (20 * D * f) -ℤ z) ≤ 10 * D * 1 + D * 1 =
    subst (λ (n : ℕ). nat_abs (pos n -ℤ z) ≤ 10 * D * 1 + D * 1) (mul-one (20 * D * f))
    (subst (λ (y : ℤ). nat_abs (pos (20 * D * f * 1) -ℤ y) ≤ 10 * D * 1 + D * 1) (*ℤ-one z) w) in
    omega (arith, near)

gluten_roundings : (x : Float) (k : ℕ) → Roundings unit 1 1 (tenths k) k (reading_of x) (units_of x)
unfolding tenths reading_of
gluten_roundings x k =
    let w = 200 * units_of x + unit in
    record {
      low = omega (arith, nearest_not_above k 10);
      high = omega (arith, nearest_not_below k 10 (lit< tt));
      read_low = div-mul-le_self w (2 * unit);
      read_high = le_of_lt (lt-div-mul-add {a = w} {b = 2 * unit} (lit< tt));
    }

pub within_gluten : (x : Float) (k : ℕ) (sum : ℤ) → pos (reading_of x) +ℤ derived_intercept sum ≡ pos k → WithinGluten (tenths k) x sum
within_gluten x k sum e = gluten_all unit (tenths k) k (reading_of x) (units_of x) (gluten_roundings x k) (derived_intercept sum) e

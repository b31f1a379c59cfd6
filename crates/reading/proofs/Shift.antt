-- A shift and the bit below it round to the nearest, an exact half going up.
use mathlib.Core.Path.{◌≡◌, sym, ap, ◌∙◌}
use Prim.Native.Nat.{ℕ, suc, ◌+◌, ◌-◌, ◌*◌, ◌/◌, ◌%◌, ◌^◌, ◌≤◌, ◌<◌}
use native.Mathlib.Nat.{mul_comm, mul_assoc, add-mul, pow-suc, div-eq_of_lt, add-div_right, div-div-eq-div-mul, mul-div-mul_right, le_trans}
use native.Mathlib.Omega.{arith}
use lib.Pow.{pow-add, pow_pos, pow_mono, shr_le}
use lib.Bits.{bit_and, and_mask, and_le_l}
use Rattle.reading.specs.Reading.{unit, rounded_of}

-- ---- the half bit

-- (2 p + 2 ^ (t + 1)) / 2 ^ (t + 2) is half of the number that a shift by t keeps, rounded up
folded : (p t : ℕ) → (2 * p + 2 ^ suc t) / (2 * 2 ^ suc t) ≡ (p / 2 ^ t + 1) / 2
folded p t =
    let l = 2 ^ t in
    ap (λ (k : ℕ). (2 * p + k) / (2 * k)) (pow-suc 2 t)
    ∙ ap (λ (k : ℕ). k / (2 * (l * 2))) (top p l)
    ∙ ap (λ (k : ℕ). (p + l) * 2 / k) (mul_comm 2 (l * 2))
    ∙ mul-div-mul_right (p + l) (l * 2) (pow_pos 1)
    ∙ sym (div-div-eq-div-mul (p + l) l 2)
    ∙ ap (λ (k : ℕ). k / 2) (add-div_right p (pow_pos t))
  where
    top : (p l : ℕ) → 2 * p + l * 2 ≡ (p + l) * 2
    top p l = omega arith

half_up : (h : ℕ) → h / 2 + h % 2 ≡ (h + 1) / 2
half_up h = omega arith

kept : (p t : ℕ) → p / 2 ^ suc t + p / 2 ^ t % 2 ≡ (2 * p + 2 ^ suc t) / (2 * 2 ^ suc t)
kept p t =
    ap (λ (k : ℕ). p / k + p / 2 ^ t % 2) (pow-suc 2 t)
    ∙ ap (λ (k : ℕ). k + p / 2 ^ t % 2) (sym (div-div-eq-div-mul p (2 ^ t) 2))
    ∙ half_up (p / 2 ^ t)
    ∙ sym (folded p t)

pub shifted : (p s : ℕ) → 0 < s → p / 2 ^ s + bit_and (p / 2 ^ (s - 1)) 1 ≡ rounded_of p s
unfolding rounded_of
shifted p s h =
    ap (λ (k : ℕ). p / 2 ^ s + k) (and_mask (p / 2 ^ (s - 1)) 1)
    ∙ ap (λ (k : ℕ). p / 2 ^ k + p / 2 ^ (s - 1) % 2) (sym (back s h))
    ∙ kept p (s - 1)
    ∙ ap (λ (k : ℕ). (2 * p + 2 ^ k) / (2 * 2 ^ k)) (back s h)
  where
    back : (s : ℕ) → 0 < s → suc (s - 1) ≡ s
    back s h = omega arith

-- what is shifted and what is masked are small, whatever the mask
pub shifted_lt : (p s mask : ℕ) → p < 2 ^ 31 → p / 2 ^ s + bit_and (p / 2 ^ (s - 1)) mask < 2 ^ 32
shifted_lt p s mask h =
    let halved : p / 2 ^ (s - 1) ≤ p = shr_le p (s - 1) in
    go (p / 2 ^ s) (bit_and (p / 2 ^ (s - 1)) mask) (shr_le p s) (le_trans (and_le_l (p / 2 ^ (s - 1)) mask) halved)
  where
    go : (a b : ℕ) → a ≤ p → b ≤ p → a + b < 2 ^ 32
    go a b k l = omega arith

-- from a shift of 32 on nothing is left, nor a half
pub far : (p s : ℕ) → p < 2 ^ 31 → 32 ≤ s → 0 ≡ rounded_of p s
unfolding rounded_of
far p s h k = sym (div-eq_of_lt (go (2 ^ s) (pow_mono k)))
  where
    go : (l : ℕ) → 2 ^ 32 ≤ l → 2 * p + l < 2 * l
    go l g = omega arith

-- ---- a size of q * 2 ^ j units, j + k being 149, is q / 2 ^ k

pub scaled : (q j k : ℕ) → k + j ≡ 149 → (200 * (q * 2 ^ j) + unit) / (2 * unit) ≡ rounded_of (q * 100) k
unfolding rounded_of
scaled q j k e =
    let l : unit ≡ 2 ^ k * 2 ^ j = ap (λ (i : ℕ). 2 ^ i) (sym e) ∙ pow-add 2 k j in
    go (unit) (2 ^ k) (2 ^ j) l (pow_pos j)
  where
    twice : (q : ℕ) → 200 * q ≡ 2 * (q * 100)
    twice q = omega arith

    go : (l a b : ℕ) → l ≡ a * b → 0 < b → (200 * (q * b) + l) / (2 * l) ≡ (2 * (q * 100) + a) / (2 * a)
    go l a b r p =
        ap (λ (i : ℕ). (200 * (q * b) + i) / (2 * i)) r
        ∙ ap (λ (i : ℕ). (i + a * b) / (2 * (a * b))) (sym (mul_assoc 200 q b) ∙ ap (λ (i : ℕ). i * b) (twice q))
        ∙ ap (λ (i : ℕ). i / (2 * (a * b))) (sym (add-mul (2 * (q * 100)) a b))
        ∙ ap (λ (i : ℕ). (2 * (q * 100) + a) * b / i) (sym (mul_assoc 2 a b))
        ∙ mul-div-mul_right (2 * (q * 100) + a) (2 * a) p

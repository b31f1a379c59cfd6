-- What `reading` finds in a float: its three comparisons are `in_range`, and where they pass, its bits, masked and shifted, give the reading.
use Rattle.std.specs.Prelude.{Some, None}
use mathlib.Core.Path.{◌≡◌, refl, sym, ap, ◌∙◌, subst}
use mathlib.Core.Bool.{Bool, true, false, not, ◌&&◌, true≢false}
use Prim.Native.Nat.{ℕ, zero, suc, ◌+◌, ◌-◌, ◌*◌, ◌/◌, ◌%◌, ◌^◌, ◌≤◌, ◌<◌}
use native.Mathlib.Nat.{lt_of_le_of_lt, lt_of_lt_of_le, lt_of_not-le, le_of_lt, lt_irrefl, le_trans, le_of_eq, le-add_right, mul-le-mul_right, mul-pos, zero-mul, eq-zero-or-pos, add_comm}
use mathlib.Core.Logic.{inl, inr}
use native.Mathlib.Omega.{arith}
use lib.IntN.{pos}
use lib.Dec.{T, leb, lit<}
use lib.Pow.{pow-add, pow_pos, pow_mono, field}
use lib.Bits.{bit_and, and_mask, mask_lt}
use lib.Ieee.{Float, nan, inf, fin, binary32, up, down, fits, is_nan, of_bits, to_bits, lt, ne}
use lib.Ieee.Fits.{up_pos, down_pos}
use lib.Ieee.Bits.{is_true, to_bits-lt}
use lib.Ieee.Exact.{HasValue}
use lib.Ieee.Compare.{differs_from_itself}
use borrow.Author.Tests.{ltb-true, ltb-false, le-leb, lt-leb, eq-eqb, ne_eqb}
use Rattle.reading.specs.Reading.{unit, units_of, in_range, rounded_of, reading_of, answer_of}
use Rattle.reading.proofs.Units.{field_units, sized, units_by_fields}
use Rattle.reading.proofs.Laws.{answer_in, answer_out, range_finite, range_sign, range_units}
use Rattle.reading.proofs.Shift.{scaled}

-- ---- the comparisons. 0.0 and 100.0 are as MIR has them, by their bit patterns

abbrev nought : Float
nought = fin false 0 (pos 0)

abbrev hundred : Float
hundred = fin false 25 (pos 2)

nought_is : of_bits binary32 0 ≡ nought
unfolding of_bits
nought_is = refl

hundred_is : of_bits binary32 0x42c8_0000 ≡ hundred
unfolding of_bits
hundred_is = refl

-- a product whose second factor is above 0 is 0 exactly where the first is
first_zero : (m u : ℕ) → 0 < u → m * u ≡ 0 → m ≡ 0
first_zero m u U z = elim (eq-zero-or-pos m) [ inl e ↦ e | inr p ↦ absurd (lt_irrefl 0 (subst (λ (k : ℕ). 0 < k) z (mul-pos p U))) ]

times_zero : (m u : ℕ) → m ≡ 0 → m * u ≡ 0
times_zero m u z = ap (λ (k : ℕ). k * u) z ∙ zero-mul u

-- x differs from itself, is less than 0, or is greater than 100: it is out of range. `omega` takes m * up e and down e as unknowns
nan_out : (x : Float) → ne x x ≡ true → in_range x ≡ false
unfolding in_range
nan_out x h = ap in_range (differs_from_itself x (subst T (sym h) tt))

below_out : (x : Float) → lt x nought ≡ true → in_range x ≡ false
unfolding in_range lt
below_out nan h = refl
below_out (inf s) h = refl
below_out (fin false m e) h = let None : ⊥ = omega (arith, ltb-true (m * up e * 1) (0 * down e) h) in absurd None
below_out (fin true m e) h =
    let Some : m ≡ 0 → ⊥ = λ z. omega (arith, times_zero m (up e) z, ltb-true 0 (m * up e * 1 + 0 * down e) h) in
    ap (λ (k : Bool). k && leb (m * up e) (100 * down e)) (ne_eqb m 0 Some)

above_out : (x : Float) → lt hundred x ≡ true → in_range x ≡ false
unfolding in_range lt
above_out nan h = refl
above_out (inf s) h = refl
above_out (fin false m e) h = lt-leb (m * up e) (100 * down e) (omega (arith, ltb-true (100 * down e) (m * up e * 1) h))
above_out (fin true m e) h = absurd (true≢false (sym h))

-- none of the three: it is in range
passed : (x : Float) → ne x x ≡ false → lt x nought ≡ false → lt hundred x ≡ false → in_range x ≡ true
unfolding in_range lt ne
passed nan a b c = absurd (true≢false a)
passed (inf true) a b c = absurd (true≢false b)
passed (inf false) a b c = absurd (true≢false c)
passed (fin false m e) a b c = le-leb (m * up e) (100 * down e) (omega (arith, ltb-false (100 * down e) (m * up e * 1) c))
passed (fin true m e) a b c =
    let z : m * up e ≡ 0 = omega (arith, ltb-false 0 (m * up e * 1 + 0 * down e) b) in
    ap (λ (k : Bool). k && leb (m * up e) (100 * down e)) (eq-eqb m 0 (first_zero m (up e) (up_pos e) z))
    ∙ le-leb (m * up e) (100 * down e) (omega arith)

pub refused_nan : (x : Float) → ne x x ≡ true → None ≡ answer_of x
refused_nan x h = sym (answer_out x (nan_out x h))

pub refused_below : (x : Float) → lt x (of_bits binary32 0) ≡ true → None ≡ answer_of x
refused_below x h = sym (answer_out x (below_out x (subst (λ (k : Float). lt x k ≡ true) nought_is h)))

pub refused_above : (x : Float) → lt (of_bits binary32 0x42c8_0000) x ≡ true → None ≡ answer_of x
refused_above x h = sym (answer_out x (above_out x (subst (λ (k : Float). lt k x ≡ true) hundred_is h)))

-- a size is 0 only where the exponent field and the fraction are
field_zero : (k t : ℕ) → field_units k t ≡ 0 → (k ≡ 0) × (t ≡ 0)
unfolding field_units
field_zero zero t z = (refl, z)
field_zero (suc j) t z = let none : 2 ^ 23 + t ≡ 0 = first_zero (2 ^ 23 + t) (2 ^ j) (pow_pos j) z in absurd (lt_irrefl 0 (omega (arith, none)))

-- in range with its sign set a float is minus zero, of size 0
sign_alone : (x : Float) (s : Bool) (a : ℕ) → HasValue x s a unit → T (in_range x) → s ≡ true → a ≡ 0
sign_alone nan s a h r e = absurd h
sign_alone (inf t) s a h r e = absurd h
sign_alone (fin t m k) s a h r e =
    let z : m ≡ 0 = range_sign t m k r (h.0 ∙ e) in
    first_zero a (down k) (down_pos k) (sym h.1 ∙ times_zero (m * up k) unit (times_zero m (up k) z))

-- so bits above those of minus zero are out of range
bits_out : (x : Float) → T (fits binary32 x) → 2 ^ 31 < to_bits binary32 x → (v : Bool) → in_range x ≡ v → v ≡ false
bits_out x F h false e = refl
bits_out x F h true e =
    let b = to_bits binary32 x in
    let r : T (in_range x) = subst T (sym e) tt in
    let z = field_zero (b % 2 ^ 31 / 2 ^ 23) (b % 2 ^ 23) (sign_alone x (leb (2 ^ 31) b) (field_units (b % 2 ^ 31 / 2 ^ 23) (b % 2 ^ 23)) (sized x F (range_finite x r)) r (le-leb (2 ^ 31) b (le_of_lt h))) in
    absurd (none b (to_bits-lt binary32 x F) h z.0 z.1)
  where
    none : (b : ℕ) → b < 2 ^ 32 → 2 ^ 31 < b → b % 2 ^ 31 / 2 ^ 23 ≡ 0 → b % 2 ^ 23 ≡ 0 → ⊥
    none b l h y z = omega arith

pub refused_bits : (x : Float) → T (fits binary32 x) → 2 ^ 31 < to_bits binary32 x → None ≡ answer_of x
refused_bits x F h = sym (answer_out x (bits_out x F h (in_range x) refl))

pub in_range_lem : (x : Float) → ne x x ≡ false → lt x (of_bits binary32 0) ≡ false → lt (of_bits binary32 0x42c8_0000) x ≡ false → T (in_range x)
in_range_lem x a b c = subst T (sym (passed x a (subst (λ (k : Float). lt x k ≡ false) nought_is b) (subst (λ (k : Float). lt k x ≡ false) hundred_is c))) tt

-- ---- the masks

-- the fraction, and the exponent field, of a pattern b
pub fraction_is : (b : ℕ) → bit_and b 0x7f_ffff ≡ b % 2 ^ 23
fraction_is b = and_mask b 23

pub fraction_lt : (b : ℕ) → bit_and b 0x7f_ffff < 2 ^ 23
fraction_lt b = mask_lt b 23

exponent_is : (b : ℕ) → bit_and (b / 2 ^ 23) 0xff ≡ b % 2 ^ 31 / 2 ^ 23
exponent_is b = and_mask (b / 2 ^ 23) 8 ∙ sym (field b 8 23)

-- ---- the reading, of an x in range and its pattern b

pow_lt_back : (i p : ℕ) → 2 ^ i < 2 ^ p → i < p
pow_lt_back i p h = lt_of_not-le (λ (g : p ≤ i). lt_irrefl (2 ^ i) (lt_of_lt_of_le h (pow_mono g)))

-- at most 100 * unit units, below 2 ^ 156: the exponent field is at most 133
field_small : (j t : ℕ) → (2 ^ 23 + t) * 2 ^ j ≤ 100 * unit → j < 133
field_small j t h =
    let most : 100 * unit < 2 ^ 156 = lit< tt in
    go (pow_lt_back (23 + j) 156 (lt_of_le_of_lt (le_trans (le_of_eq (pow-add 2 23 j)) (mul-le-mul_right (2 ^ j) (le-add_right (2 ^ 23) t))) (lt_of_le_of_lt h most)))
  where
    go : 23 + j < 156 → j < 133
    go k = omega arith

module _ (x : Float) (F : T (fits binary32 x)) (R : T (in_range x)) where
  abbrev b : ℕ
  b = to_bits binary32 x

  abbrev exponent : ℕ
  exponent = bit_and (b / 2 ^ 23) 0xff

  abbrev fraction : ℕ
  fraction = bit_and b 0x7f_ffff

  pub no_nan : T (not (is_nan x))
  unfolding is_nan in_range
  no_nan = go x R
    where
      go : (y : Float) → T (in_range y) → T (not (is_nan y))
      go nan h = absurd h
      go (inf s) h = absurd h
      go (fin s m e) h = tt

  -- the size in units, by what the masks give
  units : units_of x ≡ field_units exponent fraction
  units =
      units_by_fields x F (range_finite x R)
      ∙ ap (λ (k : ℕ). field_units k (b % 2 ^ 23)) (sym (exponent_is b))
      ∙ ap (λ (k : ℕ). field_units exponent k) (sym (fraction_is b))

  reading_is : reading_of x ≡ (200 * field_units exponent fraction + unit) / (2 * unit)
  unfolding reading_of
  reading_is = ap (λ (k : ℕ). (200 * k + unit) / (2 * unit)) units

  -- a field above 0 is j + 1, for a j below 133
  field_lt : (k : ℕ) → exponent ≡ k → (k ≡ 0 → ⊥) → k ≤ 133
  unfolding field_units
  field_lt zero e n = absurd (n refl)
  field_lt (suc j) e n = field_small j fraction (le_trans (le_of_eq (sym (units ∙ ap (λ (k : ℕ). field_units k fraction) e))) (range_units x R))

  pub exponent_le : (exponent ≡ 0 → ⊥) → exponent ≤ 133
  exponent_le n = field_lt exponent refl n

  by_field : (k : ℕ) → exponent ≡ k → (k ≡ 0 → ⊥) → reading_of x ≡ rounded_of ((fraction + 2 ^ 23) * 100) (150 - k)
  unfolding field_units
  by_field zero e n = absurd (n refl)
  by_field (suc j) e n =
      reading_is
      ∙ ap (λ (k : ℕ). (200 * field_units k fraction + unit) / (2 * unit)) e
      ∙ scaled (2 ^ 23 + fraction) j (150 - suc j) (go (field_lt (suc j) e n))
      ∙ ap (λ (k : ℕ). rounded_of (k * 100) (150 - suc j)) (add_comm (2 ^ 23) fraction)
    where
      go : suc j ≤ 133 → 150 - suc j + j ≡ 149
      go h = omega arith

  pub normal : (exponent ≡ 0 → ⊥) → reading_of x ≡ rounded_of ((fraction + 2 ^ 23) * 100) (150 - exponent)
  normal n = by_field exponent refl n

  pub subnormal : exponent ≡ 0 → reading_of x ≡ rounded_of (fraction * 100) 149
  unfolding field_units
  subnormal e =
      reading_is
      ∙ ap (λ (k : ℕ). (200 * field_units k fraction + unit) / (2 * unit)) e
      ∙ ap (λ (k : ℕ). (200 * k + unit) / (2 * unit)) (one fraction)
      ∙ scaled fraction 0 149 refl
    where
      one : (t : ℕ) → t ≡ t * 2 ^ 0
      one t = omega arith

  pub answer : (r : ℕ) → reading_of x ≡ r → Some r ≡ answer_of x
  answer r e = sym (answer_in x (is_true (in_range x) R) ∙ ap Some e)

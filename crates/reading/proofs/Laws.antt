-- The theorem `reading_laws`, and what a caller that matches on the answer learns.
use Rattle.std.specs.Prelude.{Some, None}
use mathlib.Core.Path.{◌≡◌, refl, sym, ap, ◌∙◌, subst, subst⁻¹}
use mathlib.Core.Bool.{Bool, true, false, not, ◌||◌, cond, true≢false}
use Prim.Native.Nat.{ℕ, ◌+◌, ◌*◌, ◌/◌, ◌≤◌, ◌<◌}
use native.Mathlib.Nat.{le_trans, le_of_eq, le_of_suc-le-suc, add-mul, mul_comm, mul_assoc, mul_right_comm, mul-le-mul_right, le_of_mul-le-mul_right, div-le_of_le-mul, div-mul-le_self, div-eq_of_lt-le, lt-div-mul-add, div-lt_iff_lt-mul}
use native.Mathlib.Omega.{arith}
use lib.IntN.{ℤ}
use lib.Dec.{T, leb, eqb, leb→le, le→leb, eqb→eq, eqb_refl}
use lib.Pow.{pow_pos}
use lib.Ieee.{Float, nan, inf, fin, binary32, up, down, fits}
use lib.Ieee.Fits.{and_i, and_l, and_r}
use lib.Ieee.Scale.{finite}
use Rattle.reading.specs.Reading.{unit, units_of, in_range, reading_of, answer_of, hundredths, refused_by, said_by}
use Rattle.reading.specs.Laws.{ReadingLaws}
use Rattle.reading.proofs.Units.{units_exact}

-- ---- the answer by cases, and back

pub answer_in : (x : Float) → in_range x ≡ true → answer_of x ≡ Some (reading_of x)
unfolding answer_of
answer_in x h = ap (λ (b : Bool). cond b (Some (reading_of x)) None) h

pub answer_out : (x : Float) → in_range x ≡ false → answer_of x ≡ None
unfolding answer_of
answer_out x h = ap (λ (b : Bool). cond b (Some (reading_of x)) None) h

pub answered : (x : Float) (r : ℕ) → answer_of x ≡ Some r → T (in_range x) × (reading_of x ≡ r)
unfolding answer_of
answered x r h = go (in_range x) h
  where
    go : (b : Bool) → cond b (Some (reading_of x)) None ≡ Some r → T b × (reading_of x ≡ r)
    go true e = (tt, cc)
    go false e = let z : true ≡ false = cc in absurd (true≢false z)

-- a reading that is refused isn't in the range
pub refused : (x : Float) → answer_of x ≡ None → T (not (in_range x))
unfolding answer_of
refused x h = go (in_range x) h
  where
    go : (b : Bool) → cond b (Some (reading_of x)) None ≡ None → T (not b)
    go true e = let z : true ≡ false = cc in absurd (true≢false z)
    go false e = tt

said_by_cases : (x : Float) → said_by (answer_of x) ≡ cond (in_range x) (hundredths (reading_of x)) (refused_by 9)
unfolding answer_of
said_by_cases x = go (in_range x)
  where
    go : (b : Bool) → said_by (cond b (Some (reading_of x)) None) ≡ cond b (hundredths (reading_of x)) (refused_by 9)
    go true = refl
    go false = refl

-- ---- what the range means

pub range_finite : (x : Float) → T (in_range x) → T (finite x)
unfolding in_range
range_finite nan h = absurd h
range_finite (inf s) h = absurd h
range_finite (fin s m e) h = tt

pub range_sign : (s : Bool) (m : ℕ) (e : ℤ) → T (in_range (fin s m e)) → s ≡ true → m ≡ 0
unfolding in_range
range_sign true m e h r = eqb→eq m 0 (and_l (eqb m 0) (leb (m * up e) (100 * down e)) h)
range_sign false m e h r = absurd (true≢false (sym r))

pub range_units : (x : Float) → T (in_range x) → units_of x ≤ 100 * unit
unfolding in_range units_of
range_units nan h = absurd h
range_units (inf s) h = absurd h
range_units (fin s m e) h =
    div-le_of_le-mul (down e)
    (le_trans (mul-le-mul_right unit (leb→le (m * up e) (100 * down e) (and_r (not s || eqb m 0) (leb (m * up e) (100 * down e)) h)))
    (le_of_eq (ap (λ (k : ℕ). k * unit) (mul_comm 100 (down e)) ∙ mul_assoc (down e) 100 unit)))

sign_test : (s : Bool) (m : ℕ) → (s ≡ true → m ≡ 0) → T (not s || eqb m 0)
sign_test true m h = subst⁻¹ (λ (k : ℕ). T (eqb k 0)) (h refl) (eqb_refl 0)
sign_test false m h = tt

range_from : (s : Bool) (m : ℕ) (e : ℤ) → T (fits binary32 (fin s m e)) → (s ≡ true → m ≡ 0) → units_of (fin s m e) ≤ 100 * unit → T (in_range (fin s m e))
unfolding in_range
range_from s m e F k h =
    and_i (not s || eqb m 0) (leb (m * up e) (100 * down e)) (sign_test s m k)
    (le→leb (m * up e) (100 * down e)
    (le_of_mul-le-mul_right
    (le_trans (le_of_eq (sym (units_exact s m e F))) (le_trans (mul-le-mul_right (down e) h) (le_of_eq (mul_right_comm 100 unit (down e)))))
    (pow_pos 149)))

-- ---- the whole number nearest to 100 u / l. `omega` reads no number of more than 38 digits, so l stands for a unit's denominator

module _ (u l : ℕ) (L : 0 < l) where
  abbrev d : ℕ
  d = 2 * l

  abbrev q : ℕ
  q = (200 * u + l) / d

  D : 0 < d
  D = omega arith

  low : d * q ≤ 200 * u + l
  low = le_trans (le_of_eq (mul_comm d q)) (div-mul-le_self (200 * u + l) d)

  high : 200 * u < d * q + l
  high = go (q * d) (d * q) (mul_comm q d) (lt-div-mul-add D)
    where
      go : (a b : ℕ) → a ≡ b → 200 * u + l < a + 2 * l → 200 * u < b + l
      go a b c h = omega arith

  one_only : (r : ℕ) → d * r ≤ 200 * u + l → 200 * u < d * r + l → r ≡ q
  one_only r a b = sym (div-eq_of_lt-le d (le_trans (le_of_eq (mul_comm r d)) a) (go (d * r) ((r + 1) * d) (add-mul r 1 d ∙ ap (λ (k : ℕ). k + 1 * d) (mul_comm r d)) b))
    where
      go : (a c : ℕ) → c ≡ a + 1 * (2 * l) → 200 * u < a + l → 200 * u + l < c
      go a c e h = omega arith

  capped : u ≤ 100 * l → q ≤ 10000
  capped h = le_of_suc-le-suc ((div-lt_iff_lt-mul D).1 (go d refl))
    where
      go : (k : ℕ) → k ≡ 2 * l → 200 * u + l < 10001 * k
      go k e = omega arith

at_most : (x : Float) → T (in_range x) → reading_of x ≤ 10000
unfolding reading_of
at_most x h = capped (units_of x) unit (pow_pos 149) (range_units x h)

-- what `reading` answers is at most 10000
pub answer_le : (x : Float) (r : ℕ) → answer_of x ≡ Some r → r ≤ 10000
answer_le x r h = subst (λ (k : ℕ). k ≤ 10000) (answered x r h).1 (at_most x (answered x r h).0)

pub reading_laws : (x : Float) → ReadingLaws x
unfolding reading_of
reading_laws x =
    record {
      said = said_by_cases x;
      exact = λ s m e q F. subst⁻¹ (λ (y : Float). units_of y * down e ≡ m * up e * unit) q (units_exact s m e (subst (λ (y : Float). T (fits binary32 y)) q F));
      not_above = low (units_of x) unit (pow_pos 149);
      below = high (units_of x) unit (pow_pos 149);
      only = one_only (units_of x) unit (pow_pos 149);
      number = range_finite x;
      sign = λ s m e q h. range_sign s m e (subst (λ (y : Float). T (in_range y)) q h);
      up_to = range_units x;
      accepted =
          λ s m e q F k h.
          subst⁻¹ (λ (y : Float). T (in_range y)) q
          (range_from s m e (subst (λ (y : Float). T (fits binary32 y)) q F) k (subst (λ (y : Float). units_of y ≤ 100 * unit) q h));
      most = at_most x;
    }

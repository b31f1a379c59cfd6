-- By the limits of every row an adjustment's change is never 0, so that a sheet's change tells whether it adjusted its line or shut it.
use mathlib.Core.Path.{◌≡◌, refl, sym, ◌∙◌, ap, subst}
use mathlib.Core.Bool.{Bool, true, false, cond, true≢false}
use mathlib.Core.List.{List, [], ◌∷◌, ◌++◌}
use Rattle.std.specs.Prelude.{Option, None, Some}
use Prim.Native.Nat.{ℕ, zero, suc, ◌+◌, ◌*◌, ◌/◌, ◌≤◌, ◌<◌}
use native.Mathlib.Omega.{arith}
use native.Mathlib.Nat.{mul-le-mul_right, div-lt_iff_lt-mul}
use lib.Dec.{eqb}
use lib.IntN.{ℤ, pos, negsuc, neg_ℤ, nat_abs, ◌-ℤ◌}
use borrow.Author.Tests.{ltb-true, eqb-false, ne_eqb}
use Rattle.std.proofs.lemmas.Int.{ints}
use Rattle.whole.specs.Rounding.{rounded_away}
use Rattle.station_rules.specs.Rows.{line_count, limits_of}
use Rattle.station_rules.specs.Lines.{LinePhase, new_line, open_line, adjusted_line, shut_line, Values, exceeded, same_side, test_of, plus, newest_tests, five_test, tests_by, tests_due, first_exceeded, rounded_average, sound_intercept, judged, verdict_of, change_of, phase_after, is_met, met_every, valid_on}
use Rattle.station_rules.specs.Books.{check_due_by}
use Rattle.station_rules.specs.Laws.{AdjustmentChanges}
use Rattle.station_rules.specs.declared.PastSet.{PastSet}
use Rattle.station_rules.specs.declared.Verdict.{Verdict}
use Rattle.station_rules.specs.declared.Verdict.TheVariants.{Met, Adjusted, Shut}
use Rattle.station_rules.specs.declared.Test.{Test}
use Rattle.station_rules.specs.declared.Set.{Set}
use Rattle.station_rules.specs.declared.Limits.{Limits}
use Rattle.station_rules.proofs.RowFacts.{LimitsFacts, row_facts}
use Rattle.station_rules.proofs.DueTests.{OfLimits, due_each, first_each}
use Rattle.station_rules.proofs.Verdicts.{met_is_met}

-- ---- an average of at least 1 is not rounded to 0

quotient_some : (k n : ℕ) → 1 ≤ n → n ≤ k → (2 * k + n) / (2 * n) ≡ 0 → ⊥
quotient_some k n h g e =
    let below : 2 * k + n < 1 * (2 * n) = (div-lt_iff_lt-mul {k = 2 * n} {x = 2 * k + n} {y = 1} (omega arith)).0 (omega arith) in
    omega arith

rounded_some : (z : ℤ) (n : ℕ) → 1 ≤ n → n ≤ nat_abs z → neg_ℤ (rounded_away z n) ≡ pos 0 → ⊥
unfolding rounded_away
rounded_some (pos k) n h g e = quotient_some k n h g (omega (arith, ints))
rounded_some (negsuc k) n h g e = quotient_some (suc k) n h g (omega (arith, ints))

-- ---- the tests due

-- its limit is at least 1 and its N above 0
abbrev Fair : Test → Type 0
Fair t = (1 ≤ t.limit) × (1 ≤ t.count)

fair_limits : (limits : Limits) → LimitsFacts limits → (set : Set) → 1 ≤ set.count → OfLimits Fair limits set
fair_limits limits f set some' =
    record {
      one = (f.one.least, some');
      two = λ p. (f.two.least, omega arith);
      three = λ p q. (f.three.least, omega arith);
      five = λ p q r s. (f.five.least, omega arith);
      check = (f.check.least, some');
    }

-- a test exceeded adjusts by an average that isn't 0
average_some : (t : Test) → Fair t → exceeded t ≡ true → neg_ℤ (rounded_average t) ≡ pos 0 → ⊥
average_some t f e =
    let above = ltb-true (t.limit * t.count) (nat_abs t.sum) e in
    let least : 1 * t.count ≤ t.limit * t.count = mul-le-mul_right t.count f.0 in
    rounded_some t.sum t.count f.1 (omega arith)

-- ---- the verdict

module _ (row line : ℕ) (here : line < line_count row) (v : Values) (day : ℕ) (set : Set) where
  abbrev limits : Limits
  limits = limits_of row line

  change_some : (change : ℤ) → verdict_of limits v day set ≡ Adjusted change → change ≡ pos 0 → ⊥
  unfolding verdict_of
  change_some change = go (eqb set.count 0) refl
    where
      adjusted : (t : Test) → Fair t × (exceeded t ≡ true) → (b : Bool) → cond b (Adjusted (neg_ℤ (rounded_average t))) Shut ≡ Adjusted change → change ≡ pos 0 → ⊥
      adjusted t f true e z = let q : neg_ℤ (rounded_average t) ≡ change = cc in average_some t f.0 f.1 (q ∙ z)
      adjusted t f false e z = grind arith

      by_test : 1 ≤ set.count → (o : Option Test) → first_exceeded (tests_due limits v day set) ≡ o → judged v.intercept o ≡ Adjusted change → change ≡ pos 0 → ⊥
      by_test some' None g e z = grind arith
      by_test some' (Some t) g e z =
          let fair = fair_limits limits ((row_facts row).line_limits line here) set some' in
          let due = due_each Fair limits set fair v.phase (valid_on day v.newest) (valid_on day v.nonzero) in
          adjusted t (first_each Fair (tests_due limits v day set) t due g)
          (sound_intercept (v.intercept -ℤ rounded_average t)) e z

      go : (b : Bool) → eqb set.count 0 ≡ b → cond b Shut (judged v.intercept (first_exceeded (tests_due limits v day set))) ≡ Adjusted change → change ≡ pos 0 → ⊥
      go true g e z = grind arith
      go false g e z = by_test (some_of set.count (eqb-false set.count 0 g)) (first_exceeded (tests_due limits v day set)) refl e z
        where
          some_of : (n : ℕ) → (n ≡ 0 → ⊥) → 1 ≤ n
          some_of zero h = absurd (h refl)
          some_of (suc n) h = omega arith

  phase_told : met_every limits v day set ≡ false → phase_after (verdict_of limits v day set) ≡ check_due_by (change_of (verdict_of limits v day set))
  phase_told m = go (verdict_of limits v day set) refl (met_is_met limits v day set ∙ m)
    where
      abs_some : (z : ℤ) → (z ≡ pos 0 → ⊥) → nat_abs z ≡ 0 → ⊥
      abs_some (pos k) h e = h (ap pos e)
      abs_some (negsuc k) h e = omega arith

      go : (w : Verdict) → verdict_of limits v day set ≡ w → is_met w ≡ false → phase_after w ≡ check_due_by (change_of w)
      go Met e n = absurd (true≢false n)
      go (Adjusted change) e n =
          sym (ap (λ (b : Bool). cond b shut_line adjusted_line) (ne_eqb (nat_abs change) 0 (abs_some change (change_some change e))))
      go Shut e n = refl

pub adjustment_changes : AdjustmentChanges
adjustment_changes = record { not_zero = change_some; told = phase_told }

-- Which answer a sheet's numbers get, by the tests of numbers 4 to 7 in their order.
use mathlib.Core.Path.{◌≡◌, refl, sym, ap, ap₂, ◌∙◌}
use mathlib.Core.Bool.{Bool, true, false, ◌||◌, cond}
use mathlib.Core.List.{List, [], ◌∷◌, map}
use Rattle.std.specs.Prelude.{Ok, Err, None, Some}
use Prim.Native.Nat.{ℕ, ◌*◌}
use lib.IntN.{ℤ}
use lib.ListN.{length}
use borrow.Author.Tests.{eq-eqb, ne_eqb}
use Rattle.whole.specs.Lists.{any, total}
use Rattle.whole.proofs.ListLaws.{unlike_no}
use Rattle.station_rules.specs.Lists.{keep}
use Rattle.station_rules.specs.Sheets.{samples_of, wrong_number, wrong_third, wrong_again, again_round, first_deviation, final_deviation, kept, kept_samples, set_of, sheet_checks}
use Rattle.station_rules.specs.declared.Sample.{Sample}
use Rattle.station_rules.specs.declared.Limits.{Limits}
use Rattle.station_refusals.specs.declared.Refusal.{Refusal}
use Rattle.station_rules.specs.declared.Set.{Set}
use Rattle.station_refusals.specs.declared.Refusal.TheVariants.{SheetSize, SheetNumber, ThirdReading, AgainPair}
use Rattle.sheet_numbers.specs.Samples.{has_again}
use Rattle.sheet_numbers.proofs.SheetLaws.{samples_length, accepted_by, refused_by}
use Rattle.sheet_pass.specs.Passes.{round_of, all_of, found_of}
use Rattle.sheet_pass.specs.declared.Found.{Found}
use Rattle.sheet_again.specs.Tallies.{totals}
use Rattle.sheet.specs.Judged.{judged_by, judged_of, without_round, in_round}

-- number 7 is the last
last : (b : Bool) (set : Set) → cond b (Err AgainPair) (Ok set) ≡ judged_by (cond b (Some 7) None) set
last true set = refl
last false set = refl

-- what the pass finds is what the rules say
pub found_right : (limits : Limits) (intercept : ℤ) (ss : List Sample) {t : Found} → Ok t ≡ found_of limits intercept ss → (any wrong_number ss ≡ false) × (t ≡ all_of limits intercept ss)
unfolding found_of
found_right limits intercept ss e = accepted_by (any wrong_number ss) _ e

found_wrong : (limits : Limits) (intercept : ℤ) (ss : List Sample) {r : Refusal} → Err r ≡ found_of limits intercept ss → (any wrong_number ss ≡ true) × (r ≡ SheetNumber)
unfolding found_of
found_wrong limits intercept ss e = refused_by (any wrong_number ss) _ e

-- ---- without an again round

module _ (limits : Limits) (intercept : ℤ) where
  -- no again pair is due
  none_due : (ss : List Sample) → any (wrong_again limits intercept false) ss ≡ any has_again ss
  none_due [] = refl
  none_due (s ∷ ss) = ap₂ ◌||◌ (sym (unlike_no false (has_again s) refl)) (none_due ss)

  -- no sample is dropped
  none_dropped : (ss : List Sample) → keep (kept limits intercept false) ss ≡ ss
  none_dropped [] = refl
  none_dropped (s ∷ ss) = ap (λ (r : List Sample). s ∷ r) (none_dropped ss)

  -- S and N are of all samples
  all_counted : (ss : List Sample) (n : ℕ) (sum : ℤ) → length ss ≡ n → sum ≡ total (map (first_deviation limits intercept) ss)
      → ◌≡◌ {A = Set} (record { sum = sum; count = 2 * n })
      (record { sum = total (map (final_deviation limits intercept false) (keep (kept limits intercept false) ss)); count = 2 * length (keep (kept limits intercept false) ss) })
  unfolding final_deviation
  all_counted ss n sum e f =
      λ i. record {
        sum = (f ∙ ap (λ (r : List Sample). total (map (first_deviation limits intercept) r)) (sym (none_dropped ss))) i;
        count = ap (λ (m : ℕ). 2 * m) (sym e ∙ ap length (sym (none_dropped ss))) i;
      }

module _ (limits : Limits) (intercept : ℤ) (n : ℕ) (l : List ℤ) where
  pub size_refused : (length l ≡ 6 * n → ⊥) → Err SheetSize ≡ judged_of limits intercept n l
  unfolding judged_of sheet_checks
  size_refused h = simp (ne_eqb (length l) (6 * n) h)

  module _ (size : length l ≡ 6 * n) where
    pub number_refused : {r : Refusal} → Err r ≡ found_of limits intercept (samples_of l) → Err r ≡ judged_of limits intercept n l
    unfolding judged_of sheet_checks
    number_refused e =
        let w = found_wrong limits intercept (samples_of l) e in
        ap Err w.1 ∙ simp (eq-eqb (length l) (6 * n) size, w.0)

    module _ {t : Found} (found : Ok t ≡ found_of limits intercept (samples_of l)) where
      right : any wrong_number (samples_of l) ≡ false
      right = (found_right limits intercept (samples_of l) found).0

      same : t ≡ all_of limits intercept (samples_of l)
      same = (found_right limits intercept (samples_of l) found).1

      -- rule 3 by the span of all deviations
      round_is : {b c : Bool} → c ≡ round_of limits t.span → c ≡ b → again_round limits intercept (samples_of l) ≡ b
      unfolding again_round
      round_is e f = sym (ap (λ (u : Found). round_of limits u.span) same) ∙ sym e ∙ f

      pub third_refused : t.third ≡ true → Err ThirdReading ≡ judged_of limits intercept n l
      unfolding judged_of sheet_checks
      third_refused h = simp (eq-eqb (length l) (6 * n) size, right, sym (ap (λ (u : Found). u.third) same) ∙ h)

      module _ (third : t.third ≡ false) {c : Bool} (round : c ≡ round_of limits t.span) where
        thirds : any (wrong_third limits) (samples_of l) ≡ false
        thirds = sym (ap (λ (u : Found). u.third) same) ∙ third

        pub judged_in_round : c ≡ true → in_round limits intercept (samples_of l) ≡ judged_of limits intercept n l
        unfolding judged_of sheet_checks set_of kept_samples totals in_round
        judged_in_round e = simp (eq-eqb (length l) (6 * n) size, right, thirds, round_is round e) (last (any (wrong_again limits intercept true) (samples_of l)) _)

        pub judged_without : c ≡ false → without_round t.again t.sum n ≡ judged_of limits intercept n l
        unfolding judged_of sheet_checks set_of kept_samples
        judged_without e =
            simp (eq-eqb (length l) (6 * n) size, right, thirds, round_is round e)
            (ap₂ (λ (b : Bool) (set : Set). cond b (Err AgainPair) (Ok set)) (ap (λ (u : Found). u.again) same ∙ sym (none_due limits intercept (samples_of l)))
            (all_counted limits intercept (samples_of l) n t.sum (samples_length n l size) (ap (λ (u : Found). u.sum) same))
            ∙ last (any (wrong_again limits intercept false) (samples_of l)) _)

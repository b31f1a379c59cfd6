-- The loop of the pass: what is to come, from what it has found, gives what the whole sheet comes to.
use mathlib.Core.Path.{◌≡◌, refl, ap, ◌∙◌}
use mathlib.Core.Bool.{Bool, false, cond}
use mathlib.Core.List.{List, [], ◌∷◌}
use Prim.Native.Nat.{ℕ, ◌+◌, ◌≤◌}
use native.Mathlib.Omega.{arith}
use lib.IntN.{ℤ, pos, negsuc}
use lib.ListN.{length}
use Rattle.std.specs.Prelude.{Result, Ok, Err}
use Rattle.std.proofs.lemmas.Int.{ints}
use Rattle.whole.specs.Bounds.{Within}
use Rattle.whole.specs.Lists.{any}
use Rattle.std.specs.List.{fold}
use Rattle.whole.proofs.Tests.{or_none}
use Rattle.whole.proofs.ListLaws.{by_test, or_else, any_fold, any_map, larger_by, larger_keeps, smaller_by, smaller_keeps}
use Rattle.station_rules.specs.Sheets.{samples_of, wrong_number, wrong_third, deviates, first_deviation}
use Rattle.station_rules.specs.declared.Sample.{Sample}
use Rattle.station_rules.specs.declared.Limits.{Limits}
use Rattle.station_rules.proofs.SheetBounds.{length_samples}
use Rattle.station_refusals.specs.declared.Refusal.{Refusal}
use Rattle.station_refusals.specs.declared.Refusal.TheVariants.{SheetNumber}
use Rattle.sheet_numbers.specs.Samples.{has_again}
use Rattle.sheet_numbers.proofs.SampleLaws.{measured}
use Rattle.sheet_numbers.proofs.SheetLaws.{some_part, passed, passed_is, Going, going_next, going_stop}
use Rattle.sheet_sample.proofs.DeviationLaws.{first_within}
use Rattle.sheet_pass.specs.Passes.{Bounded, more, joined, all_of, found_of}
use Rattle.sheet_pass.specs.declared.Found.{Found}
use Rattle.sheet_pass.proofs.BoundLaws.{largest_from, smallest_from, add_by, sum_fold}

-- before any sample
abbrev pub nothing : Found
nothing = record { third = false; again = false; span = record { deviating = false; high = negsuc 24999; low = pos 25000 }; sum = pos 0 }

module _ (limits : Limits) (intercept : ℤ) (small : Within 1000 1000 intercept) where
  abbrev dev : Sample → ℤ
  dev = first_deviation limits intercept

  abbrev deviating : Sample → Bool
  deviating s = deviates limits (dev s)

  abbrev pub pass_from : Found → List Sample → Result Found Refusal
  pass_from = passed wrong_number SheetNumber (more limits intercept)

  -- ---- what it comes to is what the rules say

  fold_more : (t : Found) (ss : List Sample) → fold (more limits intercept) t ss ≡ record {
    third = fold (or_else (wrong_third limits)) t.third ss;
    again = fold (or_else has_again) t.again ss;
    span = record { deviating = fold (or_else deviating) t.span.deviating ss; high = fold (larger_by dev) t.span.high ss; low = fold (smaller_by dev) t.span.low ss };
    sum = fold (add_by dev) t.sum ss;
  }
  unfolding more
  fold_more t [] = refl
  fold_more t (s ∷ ss) = fold_more (more limits intercept t s) ss

  found_is : (s : Sample) (ss : List Sample) → pass_from nothing (s ∷ ss) ≡ found_of limits intercept (s ∷ ss)
  unfolding found_of
  found_is s ss =
      passed_is wrong_number SheetNumber (more limits intercept) nothing (s ∷ ss)
      ∙ by_test (any wrong_number (s ∷ ss)) (λ b. cond b (Err SheetNumber) (Ok (fold (more limits intercept) nothing (s ∷ ss))) ≡ cond b (Err SheetNumber) (Ok (all_of limits intercept (s ∷ ss))))
      (λ e. refl)
      (λ e. let w = first_within limits intercept s small (measured s (or_none (wrong_number s) (any wrong_number ss) e).0) in
      ap Ok (fold_more nothing (s ∷ ss) ∙ (λ i. record {
        third = any_fold (wrong_third limits) (s ∷ ss) i;
        again = any_fold has_again (s ∷ ss) i;
        span = record { deviating = (any_fold deviating (s ∷ ss) ∙ any_map (deviates limits) dev (s ∷ ss)) i; high = largest_from dev s ss w i; low = smallest_from dev s ss w i };
        sum = sum_fold dev (s ∷ ss) i;
      })))

  -- ---- the loop

  more_bounded : {n : ℕ} (t : Found) (s : Sample) → Within 25000 25000 (dev s) → Bounded n t → Bounded (n + 1) (more limits intercept t s)
  unfolding more
  more_bounded {n} t s w b =
      record {
        sum = record { over = omega (arith, ints, w.over, b.sum.over); under = omega (arith, ints, w.under, b.sum.under) };
        high = larger_keeps (Within 25000 25000) t.span.high (dev s) b.high w;
        low = smaller_keeps (Within 25000 25000) t.span.low (dev s) b.low w;
      }

  -- with some of the sheet's samples left
  abbrev pub Passing : (numbers : List ℤ) → List Sample → Found → Type 0
  Passing numbers = Going wrong_number SheetNumber (more limits intercept) Bounded (found_of limits intercept (samples_of numbers))

  pub passing_start : (numbers : List ℤ) → 6 ≤ length numbers → length numbers ≤ 6000 → Passing numbers (samples_of numbers) nothing
  passing_start numbers some few =
      record {
        comes = some_part (λ ss. pass_from nothing ss ≡ found_of limits intercept ss) numbers some found_is;
        before = 0;
        few = omega (arith, length_samples numbers);
        bounded = record {
          sum = record { over = omega (arith, ints); under = omega (arith, ints) };
          high = record { over = omega (arith, ints); under = omega (arith, ints) };
          low = record { over = omega (arith, ints); under = omega (arith, ints) };
        };
      }

  module _ (numbers : List ℤ) {left rest : List Sample} {t : Found} (g : Passing numbers left t) (s : Sample) (split : left ≡ s ∷ rest) where
    pub passing_next : {r : Found} → Ok r ≡ joined limits intercept t s → Passing numbers rest r
    unfolding joined
    passing_next e =
        going_next wrong_number SheetNumber (more limits intercept) Bounded _ g s split (λ n right b. more_bounded t s (first_within limits intercept s small (measured s right)) b) e

    pub passing_stop : {x : Refusal} → Err x ≡ joined limits intercept t s → Err x ≡ found_of limits intercept (samples_of numbers)
    unfolding joined
    passing_stop e = going_stop wrong_number SheetNumber (more limits intercept) Bounded _ g s split e

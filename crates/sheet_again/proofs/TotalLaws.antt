-- S and N as a pass over the samples.
use mathlib.Core.Path.{◌≡◌, refl, sym, ap, ◌∙◌, subst⁻¹}
use mathlib.Core.Bool.{Bool, true, false, not, ◌&&◌, ◌||◌, cond}
use mathlib.Core.List.{List, [], ◌∷◌, map}
use Prim.Native.Nat.{ℕ, suc, ◌+◌, ◌*◌, ◌≤◌}
use native.Mathlib.Omega.{arith}
use lib.IntN.{ℤ, pos, ◌+ℤ◌, +ℤ_assoc, +ℤ_idl, +ℤ_idr}
use lib.ListN.{length}
use Rattle.std.proofs.lemmas.Int.{ints}
use Rattle.whole.specs.Bounds.{Within}
use Rattle.whole.specs.Lists.{any, total}
use Rattle.whole.proofs.Tests.{or_none}
use Rattle.std.specs.List.{fold}
use Rattle.whole.proofs.ListLaws.{by_test, cond_yes, cond_no, or_else, any_fold}
use Rattle.station_rules.specs.Lists.{keep}
use Rattle.station_rules.specs.Sheets.{samples_of, wrong_number, pair, pair_sum, deviation, deviates, first_deviation, final_deviation, wrong_again, kept}
use Rattle.station_rules.specs.declared.Sample.{Sample}
use Rattle.station_rules.specs.declared.Limits.{Limits}
use Rattle.station_rules.specs.declared.Set.{Set}
use Rattle.station_rules.proofs.SheetBounds.{length_samples}
use Rattle.sheet_numbers.specs.Samples.{Measured}
use Rattle.sheet_numbers.proofs.SampleLaws.{measured}
use Rattle.sheet_sample.specs.Rounds.{in_round}
use Rattle.sheet_sample.specs.declared.Again.{Again}
use Rattle.sheet_sample.proofs.DeviationLaws.{final_within}
use Rattle.sheet_again.specs.Tallies.{tallied, totals, added, counted}
use Rattle.sheet_again.specs.declared.Tally.{Tally}

abbrev pub none : Set
none = record { sum = pos 0; count = 0 }

abbrev pub tally : Bool → Set → Tally
tally wrong set = record { wrong = wrong; set = set }

-- before any sample
abbrev pub nothing : Tally
nothing = tally false none

module _ (limits : Limits) (intercept : ℤ) where
  -- a sample that deviates no more, or never did, is kept
  pub kept_is : (s : Sample) → kept limits intercept true s ≡ not (deviates limits (final_deviation limits intercept true s))
  unfolding final_deviation
  kept_is s =
      let again = deviation intercept s.baseline (pair_sum (pair s.again_first s.again_second)) in
      let first = first_deviation limits intercept s in
      by_test (deviates limits first) (λ (b : Bool). not (b && deviates limits (cond b again first)) ≡ not (deviates limits (cond b again first)))
      (λ e. refl) (λ e. sym (ap not e))

  round_gives : (s : Sample) {a : Again} → a ≡ in_round limits intercept s
      → (a.wrong ≡ wrong_again limits intercept true s) × (a.deviation ≡ final_deviation limits intercept true s)
  unfolding in_round
  round_gives s e = (ap (λ (a : Again). a.wrong) e, ap (λ (a : Again). a.deviation) e)

  -- one sample more, from what the code finds of it
  module _ (t : Tally) (s : Sample) {a : Again} {wrong b : Bool} (e : a ≡ in_round limits intercept s)
      (either : wrong ≡ t.wrong || a.wrong) (test : b ≡ deviates limits a.deviation) where
    due : wrong ≡ t.wrong || wrong_again limits intercept true s
    due = either ∙ ap (λ (again : Bool). t.wrong || again) (round_gives s e).0

    still : b ≡ deviates limits (final_deviation limits intercept true s)
    still = test ∙ ap (deviates limits) (round_gives s e).1

    pub dropped : b ≡ true → tally wrong t.set ≡ added limits intercept t s
    unfolding added tallied
    dropped k =
        let set = cond_no _ _ (sym (kept_is s)) (ap not (sym still ∙ k)) in
        λ i. tally (due i) (set i)

    pub joins : b ≡ false → {r : ℤ} → r ≡ t.set.sum +ℤ a.deviation
        → tally wrong (record { sum = r; count = t.set.count + 2 }) ≡ added limits intercept t s
    unfolding added tallied
    joins k f =
        let sum = f ∙ ap (λ (z : ℤ). t.set.sum +ℤ z) (round_gives s e).1 in
        let kept = cond_yes _ _ (sym (kept_is s)) (ap not (sym still ∙ k)) in
        λ i. tally (due i) (((λ j. record { sum = sum j; count = t.set.count + 2 }) ∙ kept) i)

  abbrev plus : Set → Set → Set
  plus a b = record { sum = a.sum +ℤ b.sum; count = a.count + b.count }

  totals_from : (t : Set) (ss : List Sample) → fold (tallied limits intercept) t ss ≡ plus t (totals limits intercept ss)
  unfolding totals tallied
  totals_from t [] = sym (λ i. record { sum = +ℤ_idr t.sum i; count = nothing i })
    where
      nothing : t.count + 2 * 0 ≡ t.count
      nothing = omega arith
  totals_from t (s ∷ ss) = totals_from (tallied limits intercept t s) ss ∙ go (kept limits intercept true s)
    where
      rest : List Sample
      rest = keep (kept limits intercept true) ss

      d : ℤ
      d = final_deviation limits intercept true s

      go : (k : Bool)
          → plus (cond k (record { sum = t.sum +ℤ d; count = t.count + 2 }) t) (record { sum = total (map (final_deviation limits intercept true) rest); count = 2 * length rest })
          ≡ plus t (record { sum = total (map (final_deviation limits intercept true) (cond k (s ∷ rest) rest)); count = 2 * length (cond k (s ∷ rest) rest) })
      go true =
          let e : t.count + 2 + 2 * length rest ≡ t.count + 2 * suc (length rest) = omega arith in
          λ i. record { sum = +ℤ_assoc t.sum d (total (map (final_deviation limits intercept true) rest)) i; count = e i }
      go false = refl

  pub totals_fold : (ss : List Sample) → fold (tallied limits intercept) none ss ≡ totals limits intercept ss
  unfolding totals
  totals_fold ss =
      let t = totals limits intercept ss in
      let e : 0 + t.count ≡ t.count = omega arith in
      totals_from none ss ∙ (λ i. record { sum = +ℤ_idl t.sum i; count = e i })

  -- all samples, one after another
  added_fold : (t : Tally) (ss : List Sample) → fold (added limits intercept) t ss
      ≡ tally (fold (or_else (wrong_again limits intercept true)) t.wrong ss) (fold (tallied limits intercept) t.set ss)
  unfolding added
  added_fold t [] = refl
  added_fold t (s ∷ ss) = added_fold (added limits intercept t s) ss

  counted_fold : (ss : List Sample) → fold (added limits intercept) nothing ss ≡ counted limits intercept ss
  unfolding counted
  counted_fold ss =
      added_fold nothing ss ∙ (λ i. tally (any_fold (wrong_again limits intercept true) ss i) (totals_fold ss i))

-- ---- the loop

-- how far S and N of n samples go
pub record Bounded (n : ℕ) (t : Set) : Type 0 where
  pub sum : Within (25000 * n) (25000 * n) t.sum
  pub count : t.count ≤ 2 * n

module _ (limits : Limits) (intercept : ℤ) (small : Within 1000 1000 intercept) where
  tallied_bounded : {n : ℕ} (t : Set) (s : Sample) → Measured s → Bounded n t → Bounded (n + 1) (tallied limits intercept t s)
  unfolding tallied
  tallied_bounded {n} t s m b =
      let w = final_within limits intercept s small m in
      by_test (kept limits intercept true s) (λ k. Bounded (n + 1) (cond k (record { sum = t.sum +ℤ final_deviation limits intercept true s; count = t.count + 2 }) t))
      (λ e. record { sum = record { over = omega (arith, ints, w.over, b.sum.over); under = omega (arith, ints, w.under, b.sum.under) }; count = omega (arith, b.count) })
      (λ e. record { sum = record { over = omega (arith, ints, b.sum.over); under = omega (arith, ints, b.sum.under) }; count = omega (arith, b.count) })

  -- with some of the sheet's samples left, none of them with a wrong number
  pub record Counting (numbers : List ℤ) (left : List Sample) (t : Tally) : Type 0 where
    pub right : any wrong_number left ≡ false
    pub comes : fold (added limits intercept) t left ≡ counted limits intercept (samples_of numbers)
    pub before : ℕ
    pub few : before + length left ≤ 1000
    pub bounded : Bounded before t.set

  pub counting_start : (numbers : List ℤ) → length numbers ≤ 6000 → any wrong_number (samples_of numbers) ≡ false
      → Counting numbers (samples_of numbers) nothing
  counting_start numbers few right =
      record {
        right = right;
        comes = counted_fold limits intercept (samples_of numbers);
        before = 0;
        few = omega (arith, length_samples numbers);
        bounded = record {
          sum = record { over = omega (arith, ints); under = omega (arith, ints) };
          count = omega arith;
        };
      }

  pub counting_end : (numbers : List ℤ) {left : List Sample} {t : Tally} → Counting numbers left t → left ≡ []
      → t ≡ counted limits intercept (samples_of numbers)
  counting_end numbers {left} {t} g end = sym (ap (fold (added limits intercept) t) end) ∙ g.comes

  module _ (numbers : List ℤ) {left rest : List Sample} {t : Tally} (g : Counting numbers left t)
      (s : Sample) (split : left ≡ s ∷ rest) where
    parts_right : (wrong_number s ≡ false) × (any wrong_number rest ≡ false)
    parts_right = or_none _ _ (ap (any wrong_number) (sym split) ∙ g.right)

    pub next_measured : Measured s
    next_measured = measured s parts_right.0

    pub counting_next : {r : Tally} → r ≡ added limits intercept t s → Counting numbers rest r
    unfolding added
    counting_next {r} e =
        let more = fold (added limits intercept) in
        let count : length left ≡ suc (length rest) = ap length split in
        let next = tallied_bounded t.set s next_measured g.bounded in
        record {
          right = parts_right.1;
          comes = ap (λ (u : Tally). more u rest) e ∙ sym (ap (more t) split) ∙ g.comes;
          before = g.before + 1;
          few = omega (arith, g.few);
          bounded = subst⁻¹ (λ (u : Tally). Bounded (g.before + 1) u.set) e next;
        }

-- The rules judge a line alike by all its past sets and by the newest two and the newest four that aren't zero; zero sets are passed over.
use mathlib.Core.Path.{◌≡◌, refl, sym, ◌∙◌, ap, ap₂}
use mathlib.Core.Bool.{Bool, true, false, cond}
use mathlib.Core.List.{List, [], ◌∷◌, ◌++◌}
use Prim.Native.Nat.{ℕ, zero, suc, ◌+◌, ◌≤◌, ◌<◌}
use native.Mathlib.Omega.{arith}
use native.Mathlib.Nat.{le_trans}
use lib.Dec.{T, leb→le, le→leb, leb, eqb}
use lib.IntN.{ℤ, pos}
use lib.ListN.{take}
use borrow.Author.Tests.{leb-false, lt-leb}
use Rattle.station_rules.specs.Rows.{limits_of}
use Rattle.station_rules.specs.Lines.{LinePhase, new_line, open_line, adjusted_line, shut_line, Values, valid_on, same_side, test_of, plus, newest_tests, five_test, tests_by, tests_due, verdict_of, first_exceeded, judged}
use Rattle.station_rules.specs.Markets.{market_checks, certificate_of, newest_day, corrected_value}
use Rattle.station_rules.specs.Judging.{sheet_numbers, market_numbers, sheet_set, sheet_verdict}
use Rattle.station_rules.specs.Soundness.{days_fall}
use Rattle.station_rules.specs.Books.{book_values, book_past}
use Rattle.station_rules.specs.Laws.{held_values, HeldServe, ZeroPassedOver}
use Rattle.std.proofs.lemmas.Bool.{eq-eqb}
use Rattle.station_rules.specs.declared.PastSet.{PastSet}
use lib.Ieee.Fits.{and_l, and_r, and_i}
use Rattle.station_rules.specs.declared.Test.{Test}
use Rattle.station_rules.specs.declared.Verdict.TheVariants.{Shut}
use Rattle.station_rules.specs.declared.Set.{Set}
use Rattle.station_rules.specs.declared.Limits.{Limits}

-- ---- days that never rise

pub falls_later : (d e : ℕ) (past : List PastSet) → d ≤ e → T (days_fall d past) → T (days_fall e past)
falls_later d e [] h t = tt
falls_later d e (p ∷ ps) h t =
    and_i (leb p.day e) (days_fall p.day ps)
    (le→leb p.day e (le_trans (leb→le p.day d (and_l (leb p.day d) (days_fall p.day ps) t)) h))
    (and_r (leb p.day d) (days_fall p.day ps) t)

pub falls_take : (n d : ℕ) (past : List PastSet) → T (days_fall d past) → T (days_fall d (take n past))
falls_take zero d past t = tt
falls_take (suc n) d [] t = tt
falls_take (suc n) d (p ∷ ps) t =
    and_i (leb p.day d) (days_fall p.day (take n ps))
    (and_l (leb p.day d) (days_fall p.day ps) t)
    (falls_take n p.day ps (and_r (leb p.day d) (days_fall p.day ps) t))

-- ---- the valid ones stand first

-- sets no later than a day that is too old are none of them valid
pub none_valid : (day d : ℕ) (past : List PastSet) → d + 14 < day → T (days_fall d past) → valid_on day past ≡ []
unfolding valid_on
none_valid day d [] h t = refl
none_valid day d (p ∷ ps) h t =
    let le : p.day ≤ d = leb→le p.day d (and_l (leb p.day d) (days_fall p.day ps) t) in
    let old : p.day + 14 < day = omega arith in
    ap (λ (b : Bool). cond b (p ∷ valid_on day ps) (valid_on day ps)) (lt-leb day (p.day + 14) old)
    ∙ none_valid day p.day ps old (and_r (leb p.day d) (days_fall p.day ps) t)

valid_cons : (b : Bool) (n : ℕ) (p : PastSet) (kept kept_take : List PastSet)
    → (b ≡ true → kept_take ≡ take n kept) → (b ≡ false → (kept_take ≡ []) × (kept ≡ []))
    → cond b (p ∷ kept_take) kept_take ≡ take (suc n) (cond b (p ∷ kept) kept)
valid_cons true n p kept kept_take yes' no' = ap (λ (r : List PastSet). p ∷ r) (yes' refl)
valid_cons false n p kept kept_take yes' no' = (no' refl).0 ∙ sym (ap (λ (r : List PastSet). take (suc n) r) (no' refl).1)

valid_take : (day d n : ℕ) (past : List PastSet) → T (days_fall d past) → valid_on day (take n past) ≡ take n (valid_on day past)
unfolding valid_on
valid_take day d zero past t = refl
valid_take day d (suc n) [] t = refl
valid_take day d (suc n) (p ∷ ps) t =
    valid_cons (leb day (p.day + 14)) n p (valid_on day ps) (valid_on day (take n ps))
    (λ e. valid_take day p.day n ps rest)
    (λ e. (
      none_valid day p.day (take n ps) (leb-false day (p.day + 14) e) (falls_take n p.day ps rest),
      none_valid day p.day ps (leb-false day (p.day + 14) e) rest,
    ))
  where
    rest : T (days_fall p.day ps)
    rest = and_r (leb p.day d) (days_fall p.day ps) t

newest_take : (limits : Limits) (set : Set) (valid : List PastSet) → newest_tests limits set (take 2 valid) ≡ newest_tests limits set valid
unfolding newest_tests
newest_take limits set [] = refl
newest_take limits set (p ∷ []) = refl
newest_take limits set (p ∷ q ∷ older) = refl

five_take : (limits : Limits) (set : Set) (valid : List PastSet) → five_test limits set (take 4 valid) ≡ five_test limits set valid
unfolding five_test
five_take limits set [] = refl
five_take limits set (p ∷ []) = refl
five_take limits set (p ∷ q ∷ []) = refl
five_take limits set (p ∷ q ∷ r ∷ []) = refl
five_take limits set (p ∷ q ∷ r ∷ s ∷ older) = refl

-- ---- every judgement

tests_take : (limits : Limits) (phase : LinePhase) (set : Set) (newest nonzero : List PastSet)
    → tests_by limits phase set (take 2 newest) (take 4 nonzero) ≡ tests_by limits phase set newest nonzero
unfolding tests_by
tests_take limits new_line set newest nonzero = ap₂ ◌++◌ (newest_take limits set newest) (five_take limits set nonzero)
tests_take limits open_line set newest nonzero = ap₂ ◌++◌ (newest_take limits set newest) (five_take limits set nonzero)
tests_take limits adjusted_line set newest nonzero = refl
tests_take limits shut_line set newest nonzero = refl

module _ (limits : Limits) (v : Values) (d day : ℕ) (set : Set) (newest : T (days_fall d v.newest)) (nonzero : T (days_fall d v.nonzero)) where
  tests_held : tests_due limits (held_values v) day set ≡ tests_due limits v day set
  tests_held =
      ap₂ (tests_by limits v.phase set) (valid_take day d 2 v.newest newest) (valid_take day d 4 v.nonzero nonzero)
      ∙ tests_take limits v.phase set (valid_on day v.newest) (valid_on day v.nonzero)

  verdict_held : verdict_of limits (held_values v) day set ≡ verdict_of limits v day set
  unfolding verdict_of
  verdict_held = ap (λ (ts : List Test). cond (eqb set.count 0) Shut (judged v.intercept (first_exceeded ts))) tests_held

day_take : (past : List PastSet) → newest_day (take 2 past) ≡ newest_day past
day_take [] = refl
day_take (p ∷ ps) = refl

pub held_serve : (row : ℕ) (v : Values) (day line : ℕ) → HeldServe row v day line
unfolding sheet_numbers sheet_set sheet_verdict market_numbers market_checks corrected_value certificate_of
held_serve row v day line =
    record {
      numbers = λ last numbers. refl;
      set = λ numbers. refl;
      verdict = λ d newest nonzero numbers. verdict_held (limits_of row line) v d day (sheet_set row v day line numbers) newest nonzero;
      market = λ last scan asked basis. rw (day_take v.newest);
      certificate = λ scan asked basis. rw (day_take v.newest);
    }

-- ---- zero sets

zero_side : (a b c d : ℤ) → same_side (pos 0) a b c d ≡ false
unfolding same_side
zero_side a b c d = refl

zero_present : (limits : Limits) (set : Set) (nonzero : List PastSet) → set.sum ≡ pos 0 → five_test limits set nonzero ≡ []
unfolding five_test
zero_present limits set [] e = refl
zero_present limits set (p ∷ []) e = refl
zero_present limits set (p ∷ q ∷ []) e = refl
zero_present limits set (p ∷ q ∷ r ∷ []) e = refl
zero_present limits set (p ∷ q ∷ r ∷ s ∷ older) e =
    let side : same_side set.sum p.sum q.sum r.sum s.sum ≡ false = ap (λ (z : ℤ). same_side z p.sum q.sum r.sum s.sum) e ∙ zero_side p.sum q.sum r.sum s.sum in
    ap (λ (b : Bool). cond b (test_of limits.five (plus (plus (plus (plus set p) q) r) s) ∷ []) []) side

pub zero_passed_over : ZeroPassedOver
unfolding book_values book_past
zero_passed_over =
    record {
      present = zero_present;
      past = λ line e es own met zero.
          simp (eq-eqb e.line line own, met, zero);
    }

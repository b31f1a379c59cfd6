-- One holiday more, later than all before it: what it does to the day found.
use mathlib.Core.Path.{◌≡◌, refl, sym, ap, ◌∙◌, subst}
use mathlib.Core.Bool.{Bool, true, false, not, ◌&&◌, ◌||◌, cond}
use mathlib.Core.List.{List, [], ◌∷◌, ◌++◌}
use Prim.Native.Nat.{ℕ, suc, ◌+◌, ◌%◌, ◌≤◌, ◌<◌}
use native.Mathlib.Omega.{arith}
use lib.Dec.{eqb, leb, ltb}
use lib.IntN.{ℤ, pos}
use borrow.Author.Tests.{ltb-true, ltb-false, leb-true, leb-false, eqb-true, eqb-false, lt-ltb, le-ltb}
use Rattle.std.proofs.lemmas.Bool.Decides.{nat_tests}
use Rattle.whole.specs.Lists.{any}
use Rattle.whole.proofs.ListLaws.{by_test}
use Rattle.std.proofs.lemmas.List.Folds.{list_any-append}
use Rattle.whole.proofs.Tests.{and_both, and_false, or_false}
use Rattle.calendar_rules.specs.Working.{monday_to_friday, is_day, is_working}
use Rattle.calendar_rules.specs.Laws.{up_to, WorkingDaysAfter}
use Rattle.calendar_rules.proofs.WeekdayLaws.{five_of_seven}
use Rattle.calendar_rules.proofs.WorkingLaws.{next_yes, next_no, other_day, before_it, from_it, unchanged, not_in_it, later_than, itself}
use Rattle.calendar_working.specs.Passes.{next_of, passed_of}

-- ---- the list with one holiday more

and_or : (m a b : Bool) → m && not (a || b) ≡ (m && not a) && not b
and_or true true b = refl
and_or true false b = refl
and_or false a b = refl

any_more : (p : ℤ → Bool) (hs : List ℤ) (h : ℤ) → any p (hs ++ (h ∷ [])) ≡ any p hs || p h
any_more p hs h = list_any-append p hs (h ∷ []) ∙ ap (λ (t : Bool). any p hs || t) (or_false (p h))

one_more : (hs : List ℤ) (h x : ℕ) → is_working (hs ++ (pos h ∷ [])) x ≡ is_working hs x && not (eqb h x)
unfolding is_working
one_more hs h x = ap (λ (t : Bool). monday_to_friday x && not t) (any_more (is_day x) hs (pos h)) ∙ and_or (monday_to_friday x) (any (is_day x) hs) (eqb h x)

-- ---- the next day of Monday to Friday

-- a remainder below five, or not
yes_by : (x : ℕ) → (x + 5) % 7 < 5 → monday_to_friday x ≡ true
yes_by x l = five_of_seven x ∙ lt-ltb ((x + 5) % 7) 5 l

no_by : (x : ℕ) → 5 ≤ (x + 5) % 7 → monday_to_friday x ≡ false
no_by x l = five_of_seven x ∙ le-ltb ((x + 5) % 7) 5 l

-- what is known of it, where the days behind are working days as they are of Monday to Friday
record Next (p : ℕ → Bool) (day d : ℕ) : Type 0 where
  pub later : day < d
  pub passes : p d ≡ true
  pub counts : up_to p d ≡ suc (up_to p day)

next_is : (p : ℕ → Bool) (day : ℕ) → monday_to_friday day ≡ true → ((x : ℕ) → day < x → p x ≡ monday_to_friday x) → Next p day (next_of day)
unfolding next_of
next_is p day m plain =
    let l = ltb-true ((day + 5) % 7) 5 (sym (five_of_seven day) ∙ m) in
    by_test (eqb ((day + 5) % 7) 4) (λ (t : Bool). Next p day (cond t (day + 3) (day + 1)))
    (λ e.
    let f = eqb-true ((day + 5) % 7) 4 e in
    friday f)
    (λ e.
    let f = eqb-false ((day + 5) % 7) 4 e in
    let g : (suc day + 5) % 7 < 5 = omega arith in
    let yes = plain (suc day) (omega arith) ∙ yes_by (suc day) g in
    let s : suc day ≡ day + 1 = omega arith in
    subst (Next p day) s (record { later = omega arith; passes = yes; counts = next_yes p day yes }))
  where
    friday : (day + 5) % 7 ≡ 4 → Next p day (day + 3)
    friday f =
        let saturday = plain (suc day) (omega arith) ∙ no_by (suc day) (omega arith) in
        let sunday = plain (suc (suc day)) (omega arith) ∙ no_by (suc (suc day)) (omega arith) in
        let monday = plain (suc (suc (suc day))) (omega arith) ∙ yes_by (suc (suc (suc day))) (omega arith) in
        let s : suc (suc (suc day)) ≡ day + 3 = omega arith in
        subst (Next p day) s (record { later = omega arith; passes = monday; counts = next_yes p (suc (suc day)) monday ∙ ap suc (next_no p (suc day) sunday ∙ next_no p day saturday) })

-- ---- the day found

-- behind the least day that a holiday may still have, the days of Monday to Friday are working days
abbrev pub Plain : List ℤ → ℕ → Type 0
Plain hs least = (x : ℕ) → least ≤ x → is_working hs x ≡ monday_to_friday x

module _ (hs : List ℤ) (day count found least h : ℕ) (plain : Plain hs least) (from : least ≤ h) where
  abbrev longer : List ℤ
  longer = hs ++ (pos h ∷ [])

  abbrev p : ℕ → Bool
  p = is_working hs

  abbrev q : ℕ → Bool
  q = is_working longer

  is : (x : ℕ) → q x ≡ p x && not (eqb h x)
  is = one_more hs h

  pub plain_on : Plain longer (suc h)
  plain_on x l = other_day p q h is x (omega arith) ∙ plain x (omega arith)

  module _ (a : WorkingDaysAfter hs day count found) (some : 0 < count) where
    found_later : day < found
    found_later = later_than hs day count found (omega arith) a

    works : p found ≡ true
    works = a.some some

    -- it isn't one of Monday to Friday
    at_weekend : monday_to_friday h ≡ false → WorkingDaysAfter longer day count found
    at_weekend e =
        let no = plain h from ∙ e in
        record {
          later = a.later;
          counts = omega (arith, a.counts, not_in_it p q h is no found, not_in_it p q h is no day);
          none = λ z. absurd (omega arith);
          some = λ z. unchanged p q h is no found ∙ works;
        }

    module _ (e : monday_to_friday h ≡ true) where
      yes : p h ≡ true
      yes = plain h from ∙ e

      -- day 0 is none of them
      not_first : 1 ≤ h
      not_first = omega (arith, ltb-true ((h + 5) % 7) 5 (sym (five_of_seven h) ∙ e))

      -- it isn't after the day
      before_start : h ≤ day → WorkingDaysAfter longer day count found
      before_start l =
          record {
            later = a.later;
            counts = omega (arith, a.counts, from_it p q h is not_first yes found (omega (arith, found_later)), from_it p q h is not_first yes day l);
            none = λ z. absurd (omega arith);
            some = λ z. other_day p q h is found (omega (arith, found_later)) ∙ works;
          }

      -- it is after the day found
      behind_found : day < h → found < h → WorkingDaysAfter longer day count found
      behind_found l k =
          record {
            later = a.later;
            counts = omega (arith, a.counts, before_it p q h is found k, before_it p q h is day l);
            none = λ z. absurd (omega arith);
            some = λ z. other_day p q h is found (omega arith) ∙ works;
          }

      -- it was counted
      was_counted : day < h → h ≤ found → WorkingDaysAfter longer day count (next_of found)
      unfolding is_working
      was_counted l k =
          let m = (and_both (monday_to_friday found) (not (any (is_day found) hs)) works).0 in
          let n = next_is p found m (λ (x : ℕ) (b : found < x). plain x (omega arith)) in
          record {
            later = omega (arith, a.later, n.later);
            counts = omega (arith, a.counts, n.counts, from_it p q h is not_first yes (next_of found) (omega (arith, n.later)), before_it p q h is day l);
            none = λ z. absurd (omega arith);
            some = λ z. other_day p q h is (next_of found) (omega (arith, n.later)) ∙ n.passes;
          }

    some_counted : WorkingDaysAfter longer day count (passed_of day h found)
    unfolding passed_of
    some_counted =
        by_test (monday_to_friday h) (λ (t : Bool). WorkingDaysAfter longer day count (cond (ltb day h && leb h found && t) (next_of found) found))
        (λ e.
        by_test (ltb day h) (λ (t : Bool). WorkingDaysAfter longer day count (cond (t && leb h found && true) (next_of found) found))
        (λ f.
        by_test (leb h found) (λ (t : Bool). WorkingDaysAfter longer day count (cond (true && t && true) (next_of found) found))
        (λ g. was_counted e (ltb-true day h f) (leb-true h found g)) (λ g. behind_found e (ltb-true day h f) (leb-false h found g)))
        (λ f. before_start e (ltb-false day h f)))
        (λ e. subst (λ (t : Bool). WorkingDaysAfter longer day count (cond t (next_of found) found)) (sym (and_false (ltb day h && leb h found))) (at_weekend e))

  -- none is counted: the day found is the day itself, and no holiday moves it on
  none_counted : WorkingDaysAfter hs day count found → count ≡ 0 → WorkingDaysAfter longer day count (passed_of day h found)
  unfolding passed_of
  none_counted a z =
      let e : found ≡ day = a.none z in
      let still : ltb day h && leb h found && monday_to_friday h ≡ false = grind (arith, nat_tests, e) in
      rw still (itself longer day count found 0 z e).1

  pub passes_over : WorkingDaysAfter hs day count found → WorkingDaysAfter longer day count (passed_of day h found)
  passes_over a =
      by_test (eqb count 0) (λ (t : Bool). WorkingDaysAfter longer day count (passed_of day h found))
      (λ e. none_counted a (eqb-true count 0 e)) (λ e. some_counted a (omega (arith, eqb-false count 0 e)))

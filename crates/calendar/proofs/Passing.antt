-- The pass over the holidays: what holds before each, and what comes of its two ends.
use mathlib.Core.Path.{◌≡◌, refl, sym, ap, ◌∙◌, subst}
use mathlib.Core.Bool.{Bool, false, not, ◌&&◌, cond}
use mathlib.Core.List.{List, [], ◌∷◌, ◌++◌}
use Prim.Native.Nat.{ℕ, suc, ◌+◌, ◌-◌, ◌*◌, ◌≤◌, ◌<◌}
use native.Mathlib.Numerals.{add-one}
use native.Mathlib.Omega.{arith}
use lib.Dec.{leb, ltb}
use lib.IntN.{ℤ, pos, negsuc}
use lib.ListN.{length, get_or, take, drop, drop_of_length-le}
use lib.Seq.{drop-cons, take-suc, take_all}
use borrow.Author.Tests.{ltb-true, ltb-false, le-leb}
use Rattle.std.specs.Prelude.{Ok, Err}
use Rattle.whole.specs.Places.{natural}
use Rattle.std.proofs.lemmas.Bool.Decides.{nat_tests}
use Rattle.whole.proofs.ListLaws.{by_test}
use Rattle.whole.proofs.Tests.{and2}
use Rattle.calendar_rules.specs.Working.{is_working, counted}
use Rattle.calendar_rules.specs.Calls.{bad_holidays, working_day}
use Rattle.calendar_rules.specs.Counting.{good_from}
use Rattle.calendar_rules.specs.Laws.{up_to, WorkingDaysAfter}
use Rattle.calendar_rules.specs.declared.Refusal.TheVariants.{NoSuchDay, BadHolidays}
use Rattle.calendar_rules.proofs.WorkingLaws.{more, finds, runs_out}
use Rattle.calendar_rules.proofs.Holidays.{by_one_pass}
use Rattle.calendar_rules.proofs.Working.{bad_list, good_list}
use Rattle.calendar_working.specs.Passes.{next_of, passed_of}
use Rattle.calendar_working.proofs.WeekLaws.{none_listed}
use Rattle.calendar_working.proofs.PassLaws.{Plain, plain_on, passes_over}
use Rattle.calendar.specs.Ends.{within_last}

module _ (hs : List ℤ) (day count : ℕ) where
  -- i holidays are passed: they are good, the next may be no earlier than `least`, and by them this day is found
  pub record Passing (i found least : ℕ) : Type 0 where
    pub within : i ≤ length hs
    pub few : i ≤ least
    pub last : least ≤ 100000
    pub small : found ≤ 7000000000 + 3 * i
    pub good : good_from least (drop i hs) ≡ good_from 0 hs
    pub plain : Plain (take i hs) least
    pub after : WorkingDaysAfter (take i hs) day count found

  pub passing_start : {found : ℕ} → WorkingDaysAfter [] day count found → found ≤ 7000000000 → Passing 0 found 0
  passing_start a l =
      record { within = omega arith; few = omega arith; last = omega arith; small = omega arith; good = refl; plain = λ x h. none_listed x; after = a }

  -- ---- the next holiday

  -- a number that is read as a small one is that
  is_pos : (z : ℤ) (n : ℕ) → n ≡ natural z → n ≤ 99999 → z ≡ pos n
  is_pos (pos m) n e l = ap pos (sym e)
  is_pos (negsuc m) n e l = absurd (omega arith)

  next_of_near : (d : ℕ) → next_of d ≤ d + 3
  unfolding next_of
  next_of_near d = grind (arith, nat_tests)

  passed_near : (h d : ℕ) → passed_of day h d ≤ d + 3
  unfolding passed_of
  passed_near h d = grind (arith, nat_tests, next_of_near d)

  module _ {i found least h : ℕ} (g : Passing i found least) (inside : i < length hs) (read : h ≡ natural (get_or hs i (pos 0))) where
    abbrev rest : List ℤ
    rest = drop (suc i) hs

    -- what is left begins with it
    left_is : good_from 0 hs ≡ (leb least h && leb h 99999) && good_from (suc h) rest
    unfolding good_from
    left_is =
        sym g.good ∙ ap (good_from least) (drop-cons hs i (pos 0) inside) ∙ ap (λ (n : ℕ). (leb least n && leb n 99999) && good_from (suc n) rest) (sym read)

    pub passing_next : least ≤ h → h ≤ 99999 → Passing (i + 1) (passed_of day h found) (h + 1)
    passing_next low high =
        record {
          within = omega arith;
          few = omega (arith, g.few);
          last = omega arith;
          small = omega (arith, g.small, passed_near h found);
          good = (λ j. good_from (add-one h j) (drop (add-one i j) hs)) ∙ sym (left_is ∙ ap (λ (t : Bool). t && good_from (suc h) rest) (and2 (le-leb least h low) (le-leb h 99999 high)));
          plain = subst (λ (l : List ℤ). Plain l (h + 1)) (sym listed) (λ x b. plain_on (take i hs) day count found least h g.plain low x (omega arith));
          after = subst (λ (l : List ℤ). WorkingDaysAfter l day count (passed_of day h found)) (sym listed) (passes_over (take i hs) day count found least h g.plain low g.after);
        }
      where
        listed : take (i + 1) hs ≡ take i hs ++ (pos h ∷ [])
        listed = ap (λ (n : ℕ). take n hs) (add-one i) ∙ take-suc hs i (pos 0) inside ∙ ap (λ (x : ℤ). take i hs ++ (x ∷ [])) (is_pos (get_or hs i (pos 0)) h read high)

    -- a bad one ends the pass
    pub passing_stop : day ≤ 99999 → leb least h && leb h 99999 ≡ false → working_day day count hs ≡ Err BadHolidays
    passing_stop l bad = bad_list day count hs l (by_one_pass hs ∙ ap not (left_is ∙ ap (λ (t : Bool). t && good_from (suc h) rest) bad))

  -- ---- all are passed

  -- the day found, or past the last day
  last_is : (found : ℕ) → day ≤ 99999 → WorkingDaysAfter hs day count found → within_last found ≡ counted hs (99999 - day) day count
  unfolding within_last
  last_is found l w =
      by_test (ltb 99999 found) (λ (t : Bool). cond t (Err NoSuchDay) (Ok found) ≡ counted hs (99999 - day) day count)
      (λ f. sym (runs_out hs (99999 - day) day count (too_late (ltb-true 99999 found f))))
      (λ f. sym (finds hs (99999 - day) day count found w (omega (arith, ltb-false 99999 found f))))
    where
      too_late : 99999 < found → up_to (is_working hs) (day + (99999 - day)) < up_to (is_working hs) day + count
      too_late b =
          let e : day + (99999 - day) ≡ 99999 = omega arith in
          let some : 0 < count = grind (arith, w.none) in
          omega (arith, w.counts, more (is_working hs) 99999 found b (w.some some), ap (up_to (is_working hs)) e)

  pub passing_done : {i found least : ℕ} → Passing i found least → length hs ≤ i → day ≤ 99999 → within_last found ≡ working_day day count hs
  unfolding good_from
  passing_done {i} {found} {least} g e l =
      let all : take i hs ≡ hs = take_all i hs e in
      let good : bad_holidays hs ≡ false = by_one_pass hs ∙ ap not (sym g.good ∙ ap (good_from least) (drop_of_length-le hs e)) in
      last_is found l (subst (λ (hs' : List ℤ). WorkingDaysAfter hs' day count found) all g.after) ∙ sym (good_list day count hs l good)

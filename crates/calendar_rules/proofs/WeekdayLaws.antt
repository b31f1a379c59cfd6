-- The weekday of a day by its number: it moves on by one with each day.
use mathlib.Core.Path.{◌≡◌, refl, sym, ap, ◌∙◌}
use mathlib.Core.Bool.{cond}
use Prim.Native.Nat.{ℕ, zero, suc, ◌+◌, ◌%◌, ◌≤◌, ◌<◌}
use native.Mathlib.Omega.{arith}
use native.Mathlib.Numerals.{add-one}
use lib.Dec.{ltb, eqb}
use borrow.Author.Tests.{lt-ltb, le-ltb}
use Rattle.std.specs.Prelude.{Result, Ok, Err}
use Rattle.std.proofs.lemmas.Bool.Decides.{nat_tests}
use Rattle.calendar_rules.specs.Weekdays.{weekday_number, next_weekday, weekday_on}
use Rattle.calendar_rules.specs.Working.{monday_to_friday}
use Rattle.calendar_rules.specs.Calls.{weekday_of, weekday_says}
use Rattle.calendar_rules.specs.Laws.{WeekdaysExact}
use Rattle.calendar_rules.specs.declared.Weekday.{Weekday}
use Rattle.calendar_rules.specs.declared.Weekday.TheVariants.{Monday, Tuesday, Wednesday, Thursday, Friday, Saturday, Sunday}
use Rattle.calendar_rules.specs.declared.Refusal.{Refusal}
use Rattle.calendar_rules.specs.declared.Refusal.TheVariants.{NoSuchDay}

next_number : (w : Weekday) → weekday_number (next_weekday w) ≡ weekday_number w % 7 + 1
next_number Monday = refl
next_number Tuesday = refl
next_number Wednesday = refl
next_number Thursday = refl
next_number Friday = refl
next_number Saturday = refl
next_number Sunday = refl

pub number_on : (day : ℕ) → weekday_number (weekday_on day) ≡ (day + 5) % 7 + 1
unfolding weekday_on
number_on zero = refl
number_on (suc day) = omega (arith, next_number (weekday_on day), number_on day, ap (λ (n : ℕ). n % 7) (number_on day))

-- Monday to Friday, by the remainder
pub five_of_seven : (day : ℕ) → monday_to_friday day ≡ ltb ((day + 5) % 7) 5
unfolding monday_to_friday
five_of_seven day = grind (arith, nat_tests, number_on day)

-- a weekday by its number
pub same_weekday : (w x : Weekday) → weekday_number w ≡ weekday_number x → w ≡ x
same_weekday w x e = sym (back w) ∙ ap by_number e ∙ back x
  where
    by_number : ℕ → Weekday
    by_number n = cond (eqb n 1) Monday (cond (eqb n 2) Tuesday (cond (eqb n 3) Wednesday (cond (eqb n 4) Thursday (cond (eqb n 5) Friday (cond (eqb n 6) Saturday Sunday)))))

    back : (w : Weekday) → by_number (weekday_number w) ≡ w
    back Monday = refl
    back Tuesday = refl
    back Wednesday = refl
    back Thursday = refl
    back Friday = refl
    back Saturday = refl
    back Sunday = refl

-- so the weekday of a day is known by the remainder
pub by_remainder : (day : ℕ) (w : Weekday) → weekday_number w ≡ (day + 5) % 7 + 1 → w ≡ weekday_on day
by_remainder day w e = same_weekday w (weekday_on day) (e ∙ sym (number_on day))

-- ---- the call

pub a_weekday : (day : ℕ) → day ≤ 99999 → weekday_of day ≡ Ok (weekday_on day)
unfolding weekday_of
a_weekday day l = simp (le-ltb 99999 day l)

pub no_weekday : (day : ℕ) → 99999 < day → weekday_of day ≡ Err NoSuchDay
unfolding weekday_of
no_weekday day l = simp (lt-ltb 99999 day l)

moves_on : (day : ℕ) → weekday_on (day + 1) ≡ next_weekday (weekday_on day)
unfolding weekday_on
moves_on day = ap weekday_on (add-one day)

first_weekday : weekday_on 0 ≡ Saturday
unfolding weekday_on
first_weekday = refl

pub weekdays_exact : WeekdaysExact
weekdays_exact =
    record {
      moves = λ day l. (weekday_on day, a_weekday day (omega arith), a_weekday (day + 1) (omega arith) ∙ ap Ok (moves_on day));
      number = next_number;
      other_days = λ day l. ap (λ (a : Result Weekday Refusal). (weekday_says a).number) (no_weekday day l);
      first = a_weekday 0 (omega arith) ∙ ap Ok first_weekday;
      last = a_weekday 99999 (omega arith) ∙ ap Ok (same_weekday (weekday_on 99999) Wednesday (number_on 99999));
    }

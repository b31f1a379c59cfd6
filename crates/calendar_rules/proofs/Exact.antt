-- The days of dates: which date has which day, and that no other has one; the calendar's theorem.
use mathlib.Core.Path.{◌≡◌, refl, sym, ap, ◌∙◌, subst}
use mathlib.Core.Bool.{Bool, true, cond, true≢false}
use Prim.Native.Nat.{ℕ, zero, suc, ◌+◌, ◌≤◌, ◌<◌}
use native.Mathlib.Omega.{arith}
use borrow.Author.Tests.{lt-ltb, le-ltb}
use Rattle.std.specs.Prelude.{Result, Ok, Err}
use Rattle.std.proofs.lemmas.Bool.Decides.{nat_tests}
use Rattle.whole.proofs.ListLaws.{by_test}
use Rattle.calendar_rules.specs.Dates.{date, leap_year, month_length, date_on}
use Rattle.calendar_rules.specs.Calls.{same_date, first_with, day_of, date_of, day_says, date_says}
use Rattle.calendar_rules.specs.Counting.{year_start, month_start, day_number}
use Rattle.calendar_rules.specs.Laws.{Valid, written, InCalendar, CalendarExact}
use Rattle.calendar_rules.specs.declared.Date.{Date}
use Rattle.calendar_rules.specs.declared.Refusal.{Refusal}
use Rattle.calendar_rules.specs.declared.Refusal.TheVariants.{NoSuchDay}
use Rattle.calendar_rules.proofs.Succession.{dated, later_larger, same_written, date_is}

-- ---- the same date

same_yes : (d e : Date) → same_date d e ≡ true → d ≡ e
same_yes d e t =
    let y : d.year ≡ e.year = grind (arith, nat_tests) in
    let m : d.month ≡ e.month = grind (arith, nat_tests) in
    let k : d.day ≡ e.day = grind (arith, nat_tests) in
    λ i. record { year = y i; month = m i; day = k i }

same_own : (d : Date) → same_date d d ≡ true
same_own d = grind (arith, nat_tests)

-- ---- the first day that has a date

-- a date stands on one day only
one_day : (m n : ℕ) → date_on m ≡ date_on n → m ≡ n
one_day m n e = sym (dated m).number ∙ ap day_number e ∙ (dated n).number

module _ (d : Date) where
  first_is : (left from day : ℕ) → date_on day ≡ d → from ≤ day → day < from + left → first_with d left from ≡ Ok day
  unfolding first_with
  first_is zero from day e h l = absurd (omega arith)
  first_is (suc left) from day e h l =
      by_test (same_date (date_on from) d) (λ (t : Bool). cond t (Ok from) (first_with d left (suc from)) ≡ Ok day)
      (λ t. ap Ok (one_day from day (same_yes (date_on from) d t ∙ sym e)))
      (λ t.
      let apart : (from ≡ day → ⊥) = λ s. true≢false (sym (same_own d) ∙ ap (λ (x : Date). same_date x d) (sym e ∙ ap date_on (sym s)) ∙ t) in
      first_is left (suc from) day e (omega (arith, apart)) (omega arith))

  first_none : (left from : ℕ) → ((day : ℕ) → day < from + left → date_on day ≡ d → ⊥) → first_with d left from ≡ Err NoSuchDay
  unfolding first_with
  first_none zero from n = refl
  first_none (suc left) from n =
      by_test (same_date (date_on from) d) (λ (t : Bool). cond t (Ok from) (first_with d left (suc from)) ≡ Err NoSuchDay)
      (λ t. absurd (n from (omega arith) (same_yes (date_on from) d t)))
      (λ t. first_none left (suc from) (λ (day : ℕ) (l : day < suc from + left). n day (omega arith)))

-- ---- the dates of the calendar

last_date : Date
last_date = date 2273 10 15

last_valid : Valid last_date
unfolding last_date month_length
last_valid = record { year = omega arith; month = (omega arith, omega arith); day = (omega arith, omega arith) }

last_number : day_number last_date ≡ 99999
unfolding last_date day_number year_start month_start leap_year
last_number = refl

last_written : written last_date ≡ 22731015
unfolding last_date
last_written = refl

-- they are the valid dates whose number is at most 99999
pub in_by_number : (d : Date) → Valid d → day_number d ≤ 99999 → InCalendar d
in_by_number d v l =
    record {
      valid = v;
      last = grind (arith, later_larger last_date d last_valid v, last_number, last_written);
    }

pub number_in : (d : Date) → InCalendar d → day_number d ≤ 99999
number_in d c =
    let same : written d ≡ written last_date → day_number d ≡ day_number last_date = λ e. ap day_number (same_written d last_date c.valid last_valid e) in
    grind (arith, later_larger d last_date c.valid last_valid, c.last, last_number, last_written)

-- such a date has its number for its day
pub a_day : (d : Date) → InCalendar d → day_of d ≡ Ok (day_number d)
unfolding day_of
a_day d c = first_is d 100000 0 (day_number d) (date_is d c.valid) (omega arith) (omega (arith, number_in d c))

-- and any other has none
pub no_day : (d : Date) → (InCalendar d → ⊥) → day_of d ≡ Err NoSuchDay
unfolding day_of
no_day d n =
    first_none d 100000 0
    (λ (day : ℕ) (l : day < 0 + 100000) (e : date_on day ≡ d).
    let s = dated day in
    let k : day_number d ≡ day = ap day_number (sym e) ∙ s.number in
    n (in_by_number d (subst Valid e s.valid) (omega arith)))

-- ---- the dates of days

pub a_date : (day : ℕ) → day ≤ 99999 → date_of day ≡ Ok (date_on day)
unfolding date_of
a_date day l = simp (le-ltb 99999 day l)

pub no_date : (day : ℕ) → 99999 < day → date_of day ≡ Err NoSuchDay
unfolding date_of
no_date day l = simp (lt-ltb 99999 day l)

first_date : date_on 0 ≡ date 2000 1 1
unfolding date_on
first_date = refl

last_date_lem : date_on 99999 ≡ date 2273 10 15
unfolding last_date
last_date_lem = ap date_on (sym last_number) ∙ date_is last_date last_valid

one_answer : {m n : ℕ} → ◌≡◌ {A = Result ℕ Refusal} (Ok m) (Ok n) → m ≡ n
one_answer e = cc

-- ---- the theorem

pub calendar_exact : CalendarExact
calendar_exact =
    record {
      days = day_and_back;
      dates = λ d c. (day_number d, a_day d c, number_in d c, a_date (day_number d) (number_in d c) ∙ ap Ok (date_is d c.valid));
      other_dates = λ d n. ap (λ (a : Result ℕ Refusal). (day_says a).number) (no_day d n);
      other_days = λ day l. ap (λ (a : Result Date Refusal). (date_says a).number) (no_date day l);
      rises = later;
      first = a_date 0 (omega arith) ∙ ap Ok first_date;
      last = a_date 99999 (omega arith) ∙ ap Ok last_date_lem;
    }
  where
    day_and_back : (day : ℕ) → day ≤ 99999 → (d : Date) × (date_of day ≡ Ok d) × InCalendar d × (day_of d ≡ Ok day)
    day_and_back day l =
        let s = dated day in
        let c = in_by_number (date_on day) s.valid (omega (arith, s.number)) in
        (date_on day, a_date day l, c, a_day (date_on day) c ∙ ap Ok s.number)

    later : (d e : Date) → InCalendar d → InCalendar e → written d < written e → (m n : ℕ) → day_of d ≡ Ok m → day_of e ≡ Ok n → m < n
    later d e c b l m n f g =
        let x : m ≡ day_number d = one_answer (sym f ∙ a_day d c) in
        let y : n ≡ day_number e = one_answer (sym g ∙ a_day e b) in
        omega (arith, later_larger d e c.valid b.valid l)

-- The worked cases hold: dates by the arithmetic that stands for succession, working days by computing them.
use mathlib.Core.Path.{◌≡◌, refl, ap, ◌∙◌}
use mathlib.Core.Bool.{Bool, false, cond}
use mathlib.Core.List.{List, [], ◌∷◌, map}
use Prim.Native.Nat.{ℕ, ◌+◌, ◌-◌, ◌≤◌}
use native.Mathlib.Omega.{arith}
use lib.Dec.{leb}
use lib.IntN.{ℤ, pos}
use borrow.Author.Tests.{leb-true, leb-false}
use Rattle.std.specs.Prelude.{Result, Ok, Err}
use Rattle.whole.proofs.ListLaws.{by_test}
use Rattle.whole.proofs.Tests.{and_false}
use Rattle.calendar_rules.specs.Dates.{leap_year, month_length}
use Rattle.calendar_rules.specs.Weekdays.{weekday_on}
use Rattle.calendar_rules.specs.Working.{monday_to_friday, is_working, counted}
use Rattle.calendar_rules.specs.Calls.{day_of, rising, bad_holidays, working_day, results_due, day_says}
use Rattle.calendar_rules.specs.Counting.{year_start, month_start, day_number, is_date}
use Rattle.calendar_rules.specs.Cases.{finds, DateCase, dates, working, refusals, dues, last_holiday}
use Rattle.calendar_rules.specs.declared.Date.{Date}
use Rattle.calendar_rules.specs.declared.Refusal.{Refusal}
use Rattle.calendar_rules.specs.declared.Refusal.TheVariants.{NoSuchDay}
use Rattle.calendar_rules.proofs.DateTests.{is_yes, is_no}
use Rattle.calendar_rules.proofs.Exact.{in_by_number, number_in, a_day, no_day}
use Rattle.calendar_rules.proofs.WorkingLaws.{next_no, finds as found, found_is, runs_out}
use Rattle.calendar_rules.proofs.Working.{good_list}

-- ---- dates

abbrev by_arithmetic : Date → Result ℕ Refusal
by_arithmetic d = cond (is_date d) (cond (leb (day_number d) 99999) (Ok (day_number d)) (Err NoSuchDay)) (Err NoSuchDay)

by_arithmetic_lem : (d : Date) → day_of d ≡ by_arithmetic d
by_arithmetic_lem d =
    by_test (is_date d) (λ (t : Bool). day_of d ≡ cond t (cond (leb (day_number d) 99999) (Ok (day_number d)) (Err NoSuchDay)) (Err NoSuchDay))
    (λ e.
    by_test (leb (day_number d) 99999) (λ (t : Bool). day_of d ≡ cond t (Ok (day_number d)) (Err NoSuchDay))
    (λ f. a_day d (in_by_number d (is_yes d e).0 (leb-true (day_number d) 99999 f)))
    (λ f. no_day d (λ c. omega (arith, number_in d c, leb-false (day_number d) 99999 f))))
    (λ e. no_day d (is_no d e))

each : (cs : List DateCase) → map (λ c. day_says (day_of c.asked)) cs ≡ map (λ c. day_says (by_arithmetic c.asked)) cs
each [] = refl
each (c ∷ cs) = λ i. day_says (by_arithmetic_lem c.asked i) ∷ each cs i

pub dates_hold : map (λ c. day_says (day_of c.asked)) dates ≡ map (λ c. c.says) dates
unfolding dates is_date day_number year_start month_start leap_year month_length
dates_hold = each dates ∙ refl

-- ---- working days

-- a day found within 30 days is the one found: the many days that are left then needn't be gone through
within_month : (day count : ℕ) (hs : List ℤ) (d : ℕ) → day + 30 ≤ 99999 → bad_holidays hs ≡ false → counted hs 30 day count ≡ Ok d → day_says (working_day day count hs) ≡ finds d
within_month day count hs d l good e =
    let near = found_is hs 30 day count d e in
    ap day_says (good_list day count hs (omega arith) good ∙ found hs (99999 - day) day count d near.1 (omega (arith, near.0)))

pub working_hold : map (λ c. c.gives) working ≡ map (λ c. c.says) working
unfolding working bad_holidays rising counted is_working monday_to_friday weekday_on
working_hold =
    λ i. within_month 0 0 [] 0 (omega arith) refl refl i
    ∷ within_month 1 0 [] 1 (omega arith) refl refl i
    ∷ within_month 3 0 (pos 3 ∷ []) 3 (omega arith) refl refl i
    ∷ within_month 0 0 (pos 0 ∷ pos 99999 ∷ []) 0 (omega arith) refl refl i
    ∷ within_month 0 1 [] 2 (omega arith) refl refl i
    ∷ within_month 2 1 [] 3 (omega arith) refl refl i
    ∷ within_month 6 1 [] 9 (omega arith) refl refl i
    ∷ within_month 2 1 (pos 2 ∷ []) 3 (omega arith) refl refl i
    ∷ within_month 2 1 (pos 3 ∷ []) 4 (omega arith) refl refl i
    ∷ within_month 6 1 (pos 7 ∷ []) 9 (omega arith) refl refl i
    ∷ within_month 5 1 (pos 6 ∷ pos 9 ∷ pos 10 ∷ []) 11 (omega arith) refl refl i
    ∷ within_month 5 6 (pos 9 ∷ []) 16 (omega arith) refl refl i
    ∷ []

pub refusals_hold : map (λ c. c.gives) refusals ≡ map (λ c. c.says) refusals
unfolding refusals working_day bad_holidays rising
refusals_hold = refl

pub dues_hold : map (λ c. c.gives) dues ≡ map (λ c. c.says) dues
unfolding dues results_due bad_holidays rising counted is_working monday_to_friday weekday_on
dues_hold =
    λ i. within_month 5 2 [] 9 (omega arith) refl refl i
    ∷ within_month 6 2 [] 10 (omega arith) refl refl i
    ∷ within_month 6 2 (pos 9 ∷ []) 11 (omega arith) refl refl i
    ∷ []

pub last_holiday_holds : last_holiday.gives ≡ last_holiday.says
unfolding bad_holidays rising is_working
last_holiday_holds = ap day_says (good_list 99998 1 (pos 99999 ∷ []) (omega arith) refl ∙ runs_out (pos 99999 ∷ []) 1 99998 1 (omega (arith, next_no (is_working (pos 99999 ∷ [])) 99998 none)))
  where
    none : is_working (pos 99999 ∷ []) 99999 ≡ false
    none = and_false (monday_to_friday 99999)

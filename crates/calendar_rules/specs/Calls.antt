-- docs/SPECIFICATION.md, "The calendar" and "Refused calls": the calendar's calls, and the numbers and values of their answers.
use Rattle.std.specs.Prelude.{ℕ, zero, suc, ◌-◌, Bool, true, not, ◌&&◌, ◌||◌, cond, List, [], ◌∷◌, eqb, ltb, ℤ, pos, Result, Ok, Err}
use Rattle.std.specs.Prelude.{None, Some}
use Rattle.std.specs.Int.Signed.{lt_z}
use Rattle.whole.specs.Lists.{any, Check, first_applying}
use Rattle.whole.specs.Says.{Says}
use Rattle.calendar_rules.specs.Dates.{date_on}
use Rattle.calendar_rules.specs.Weekdays.{weekday_number, weekday_on}
use Rattle.calendar_rules.specs.Working.{counted}
use Rattle.calendar_rules.specs.declared.Date.{Date}
use Rattle.calendar_rules.specs.declared.Weekday.{Weekday}
use Rattle.calendar_rules.specs.declared.Refusal.{Refusal}
use Rattle.calendar_rules.specs.declared.Refusal.TheVariants.{NoSuchDay, BadHolidays}

-- the refusal's number
abbrev pub number_of : Refusal → ℕ
number_of NoSuchDay = 27
number_of BadHolidays = 28

-- 27: there is no such day: it is above 99999
abbrev pub day_check : ℕ → Check Refusal
day_check day = record { applies = ltb 99999 day; answer = NoSuchDay }

-- ---- dates and days

-- the date of a day
unfoldable pub date_of : ℕ → Result Date Refusal
date_of day = first_applying (Ok (date_on day)) Err (day_check day ∷ [])

-- the two dates are the same
abbrev pub same_date : Date → Date → Bool
same_date d e = eqb d.year e.year && eqb d.month e.month && eqb d.day e.day

-- the first of so many days, from one on, that has the date
unfoldable pub first_with : Date → ℕ → ℕ → Result ℕ Refusal
first_with d zero day = Err NoSuchDay
first_with d (suc left) day = cond (same_date (date_on day) d) (Ok day) (first_with d left (suc day))

-- the day of a date: the one of 0..99999 that has it (27: there is none)
unfoldable pub day_of : Date → Result ℕ Refusal
day_of d = first_with d 100000 0

-- the weekday of a day
unfoldable pub weekday_of : ℕ → Result Weekday Refusal
weekday_of day = first_applying (Ok (weekday_on day)) Err (day_check day ∷ [])

-- ---- working days

-- each number of the list is above the one before it
unfoldable pub rising : List ℤ → Bool
rising [] = true
rising (h ∷ []) = true
rising (h ∷ k ∷ hs) = lt_z h k && rising (k ∷ hs)

-- a number outside 0..99999
abbrev pub outside : ℤ → Bool
outside h = lt_z h (pos 0) || lt_z (pos 99999) h

-- 28: holidays not strictly rising, or one outside 0..99999
unfoldable pub bad_holidays : List ℤ → Bool
bad_holidays holidays = not (rising holidays) || any outside holidays

-- what is tried of the input, in this order
abbrev pub working_checks : ℕ → List ℤ → List (Check Refusal)
working_checks day holidays = day_check day ∷ record { applies = bad_holidays holidays; answer = BadHolidays } ∷ []

-- the day that is so many working days after a day (27 last: it is past 99999)
unfoldable pub working_day : ℕ → ℕ → List ℤ → Result ℕ Refusal
working_day day count holidays = first_applying (counted holidays (99999 - day) day count) Err (working_checks day holidays)

-- the day by which monitoring results are due: 2 working days after retrieval, the day of retrieval excluded
unfoldable pub results_due : ℕ → List ℤ → Result ℕ Refusal
results_due day holidays = working_day day 2 holidays

-- ---- the number and the values of each answer

-- the refusal's number, or what is listed of the value
abbrev pub answer_says : {A : Type 0} → (A → List ℤ) → Result A Refusal → Says
answer_says values (Ok x) = record { number = None; values = values x }
answer_says values (Err r) = record { number = Some (number_of r); values = [] }

-- a day
abbrev pub day_says : Result ℕ Refusal → Says
day_says = answer_says (λ day. pos day ∷ [])

-- year, month, day
abbrev pub date_says : Result Date Refusal → Says
date_says = answer_says (λ d. pos d.year ∷ pos d.month ∷ pos d.day ∷ [])

-- the weekday's number
abbrev pub weekday_says : Result Weekday Refusal → Says
weekday_says = answer_says (λ w. pos (weekday_number w) ∷ [])

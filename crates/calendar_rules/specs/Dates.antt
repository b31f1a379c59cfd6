-- docs/SPECIFICATION.md, "Dates and days": the calendar by succession. Each date has a next one, and a day's date is so many steps after the first.
use Rattle.std.specs.Prelude.{ℕ, zero, suc, ◌%◌, Bool, not, ◌&&◌, ◌||◌, cond, List, [], ◌∷◌, get_or, eqb, ltb}
use Rattle.calendar_rules.specs.declared.Date.{Date}

-- a date by its year, month and day
abbrev pub date : ℕ → ℕ → ℕ → Date
date year month day = record { year = year; month = month; day = day }

-- the Gregorian rule: every fourth year is a leap year, but of the full centuries only every fourth
unfoldable pub leap_year : ℕ → Bool
leap_year year = eqb (year % 4) 0 && (not (eqb (year % 100) 0) || eqb (year % 400) 0)

-- the months' lengths, January first, of a leap year or another
abbrev pub month_lengths : Bool → List ℕ
month_lengths leap = 31 ∷ cond leap 29 28 ∷ 31 ∷ 30 ∷ 31 ∷ 30 ∷ 31 ∷ 31 ∷ 30 ∷ 31 ∷ 30 ∷ 31 ∷ []

-- the length of a month, 1 to 12 (of any other: 0)
unfoldable pub month_length : ℕ → ℕ → ℕ
month_length year month = get_or (0 ∷ month_lengths (leap_year year)) month 0

-- the next date: the next day of the month, the first of the next month, or 1 January of the next year
unfoldable pub next_date : Date → Date
next_date d =
    cond (ltb d.day (month_length d.year d.month))
    (date d.year d.month (suc d.day))
    (cond (ltb d.month 12) (date d.year (suc d.month) 1) (date (suc d.year) 1 1))

-- day 0 is 1 January 2000, and every day's date is followed by the next date
unfoldable pub date_on : ℕ → Date
date_on zero = date 2000 1 1
date_on (suc day) = next_date (date_on day)

-- What the calendar promises besides the calls' contracts.
use Rattle.std.specs.Prelude.{ℕ, zero, suc, ◌+◌, ◌*◌, ◌%◌, ◌≤◌, ◌<◌, ◌≡◌, Bool, true, false, cond, List, ◌↔◌, ℤ, length, Ok, Some}
use Rattle.calendar_rules.specs.Dates.{date, month_length}
use Rattle.calendar_rules.specs.Weekdays.{weekday_number, next_weekday}
use Rattle.calendar_rules.specs.Working.{is_working}
use Rattle.calendar_rules.specs.Calls.{day_of, date_of, weekday_of, bad_holidays, working_day, day_says, date_says, weekday_says}
use Rattle.calendar_rules.specs.declared.Date.{Date}
use Rattle.calendar_rules.specs.declared.Weekday.{Weekday}
use Rattle.calendar_rules.specs.declared.Weekday.TheVariants.{Wednesday, Saturday}

-- ---- dates and days

-- a date of the year 2000 or a later one: a month of 1..12 and a day of 1 to the month's length
pub record Valid (d : Date) : Type 0 where
  pub year : 2000 ≤ d.year
  pub month : (1 ≤ d.month) × (d.month ≤ 12)
  pub day : (1 ≤ d.day) × (d.day ≤ month_length d.year d.month)

-- a date written as one number, as 22731015: dates follow each other in its order
abbrev pub written : Date → ℕ
written d = 10000 * d.year + 100 * d.month + d.day

-- a date from the first, 1 January 2000, to the last, 15 October 2273
pub record InCalendar (d : Date) : Type 0 where
  pub valid : Valid d
  pub last : written d ≤ 22731015

-- days and dates turn into each other, each from first to last, and there are no others
pub record CalendarExact : Type 0 where
  -- every day of 0..99999 has a date of the calendar, which turns back into it
  pub days : (day : ℕ) → day ≤ 99999 → (d : Date) × (date_of day ≡ Ok d) × InCalendar d × (day_of d ≡ Ok day)
  -- every date from first to last turns into a day and comes back
  pub dates : (d : Date) → InCalendar d → (day : ℕ) × (day_of d ≡ Ok day) × (day ≤ 99999) × (date_of day ≡ Ok d)
  -- no other triple of numbers is a date, and no other number a day
  pub other_dates : (d : Date) → (InCalendar d → ⊥) → (day_says (day_of d)).number ≡ Some 27
  pub other_days : (day : ℕ) → 99999 < day → (date_says (date_of day)).number ≡ Some 27
  -- a later date has a later day
  pub rises : (d e : Date) → InCalendar d → InCalendar e → written d < written e → (m n : ℕ) → day_of d ≡ Ok m → day_of e ≡ Ok n → m < n
  pub first : date_of 0 ≡ Ok (date 2000 1 1)
  pub last : date_of 99999 ≡ Ok (date 2273 10 15)

-- the weekday moves on by one with each day, from a Saturday to a Wednesday
pub record WeekdaysExact : Type 0 where
  pub moves : (day : ℕ) → day < 99999 → (w : Weekday) × (weekday_of day ≡ Ok w) × (weekday_of (day + 1) ≡ Ok (next_weekday w))
  -- by its number, after which comes the next, and after 7 comes 1
  pub number : (w : Weekday) → weekday_number (next_weekday w) ≡ weekday_number w % 7 + 1
  pub other_days : (day : ℕ) → 99999 < day → (weekday_says (weekday_of day)).number ≡ Some 27
  pub first : weekday_of 0 ≡ Ok Saturday
  pub last : weekday_of 99999 ≡ Ok Wednesday

-- ---- working days

-- how many of the days from 1 to this one pass the test
unfoldable pub up_to : (ℕ → Bool) → ℕ → ℕ
up_to p zero = 0
up_to p (suc day) = cond (p (suc day)) 1 0 + up_to p day

-- d is so many working days after the day: so many of the days after it up to d are working days, and d is the last of them, or the day itself where the count is 0
pub record WorkingDaysAfter (holidays : List ℤ) (day count d : ℕ) : Type 0 where
  pub later : day ≤ d
  pub counts : up_to (is_working holidays) d ≡ up_to (is_working holidays) day + count
  pub none : count ≡ 0 → d ≡ day
  pub some : 0 < count → is_working holidays d ≡ true

-- the working-day call finds a day exactly where there is one up to 99999 that is so many working days after
pub record WorkingExact : Type 0 where
  pub exactly : (day count : ℕ) (holidays : List ℤ) → day ≤ 99999 → bad_holidays holidays ≡ false
      → (d : ℕ) → (working_day day count holidays ≡ Ok d) ↔ ((d ≤ 99999) × WorkingDaysAfter holidays day count d)
  -- and where there is none it answers 27
  pub otherwise : (day count : ℕ) (holidays : List ℤ) → day ≤ 99999 → bad_holidays holidays ≡ false
      → ((d : ℕ) → d ≤ 99999 → WorkingDaysAfter holidays day count d → ⊥) → (day_says (working_day day count holidays)).number ≡ Some 27
  -- a good list is short: the pass over the holidays stops at the first that is bad, so after 100001 of them at the latest
  pub short : (holidays : List ℤ) → bad_holidays holidays ≡ false → length holidays ≤ 100000

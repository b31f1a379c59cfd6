-- The arithmetic that stands for succession in the code, and the test of holidays in one pass; no rule cites it.
use Rattle.std.specs.Prelude.{ℕ, suc, ◌+◌, ◌-◌, ◌*◌, ◌/◌, Bool, true, ◌&&◌, cond, List, [], ◌∷◌, leb, ℤ}
use Rattle.whole.specs.Places.{natural}
use Rattle.calendar_rules.specs.Dates.{leap_year, month_length}
use Rattle.calendar_rules.specs.declared.Date.{Date}

-- the days from 1 January 2000 to 1 January of a year: 365 for each year between, and one more for each leap year
unfoldable pub year_start : ℕ → ℕ
year_start year =
    let y = year - 2000 in
    365 * y + (y + 3) / 4 + (y + 399) / 400 - (y + 99) / 100

-- the days that February has fewer than 30, from March on
abbrev pub lacking : Bool → ℕ → ℕ
lacking leap month = cond (leb month 2) 0 (cond leap 1 2)

-- the days from 1 January to the first of a month, 1 to 13, of a leap year or another
unfoldable pub month_start : Bool → ℕ → ℕ
month_start leap month = (367 * month - 362) / 12 - lacking leap month

-- the day of a date
unfoldable pub day_number : Date → ℕ
day_number d = year_start d.year + month_start (leap_year d.year) d.month + (d.day - 1)

-- a date of the years 2000 to 2273: a month of 1..12 and a day of 1 to the month's length
unfoldable pub is_date : Date → Bool
is_date d =
    ((leb 2000 d.year && leb d.year 2273) && (leb 1 d.month && leb d.month 12))
    && (leb 1 d.day && leb d.day (month_length d.year d.month))

-- the holidays are good, the first no earlier than this day: each is of 0..99999 and later than the one before it
unfoldable pub good_from : ℕ → List ℤ → Bool
good_from least [] = true
good_from least (h ∷ hs) = leb least (natural h) && leb (natural h) 99999 && good_from (suc (natural h)) hs

-- docs/SPECIFICATION.md, "Working days": which days they are, and the day that is a number of them after another, counted one by one.
use Rattle.std.specs.Prelude.{ℕ, zero, suc, ◌-◌, Bool, false, not, ◌&&◌, cond, List, eqb, leb, ℤ, pos, negsuc, Result, Ok, Err}
use Rattle.whole.specs.Lists.{any}
use Rattle.calendar_rules.specs.Weekdays.{weekday_number, weekday_on}
use Rattle.calendar_rules.specs.declared.Refusal.{Refusal}
use Rattle.calendar_rules.specs.declared.Refusal.TheVariants.{NoSuchDay}

-- Monday to Friday
unfoldable pub monday_to_friday : ℕ → Bool
monday_to_friday day = leb (weekday_number (weekday_on day)) 5

-- the number of the list is this day
abbrev pub is_day : ℕ → ℤ → Bool
is_day day (pos n) = eqb n day
is_day day (negsuc n) = false

-- a working day: Monday to Friday, unless listed
unfoldable pub is_working : List ℤ → ℕ → Bool
is_working holidays day = monday_to_friday day && not (any (is_day day) holidays)

-- the day on which so many working days have been counted, going on from a day one by one; none where the days that are left run out before
unfoldable pub counted : List ℤ → ℕ → ℕ → ℕ → Result ℕ Refusal
counted holidays zero day count = cond (eqb count 0) (Ok day) (Err NoSuchDay)
counted holidays (suc left) day count =
    cond (eqb count 0) (Ok day) (counted holidays left (suc day) (count - cond (is_working holidays (suc day)) 1 0))

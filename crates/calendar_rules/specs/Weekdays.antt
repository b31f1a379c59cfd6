-- docs/SPECIFICATION.md, "Dates and days": the weekday of a day, by succession.
use Rattle.std.specs.Prelude.{ℕ, zero, suc}
use Rattle.calendar_rules.specs.declared.Weekday.{Weekday}
use Rattle.calendar_rules.specs.declared.Weekday.TheVariants.{Monday, Tuesday, Wednesday, Thursday, Friday, Saturday, Sunday}

-- a weekday's number, as in ISO 8601
abbrev pub weekday_number : Weekday → ℕ
weekday_number Monday = 1
weekday_number Tuesday = 2
weekday_number Wednesday = 3
weekday_number Thursday = 4
weekday_number Friday = 5
weekday_number Saturday = 6
weekday_number Sunday = 7

-- the weekday after
abbrev pub next_weekday : Weekday → Weekday
next_weekday Monday = Tuesday
next_weekday Tuesday = Wednesday
next_weekday Wednesday = Thursday
next_weekday Thursday = Friday
next_weekday Friday = Saturday
next_weekday Saturday = Sunday
next_weekday Sunday = Monday

-- day 0 is a Saturday, and every day's weekday is followed by the next
unfoldable pub weekday_on : ℕ → Weekday
weekday_on zero = Saturday
weekday_on (suc day) = next_weekday (weekday_on day)

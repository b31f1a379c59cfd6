-- What the exported calendar functions hand back; all values are 0 where refused.
use Rattle.std.specs.Prelude.{ℕ, Result, Ok, Err}
use Rattle.calendar_rules.specs.Weekdays.{weekday_number}
use Rattle.calendar_rules.specs.Calls.{number_of}
use Rattle.calendar_rules.specs.declared.Date.{Date}
use Rattle.calendar_rules.specs.declared.Weekday.{Weekday}
use Rattle.calendar_rules.specs.declared.Refusal.{Refusal}
use Rattle.abi_calendar.specs.declared.GrainDay.{GrainDay}
use Rattle.abi_calendar.specs.declared.GrainDate.{GrainDate}
use Rattle.abi_calendar.specs.declared.GrainWeekday.{GrainWeekday}

-- the day
abbrev pub day_given : Result ℕ Refusal → GrainDay
day_given (Ok day) = record { accepted = 1; number = 0; day = day }
day_given (Err r) = record { accepted = 0; number = number_of r; day = 0 }

-- year, month, day
abbrev pub date_given : Result Date Refusal → GrainDate
date_given (Ok d) = record { accepted = 1; number = 0; year = d.year; month = d.month; day = d.day }
date_given (Err r) = record { accepted = 0; number = number_of r; year = 0; month = 0; day = 0 }

-- the weekday's number
abbrev pub weekday_given : Result Weekday Refusal → GrainWeekday
weekday_given (Ok w) = record { accepted = 1; number = 0; weekday = weekday_number w }
weekday_given (Err r) = record { accepted = 0; number = number_of r; weekday = 0 }

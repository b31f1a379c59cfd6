-- In which year a day stands, and in which month: what the code that takes a day apart hands on.
use Rattle.std.specs.Prelude.{ℕ, suc, ◌≤◌, ◌<◌, Bool}
use Rattle.calendar_rules.specs.Counting.{year_start, month_start}

-- the day is one of the year
pub record InYear (day year : ℕ) : Type 0 where
  pub from : 2000 ≤ year
  pub up_to : year ≤ 2273
  pub begins : year_start year ≤ day
  pub ends : day < year_start (suc year)

-- so many days after 1 January stands a day of the month
pub record InMonth (leap : Bool) (rest month : ℕ) : Type 0 where
  pub from : 1 ≤ month
  pub up_to : month ≤ 12
  pub begins : month_start leap month ≤ rest
  pub ends : rest < month_start leap (suc month)

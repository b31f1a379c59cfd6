use native.Mathlib.Omega.{arith}
use Rattle.calendar_rules.specs.Dates.{date}
use Rattle.calendar_rules.proofs.Succession.{small_day}
use Rattle.calendar_dates.proofs.YearLaws.{start_high}
use Rattle.calendar_dates.proofs.MonthLaws.{month_small}
use Rattle.calendar_dates.proofs.ValidDate.number.Goals as goal

pub overflow_add-result-2 : goal.overflow_add-result-2
overflow_add-result-2 c =
    let d = c.args.self in
    let v = d.valid in
    omega (arith, v.1, v.0.year, v.0.month, c.start.ensures, c.month_start.ensures, small_day (date d.year.number d.month d.day) v.0, start_high d.year.number v.0.year, month_small d.year.leap d.month v.0.month.1)

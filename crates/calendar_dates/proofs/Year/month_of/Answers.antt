use native.Mathlib.Omega.{arith}
use Rattle.calendar_dates.proofs.MonthLaws.{january}
use Rattle.calendar_dates.proofs.Year.month_of.Goals as goal

pub returns-then-rest-month_start : goal.returns-then-rest-month_start
returns-then-rest-month_start c = january c.args.self.leap c.args.rest (omega arith)

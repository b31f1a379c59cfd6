use native.Mathlib.Omega.{arith}
use Rattle.calendar_rules.specs.declared.Weekday.TheVariants.{Monday, Tuesday, Wednesday, Thursday, Friday, Saturday, Sunday}
use Rattle.calendar_rules.proofs.WeekdayLaws.{by_remainder}
use Rattle.calendar.proofs.weekday_on.Goals as goal

pub returns-in-0 : goal.returns-in-0
returns-in-0 c = by_remainder c.args.day.number Monday (omega arith)

pub returns-in-1 : goal.returns-in-1
returns-in-1 c = by_remainder c.args.day.number Tuesday (omega arith)

pub returns-in-2 : goal.returns-in-2
returns-in-2 c = by_remainder c.args.day.number Wednesday (omega arith)

pub returns-in-3 : goal.returns-in-3
returns-in-3 c = by_remainder c.args.day.number Thursday (omega arith)

pub returns-in-4 : goal.returns-in-4
returns-in-4 c = by_remainder c.args.day.number Friday (omega arith)

pub returns-in-5 : goal.returns-in-5
returns-in-5 c = by_remainder c.args.day.number Saturday (omega arith)

pub returns-in_default : goal.returns-in_default
returns-in_default c = by_remainder c.args.day.number Sunday (omega arith)

use native.Mathlib.Omega.{arith}
use Rattle.calendar_working.proofs.WeekLaws.{with_so_many}
use Rattle.calendar_working.proofs.day_with.Goals as goal

pub returns : goal.returns
returns c = (with_so_many c.args.count c.requires.0, omega arith)

use Prim.Native.Nat.{◌+◌}
use Rattle.calendar.proofs.Passing.{Passing}
use Rattle.calendar.proofs.working_day.Given as goal

abbrev pub invariant-loop-holiday : goal.invariant-loop-holiday
invariant-loop-holiday l = Passing l.holidays l.start.number l.count l.holiday-index (l.start.number + l.ahead) l.least

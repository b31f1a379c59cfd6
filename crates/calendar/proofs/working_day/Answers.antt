use borrow.Author.Rules.{rules}
use mathlib.Core.Path.{◌≡◌, sym, ◌∙◌}
use Prim.Native.Nat.{◌+◌, ◌-◌}
use native.Mathlib.Omega.{arith}
use lib.IntN.{pos}
use lib.ListN.{get_or}
use Rattle.whole.proofs.PlaceLaws.{natural_read}
use Rattle.calendar.proofs.Passing.{passing_start, passing_next, passing_stop, passing_done}
use Rattle.calendar.proofs.working_day.Goals as goal

pub loop-holiday-init : goal.loop-holiday-init
loop-holiday-init c =
    let is : c.without_holidays.result ≡ c.in_ok-start.start.number + (c.without_holidays.result - c.from-origin.result) = omega (arith, c.without_holidays.ensures.0.later) in
    rw (← is) (passing_start _ _ _ c.without_holidays.ensures.0 c.without_holidays.ensures.1)

pub returns-then-not-contains : goal.returns-then-not-contains
returns-then-not-contains c =
    let l = c.loop-holiday in
    let is = c.cast_unsigned-holiday.ensures ∙ natural_read {z = get_or c.args.holidays.now l.holiday-index (pos 0)} (search rules) in
    let same : c.in_ok-start.start.number ≡ c.args.day = omega arith in
    rw (← same) (sym (passing_stop _ _ _ l.invariant c.loop-holiday-test.true is c.in_ok-start.start.within (search rules)))

pub loop-holiday-preserved : goal.loop-holiday-preserved
loop-holiday-preserved c =
    let l = c.loop-holiday in
    let is = c.cast_unsigned-holiday.ensures ∙ natural_read {z = get_or c.args.holidays.now l.holiday-index (pos 0)} (search rules) in
    rw c.passed-ahead.ensures (passing_next _ _ _ l.invariant c.loop-holiday-test.true is (search rules) (search rules))

pub returns : goal.returns
returns c =
    let same : c.in_ok-start.start.number ≡ c.args.day = omega arith in
    rw (← same) (c.within_last.ensures ∙ rw c.from-origin.ensures (passing_done _ _ _ c.loop-holiday.invariant c.loop-holiday-test.false c.in_ok-start.start.within))

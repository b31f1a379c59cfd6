-- The code's test of a date: those that pass are valid, and every date of the calendar does.
use mathlib.Core.Path.{◌≡◌}
use mathlib.Core.Bool.{true, false}
use Prim.Native.Nat.{◌≤◌}
use native.Mathlib.Omega.{arith}
use Rattle.std.proofs.lemmas.Bool.Decides.{nat_tests}
use Rattle.calendar_rules.specs.Laws.{Valid, InCalendar}
use Rattle.calendar_rules.specs.declared.Date.{Date}
use Rattle.calendar_rules.specs.Counting.{is_date}

module _ (d : Date) where
  pub is_yes : is_date d ≡ true → Valid d × (d.year ≤ 2273)
  unfolding is_date
  is_yes e =
      (record { year = grind (arith, nat_tests); month = (grind (arith, nat_tests), grind (arith, nat_tests)); day = (grind (arith, nat_tests), grind (arith, nat_tests)) }, grind (arith, nat_tests))

  pub is_no : is_date d ≡ false → InCalendar d → ⊥
  unfolding is_date
  is_no e c = grind (arith, nat_tests, c.valid, c.last)

use native.Mathlib.Omega.{arith}
use Prim.Native.Nat.{ℕ, ◌+◌, ◌-◌}
use mathlib.Core.Path.{◌≡◌, subst, ap, ◌∙◌}
use Rattle.calendar_rules.specs.Working.{monday_to_friday}
use Rattle.calendar_rules.specs.Laws.{up_to}
use Rattle.calendar_working.specs.Passes.{HasUpTo}
use Rattle.calendar_working.proofs.WeekLaws.{found_without}
use Rattle.calendar_working.proofs.without_holidays.Goals as goal

pub returns : goal.returns
returns c =
    let e : c.from-first.result + 1 - 1 ≡ c.args.day.number = omega arith in
    let before = c.count_before.ensures.0 ∙ ap (up_to monday_to_friday) e in
    let so_many = subst (λ (k : ℕ). HasUpTo k c.day_with.result) (λ i. before i + c.from-2.ensures i) c.day_with.ensures.0 in
    (found_without c.args.day.number c.args.count c.day_with.result so_many (omega arith), omega (arith, c.day_with.ensures.1))

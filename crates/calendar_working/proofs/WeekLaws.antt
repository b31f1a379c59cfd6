-- Monday to Friday counted: five a week; the day with so many up to it; and the day found where there are no holidays.
use mathlib.Core.Path.{◌≡◌, refl, ◌∙◌}
use mathlib.Core.List.{[]}
use Prim.Native.Nat.{ℕ, zero, suc, ◌+◌, ◌-◌, ◌*◌, ◌/◌, ◌%◌, ◌≤◌, ◌<◌}
use native.Mathlib.Omega.{arith}
use borrow.Author.Tests.{lt-ltb}
use Rattle.std.proofs.lemmas.Bool.Decides.{nat_tests}
use Rattle.whole.proofs.Tests.{and_true}
use Rattle.calendar_rules.specs.Working.{monday_to_friday, is_working}
use Rattle.calendar_rules.specs.Laws.{up_to, WorkingDaysAfter}
use Rattle.calendar_rules.proofs.WeekdayLaws.{five_of_seven}
use Rattle.calendar_rules.proofs.WorkingLaws.{next_yes, next_no, no_fewer}
use Rattle.calendar_working.specs.Passes.{HasUpTo}

pub five_a_week : (day : ℕ) → up_to monday_to_friday day ≡ 5 * (day / 7) + (day % 7 - 1)
unfolding up_to
five_a_week zero = refl
five_a_week (suc day) =
    grind (arith, nat_tests, five_of_seven (suc day), next_yes monday_to_friday day, next_no monday_to_friday day, five_a_week day)

-- the day up to which there are so many
pub with_so_many : (count : ℕ) → 1 ≤ count → HasUpTo count (7 * ((count - 1) / 5) + (count - 1) % 5 + 2)
with_so_many count some =
    let d = 7 * ((count - 1) / 5) + (count - 1) % 5 + 2 in
    record { counts = omega (arith, five_a_week d); itself = five_of_seven d ∙ lt-ltb ((d + 5) % 7) 5 (omega arith) }

-- ---- without holidays

pub none_listed : (x : ℕ) → is_working [] x ≡ monday_to_friday x
unfolding is_working
none_listed x = and_true (monday_to_friday x)

pub found_without : (day count d : ℕ) → HasUpTo (up_to monday_to_friday day + count) d → 0 < count → WorkingDaysAfter [] day count d
found_without day count d h l =
    let same : (n : ℕ) → up_to (is_working []) n ≡ up_to monday_to_friday n = λ n i. up_to (λ x. none_listed x i) n in
    record {
      later = grind (arith, h.counts, no_fewer monday_to_friday d day);
      counts = omega (arith, same d, same day, h.counts);
      none = λ z. absurd (omega arith);
      some = λ z. none_listed d ∙ h.itself;
    }

-- The working-day call: which refusal applies, and the theorem about the day that it finds.
use mathlib.Core.Path.{◌≡◌, refl, sym, ap, ◌∙◌}
use mathlib.Core.Bool.{true, false}
use mathlib.Core.List.{List}
use mathlib.Core.Logic.{◌↔◌}
use Prim.Native.Nat.{ℕ, ◌-◌, ◌≤◌, ◌<◌}
use native.Mathlib.Omega.{arith}
use lib.IntN.{ℤ}
use borrow.Author.Tests.{lt-ltb, le-ltb}
use Rattle.std.specs.Prelude.{Result, Ok, Err, Some}
use Rattle.calendar_rules.specs.Working.{counted}
use Rattle.calendar_rules.specs.Calls.{bad_holidays, working_day, day_says}
use Rattle.calendar_rules.specs.Laws.{WorkingDaysAfter, WorkingExact}
use Rattle.calendar_rules.specs.declared.Refusal.{Refusal}
use Rattle.calendar_rules.specs.declared.Refusal.TheVariants.{NoSuchDay, BadHolidays}
use Rattle.calendar_rules.proofs.WorkingLaws.{finds, found_is, else_27}
use Rattle.calendar_rules.proofs.Holidays.{short}

module _ (day count : ℕ) (hs : List ℤ) where
  -- 27 of the input
  pub no_start : 99999 < day → working_day day count hs ≡ Err NoSuchDay
  unfolding working_day
  no_start l = simp (lt-ltb 99999 day l)

  -- 28
  pub bad_list : day ≤ 99999 → bad_holidays hs ≡ true → working_day day count hs ≡ Err BadHolidays
  unfolding working_day
  bad_list l e = simp (le-ltb 99999 day l, e)

  -- neither: the days are counted
  pub good_list : day ≤ 99999 → bad_holidays hs ≡ false → working_day day count hs ≡ counted hs (99999 - day) day count
  unfolding working_day
  good_list l e = simp (le-ltb 99999 day l, e)

pub working_exact : WorkingExact
working_exact = record { exactly = both_ways; otherwise = none_found; short = short }
  where
    both_ways : (day count : ℕ) (hs : List ℤ) → day ≤ 99999 → bad_holidays hs ≡ false
        → (d : ℕ) → (working_day day count hs ≡ Ok d) ↔ ((d ≤ 99999) × WorkingDaysAfter hs day count d)
    both_ways day count hs l e d =
        let is = good_list day count hs l e in
        (λ f. let r = found_is hs (99999 - day) day count d (sym is ∙ f) in (omega (arith, r.0), r.1), λ a. is ∙ finds hs (99999 - day) day count d a.1 (omega (arith, a.0)))

    none_found : (day count : ℕ) (hs : List ℤ) → day ≤ 99999 → bad_holidays hs ≡ false
        → ((d : ℕ) → d ≤ 99999 → WorkingDaysAfter hs day count d → ⊥) → (day_says (working_day day count hs)).number ≡ Some 27
    none_found day count hs l e n =
        ap (λ (a : Result ℕ Refusal). (day_says a).number) (good_list day count hs l e)
        ∙ else_27 hs (λ (a : Result ℕ Refusal). (day_says a).number ≡ Some 27) (99999 - day) day count
        (λ d f. let r = found_is hs (99999 - day) day count d f in absurd (n d (omega (arith, r.0)) r.1)) refl

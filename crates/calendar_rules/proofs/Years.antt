-- The years' starts: each year begins where the one before ends, and a later year begins no earlier than that.
use mathlib.Core.Path.{◌≡◌, ap, ◌∙◌}
use mathlib.Core.Bool.{not, ◌&&◌, ◌||◌, cond}
use Prim.Native.Nat.{ℕ, suc, ◌+◌, ◌-◌, ◌*◌, ◌/◌, ◌%◌, ◌≤◌, ◌<◌}
use native.Mathlib.Omega.{arith}
use lib.Dec.{eqb}
use Rattle.std.proofs.lemmas.Bool.Decides.{nat_tests}
use Rattle.calendar_rules.specs.Dates.{leap_year}
use Rattle.calendar_rules.specs.Counting.{year_start}
use Rattle.calendar_rules.proofs.Months.{no_less}

-- the start of the year 2000 + k
abbrev start_of : ℕ → ℕ
start_of k = 365 * k + (k + 3) / 4 + (k + 399) / 400 - (k + 99) / 100

-- what one year more adds, by the three tests of the Gregorian rule: each by itself, as omega divides by numerals only
module _ (k : ℕ) where
  fourth : (suc k + 3) / 4 ≡ (k + 3) / 4 + cond (eqb ((2000 + k) % 4) 0) 1 0
  fourth = grind (arith, nat_tests)

  hundredth : (suc k + 99) / 100 ≡ (k + 99) / 100 + cond (eqb ((2000 + k) % 100) 0) 1 0
  hundredth = grind (arith, nat_tests)

  four_hundredth : (suc k + 399) / 400 ≡ (k + 399) / 400 + cond (eqb ((2000 + k) % 400) 0) 1 0
  four_hundredth = grind (arith, nat_tests)

  -- fewer years of full centuries than every fourth
  fewer : (k + 99) / 100 ≤ (k + 3) / 4
  fewer = omega arith

  year_by : start_of (suc k) ≡ start_of k + cond (eqb ((2000 + k) % 4) 0 && (not (eqb ((2000 + k) % 100) 0) || eqb ((2000 + k) % 400) 0)) 366 365
  year_by = grind (arith, nat_tests, fourth, hundredth, four_hundredth, fewer)

-- each year begins where the one before ends
pub year_next : (y : ℕ) → 2000 ≤ y → year_start (suc y) ≡ year_start y + cond (leap_year y) 366 365
unfolding year_start leap_year
year_next y h =
    let k = y - 2000 in
    let e : 2000 + k ≡ y = omega arith in
    let f : suc y - 2000 ≡ suc k = omega arith in
    ap start_of f ∙ year_by k
    ∙ ap (λ (n : ℕ). year_start y + cond (leap_year n) 366 365) e

-- a later year begins no earlier than this one ends
pub year_order : (y k : ℕ) → 2000 ≤ y → year_start (suc y) ≤ year_start (suc y + k)
year_order y k h = no_less year_start (suc y) k (λ (j : ℕ) (i : j < k). omega (arith, year_next (suc y + j) (omega arith)))

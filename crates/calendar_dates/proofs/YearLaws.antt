-- The year of a day: the quotient by the mean length of a year, 146097 days in 400 years, is it or the year after.
use mathlib.Core.Path.{◌≡◌, refl, ap}
use mathlib.Core.Logic.{◌⊎◌, ⊎_elim}
use Prim.Native.Nat.{ℕ, suc, ◌+◌, ◌-◌, ◌*◌, ◌/◌, ◌≤◌, ◌<◌}
use native.Mathlib.Nat.{eq-zero-or-pos}
use native.Mathlib.Omega.{arith}
use Rattle.calendar_rules.specs.Counting.{year_start}
use Rattle.calendar_dates.specs.Parts.{InYear}

first : year_start 2000 ≡ 0
unfolding year_start
first = refl

-- a year's start lies near so many mean years
pub start_low : (y : ℕ) → 2000 ≤ y → 146097 * (y - 2000) ≤ 400 * year_start y + 396
unfolding year_start
start_low y h = omega arith

pub start_high : (y : ℕ) → 2000 ≤ y → 400 * year_start y ≤ 146097 * (y - 2000) + 699
unfolding year_start
start_high y h = omega arith

module _ (day : ℕ) (l : day ≤ 99999) where
  abbrev quotient : ℕ
  quotient = (400 * day + 396) / 146097

  -- a year that begins by this day is one of the calendar's
  early : (y : ℕ) → 2000 ≤ y → year_start y ≤ day → y ≤ 2273
  early y h b = omega (arith, start_low y h)

  pub year_itself : year_start (2000 + quotient) ≤ day → InYear day (2000 + quotient)
  year_itself h =
      record {
        from = omega arith;
        up_to = early (2000 + quotient) (omega arith) h;
        begins = h;
        ends = omega (arith, start_low (suc (2000 + quotient)) (omega arith));
      }

  pub year_before : day < year_start (2000 + quotient) → InYear day (2000 + quotient - 1)
  year_before h =
      let some : 1 ≤ quotient = later (eq-zero-or-pos quotient) in
      let y = 2000 + quotient - 1 in
      let b : year_start y ≤ day = omega (arith, start_high y (omega arith)) in
      let e : suc y ≡ 2000 + quotient = omega arith in
      record { from = omega arith; up_to = early y (omega arith) b; begins = b; ends = omega (arith, ap year_start e) }
    where
      later : (quotient ≡ 0) ⊎ (0 < quotient) → 1 ≤ quotient
      later = ⊎_elim (λ (z : quotient ≡ 0). absurd (omega (arith, ap (λ (q : ℕ). year_start (2000 + q)) z, first))) (λ (p : 0 < quotient). p)

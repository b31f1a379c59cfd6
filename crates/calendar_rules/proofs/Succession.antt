-- Succession and arithmetic agree: a valid date's number goes up by one with the next date, and later dates have larger numbers.
use mathlib.Core.Path.{◌≡◌, refl, ap, ◌∙◌}
use mathlib.Core.Bool.{Bool, cond}
use Prim.Native.Nat.{ℕ, zero, suc, ◌+◌, ◌-◌, ◌≤◌, ◌<◌}
use native.Mathlib.Omega.{arith}
use lib.Dec.{ltb}
use borrow.Author.Tests.{ltb-true, ltb-false}
use Rattle.whole.proofs.ListLaws.{by_test}
use Rattle.calendar_rules.specs.Dates.{date, leap_year, month_length, next_date, date_on}
use Rattle.calendar_rules.specs.Counting.{year_start, month_start, day_number}
use Rattle.calendar_rules.specs.Laws.{Valid, written}
use Rattle.calendar_rules.specs.declared.Date.{Date}
use Rattle.calendar_rules.proofs.Months.{Month, month_is, january, year_end, month_order}
use Rattle.calendar_rules.proofs.Years.{year_next, year_order}

-- ---- a valid date

-- its month
month_of : (d : Date) → Valid d → Month (leap_year d.year) d.month
month_of d v = month_is (leap_year d.year) d.month v.month.0 v.month.1

-- its day is at most 31
pub small_day : (d : Date) → Valid d → d.day ≤ 31
unfolding month_length
small_day d v = omega (arith, (month_of d v).most, v.day.1)

-- its number lies below the next month's first
in_month : (d : Date) → Valid d → day_number d < year_start d.year + month_start (leap_year d.year) (suc d.month)
unfolding month_length day_number
in_month d v = omega (arith, (month_of d v).next, v.day)

-- and below the next year's first
in_year : (d : Date) → Valid d → day_number d < year_start (suc d.year)
in_year d v =
    let l = leap_year d.year in
    let m = d.month in
    let e : suc m + (12 - m) ≡ 13 = omega (arith, v.month) in
    omega (arith, in_month d v, month_order l m (12 - m) v.month.0 (omega (arith, v.month)), ap (month_start l) e, year_end l, year_next d.year v.year)

-- ---- the next date

pub record Follows (d e : Date) : Type 0 where
  pub valid : Valid e
  pub number : day_number e ≡ suc (day_number d)

module _ (d : Date) (v : Valid d) where
  -- the next day of the month
  within_month : d.day < month_length d.year d.month → Follows d (date d.year d.month (suc d.day))
  unfolding day_number
  within_month l = record { valid = record { year = v.year; month = v.month; day = (omega arith, l) }; number = omega (arith, v.day) }

  -- the first of the next month
  next_month : month_length d.year d.month ≤ d.day → d.month < 12 → Follows d (date d.year (suc d.month) 1)
  unfolding day_number month_length
  next_month l h =
      let then = month_is (leap_year d.year) (suc d.month) (omega arith) (omega arith) in
      record {
        valid = record { year = v.year; month = (omega arith, omega arith); day = (omega arith, omega (arith, then.least)) };
        number = omega (arith, (month_of d v).next, v.day);
      }

  -- 1 January of the next year
  next_year : month_length d.year d.month ≤ d.day → 12 ≤ d.month → Follows d (date (suc d.year) 1 1)
  unfolding day_number month_length
  next_year l h =
      let y = d.year in
      let m = month_is (leap_year (suc y)) 1 (omega arith) (omega arith) in
      let e : suc d.month ≡ 13 = omega (arith, v.month) in
      record {
        valid = record { year = omega (arith, v.year); month = (omega arith, omega arith); day = (omega arith, omega (arith, m.least)) };
        number = omega (arith, (month_of d v).next, v.day, ap (month_start (leap_year y)) e, year_end (leap_year y), year_next y v.year, january (leap_year (suc y)));
      }

  pub follows : Follows d (next_date d)
  unfolding next_date
  follows =
      by_test (ltb d.day (month_length d.year d.month))
      (λ (t : Bool). Follows d (cond t (date d.year d.month (suc d.day)) (cond (ltb d.month 12) (date d.year (suc d.month) 1) (date (suc d.year) 1 1))))
      (λ e. within_month (ltb-true _ _ e))
      (λ e.
      by_test (ltb d.month 12) (λ (t : Bool). Follows d (cond t (date d.year (suc d.month) 1) (date (suc d.year) 1 1)))
      (λ f. next_month (ltb-false _ _ e) (ltb-true _ _ f))
      (λ f. next_year (ltb-false _ _ e) (ltb-false _ _ f)))

-- ---- the date of a day is valid, and its number is the day

pub record Dated (day : ℕ) : Type 0 where
  pub valid : Valid (date_on day)
  pub number : day_number (date_on day) ≡ day

first_valid : Valid (date 2000 1 1)
unfolding month_length
first_valid = record { year = omega arith; month = (omega arith, omega arith); day = (omega arith, omega arith) }

first_number_lem : day_number (date 2000 1 1) ≡ 0
unfolding day_number year_start month_start
first_number_lem = refl

pub dated : (day : ℕ) → Dated day
unfolding date_on
dated zero = record { valid = first_valid; number = first_number_lem }
dated (suc day) =
    let s = follows (date_on day) (dated day).valid in
    record { valid = s.valid; number = s.number ∙ ap suc (dated day).number }

-- ---- later dates have larger numbers

module _ (d e : Date) (v : Valid d) (w : Valid e) (l : written d < written e) where
  -- of an earlier year
  by_year : d.year < e.year → day_number d < day_number e
  unfolding day_number
  by_year h =
      let s : suc d.year + (e.year - suc d.year) ≡ e.year = omega arith in
      omega (arith, in_year d v, year_order d.year (e.year - suc d.year) v.year, ap year_start s)

  -- of the same year and an earlier month
  by_month : d.year ≡ e.year → d.month < e.month → day_number d < day_number e
  unfolding day_number
  by_month y h =
      let leap = leap_year e.year in
      let s : suc d.month + (e.month - suc d.month) ≡ e.month = omega arith in
      omega (
        arith,
        in_month d v,
        ap year_start y,
        ap (λ (n : ℕ). month_start (leap_year n) (suc d.month)) y,
        month_order leap d.month (e.month - suc d.month) v.month.0 (omega (arith, w.month)),
        ap (month_start leap) s,
      )

  -- of the same month and an earlier day
  by_day : d.year ≡ e.year → d.month ≡ e.month → day_number d < day_number e
  unfolding day_number
  by_day y m =
      omega (arith, ap year_start y, ap (λ (n : ℕ). month_start (leap_year n) d.month) y, ap (month_start (leap_year e.year)) m, v.day.0, w.day.0)

  pub later_larger : day_number d < day_number e
  later_larger =
      grind (arith, by_year, by_month, by_day, v.month, w.month, small_day d v, small_day e w)

-- dates that are written alike are the same
pub same_written : (d e : Date) → Valid d → Valid e → written d ≡ written e → d ≡ e
same_written d e v w s =
    let y : d.year ≡ e.year = omega (arith, v.month, w.month, small_day d v, small_day e w) in
    let m : d.month ≡ e.month = omega (arith, v.month, w.month, small_day d v, small_day e w) in
    let k : d.day ≡ e.day = omega arith in
    λ i. record { year = y i; month = m i; day = k i }

-- so a number has one date only
pub one_date : (d e : Date) → Valid d → Valid e → day_number d ≡ day_number e → d ≡ e
one_date d e v w n =
    same_written d e v w (grind (arith, later_larger d e v w, later_larger e d w v))

-- and every valid date is the date of its number
pub date_is : (d : Date) → Valid d → date_on (day_number d) ≡ d
date_is d v =
    let s = dated (day_number d) in
    one_date (date_on (day_number d)) d s.valid v s.number

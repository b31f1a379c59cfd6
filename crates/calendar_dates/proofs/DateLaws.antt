-- A day taken apart into year, month and day is its date.
use mathlib.Core.Path.{◌≡◌, ap}
use mathlib.Core.Bool.{Bool}
use mathlib.Core.List.{◌∷◌}
use Prim.Native.Nat.{ℕ, ◌+◌, ◌-◌, ◌<◌}
use native.Mathlib.Omega.{arith}
use lib.ListN.{get_or}
use Rattle.calendar_rules.specs.Dates.{date, leap_year, month_lengths, month_length, date_on}
use Rattle.calendar_rules.specs.Counting.{year_start, month_start, day_number}
use Rattle.calendar_rules.specs.Laws.{Valid}
use Rattle.calendar_rules.proofs.Months.{month_is, year_end}
use Rattle.calendar_rules.proofs.Years.{year_next}
use Rattle.calendar_rules.proofs.Succession.{dated, one_date}
use Rattle.calendar_dates.specs.Parts.{InYear, InMonth}

module _ (day year : ℕ) (y : InYear day year) (leap : Bool) (start : ℕ) (l : leap ≡ leap_year year) (s : start ≡ year_start year) where
  -- what is left of it lies within the year
  pub rest_within : day - start < month_start leap 13
  rest_within = rw (l, s) (omega (arith, y, year_next year y.from, year_end (leap_year year)))

  pub taken_apart : (month first : ℕ) → InMonth leap (day - start) month → first ≡ month_start leap month → date year month (day - start - first + 1) ≡ date_on day
  unfolding day_number month_length
  taken_apart month first m f =
      let k = month_is leap month m.from m.up_to in
      let d = date year month (day - start - first + 1) in
      let length = ap (λ (b : Bool). get_or (0 ∷ month_lengths b) month 0) l in
      let v : Valid d = record { year = y.from; month = (m.from, m.up_to); day = (omega arith, omega (arith, k, m)) } in
      one_date d (date_on day) v (dated day).valid (omega (arith, y, m, (dated day).number, ap (λ (b : Bool). month_start b month) l))

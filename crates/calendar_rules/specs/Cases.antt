-- Worked cases of the calendar: dates at its edges, and working days beside weekends, holidays and the last day.
use Rattle.std.specs.Prelude.{ℕ, List, [], ◌∷◌, ℤ, pos, negsuc, None, Some}
use Rattle.whole.specs.Says.{Says}
use Rattle.calendar_rules.specs.Dates.{date}
use Rattle.calendar_rules.specs.Calls.{working_day, results_due, day_says}
use Rattle.calendar_rules.specs.declared.Date.{Date}

-- what is answered: a day, or a refusal's number
abbrev pub finds : ℕ → Says
finds day = record { number = None; values = pos day ∷ [] }

abbrev pub refuses : ℕ → Says
refuses number = record { number = Some number; values = [] }

-- ---- dates

pub record DateCase : Type 0 where
  pub asked : Date
  pub says : Says

abbrev pub on : ℕ → ℕ → ℕ → Says → DateCase
on year month day says = record { asked = date year month day; says = says }

-- 2000 is a leap year, 2100 and 2200 are not; the first date and the last
unfoldable pub dates : List DateCase
dates =
    on 2000 1 1 (finds 0)
    ∷ on 2000 2 29 (finds 59)
    ∷ on 2000 3 1 (finds 60)
    ∷ on 2001 2 29 (refuses 27)
    ∷ on 2004 2 29 (finds 1520)
    ∷ on 2100 2 28 (finds 36583)
    ∷ on 2100 2 29 (refuses 27)
    ∷ on 2100 3 1 (finds 36584)
    ∷ on 2200 2 29 (refuses 27)
    ∷ on 2273 10 15 (finds 99999)
    ∷ on 2273 10 16 (refuses 27)
    ∷ on 2274 1 1 (refuses 27)
    ∷ on 1999 12 31 (refuses 27)
    ∷ on 2026 0 1 (refuses 27)
    ∷ on 2026 13 1 (refuses 27)
    ∷ on 2026 1 0 (refuses 27)
    ∷ on 2026 1 32 (refuses 27)
    ∷ on 2026 4 31 (refuses 27)
    ∷ []

-- ---- working days: day 0 is a Saturday, day 2 a Monday, day 6 a Friday

pub record Case : Type 0 where
  pub gives : Says
  pub says : Says

abbrev pub after : ℕ → ℕ → List ℤ → Says → Case
after day count holidays says = record { gives = day_says (working_day day count holidays); says = says }

abbrev pub due : ℕ → List ℤ → Says → Case
due day holidays says = record { gives = day_says (results_due day holidays); says = says }

-- counted from a day on
unfoldable pub working : List Case
working =
    -- a count of 0 gives the day itself, a Saturday, a Sunday or a holiday
    after 0 0 [] (finds 0)
    ∷ after 1 0 [] (finds 1)
    ∷ after 3 0 (pos 3 ∷ []) (finds 3)
    ∷ after 0 0 (pos 0 ∷ pos 99999 ∷ []) (finds 0)
    -- the starting day is never counted, working or not
    ∷ after 0 1 [] (finds 2)
    ∷ after 2 1 [] (finds 3)
    ∷ after 6 1 [] (finds 9)
    ∷ after 2 1 (pos 2 ∷ []) (finds 3)
    -- a holiday is passed over; on a Saturday it changes nothing
    ∷ after 2 1 (pos 3 ∷ []) (finds 4)
    ∷ after 6 1 (pos 7 ∷ []) (finds 9)
    ∷ after 5 1 (pos 6 ∷ pos 9 ∷ pos 10 ∷ []) (finds 11)
    ∷ after 5 6 (pos 9 ∷ []) (finds 16)
    ∷ []

-- the day is tried before the holidays, and these before the day found, over the whole list, also for a count of 0
unfoldable pub refusals : List Case
refusals =
    after 99999 1 (pos 5 ∷ pos 5 ∷ []) (refuses 28)
    ∷ after 100000 1 (pos 5 ∷ pos 5 ∷ []) (refuses 27)
    ∷ after 0 0 (pos 5 ∷ pos 4 ∷ []) (refuses 28)
    ∷ after 0 0 (negsuc 0 ∷ []) (refuses 28)
    ∷ after 0 0 (pos 5 ∷ pos 100000 ∷ []) (refuses 28)
    ∷ []

-- due 2 working days after retrieval: from a Thursday, a Friday, and a Friday before a holiday
unfoldable pub dues : List Case
dues = due 5 [] (finds 9) ∷ due 6 [] (finds 10) ∷ due 6 (pos 9 ∷ []) (finds 11) ∷ []

-- the last day is a holiday: there is no working day after the one before it
abbrev pub last_holiday : Case
last_holiday = after 99998 1 (pos 99999 ∷ []) (refuses 27)

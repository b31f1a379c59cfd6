-- docs/SPECIFICATION.md, "Refused calls": the numbers of a chart call's refusals, and which is answered by a call that charts one set (chart, week, pairs, buffer).
use Rattle.std.specs.Prelude.{ℕ, ◌%◌, Bool, not, ◌||◌, List, [], ◌∷◌, ℤ, pos, length, eqb, leb, ltb, Result, Ok, Err}
use Rattle.std.specs.Int.Signed.{lt_z}
use Rattle.whole.specs.Lists.{any, Check, first_applying}
use Rattle.chart_rules.specs.Charts.{sound}
use Rattle.chart_rules.specs.declared.Chart.{Chart}
use Rattle.chart_rules.specs.declared.Refusal.{Refusal}
use Rattle.chart_rules.specs.declared.Refusal.TheVariants.{UnsoundChart, UnknownRow, BadWeek, BadSize, BadResult, ShortBuffer}

-- the refusal's number
abbrev pub number_of : Refusal → ℕ
number_of UnsoundChart = 0
number_of UnknownRow = 1
number_of BadWeek = 19
number_of BadSize = 20
number_of BadResult = 21
number_of ShortBuffer = 22

-- the lowest applying number is answered: the first that applies of checks in the order of their numbers
abbrev pub first_refusal : List (Check Refusal) → Result (Unit {0}) Refusal
first_refusal = first_applying (Ok tt) Err

-- 19: the week isn't above the chart's last week or is above 9999
unfoldable pub bad_week : ℕ → ℕ → Bool
bad_week last week = leb week last || ltb 9999 week

-- 20: a set has no pair, more than five, or an odd count of numbers
unfoldable pub bad_size : ℕ → Bool
bad_size n = eqb n 0 || ltb 10 n || eqb (n % 2) 1

-- a result lies outside 0..10000
unfoldable pub outside : ℤ → Bool
outside z = lt_z z (pos 0) || lt_z (pos 10000) z

-- 21: a result lies outside 0..10000
unfoldable pub bad_result : List ℤ → Bool
bad_result numbers = any outside numbers

-- 22: an output buffer for a line is shorter than 40 bytes
abbrev pub short_buffer : ℕ → Bool
short_buffer room = ltb room 40

-- the call's checks, in the order of their numbers
abbrev pub checks_of : Chart → ℕ → List ℤ → ℕ → List (Check Refusal)
checks_of c week numbers room =
    record { applies = not (sound c); answer = UnsoundChart }
    ∷ record { applies = bad_week c.week week; answer = BadWeek }
    ∷ record { applies = bad_size (length numbers); answer = BadSize }
    ∷ record { applies = bad_result numbers; answer = BadResult }
    ∷ record { applies = short_buffer room; answer = ShortBuffer }
    ∷ []

-- the call's refusal, where the buffer has this many bytes
unfoldable pub refusal_of : Chart → ℕ → List ℤ → ℕ → Result (Unit {0}) Refusal
refusal_of c week numbers room = first_refusal (checks_of c week numbers room)

-- docs/SPECIFICATION.md, "A line between sheets": the tests due of a set, the adjustment, and when a sheet met every average due.
use Rattle.std.specs.Prelude.{ℕ, ◌+◌, ◌*◌, Bool, true, false, not, ◌&&◌, ◌||◌, cond, List, [], ◌∷◌, ◌++◌, leb, ltb, eqb, ℤ, pos, neg_ℤ, nat_abs, ◌+ℤ◌, ◌-ℤ◌}
use Rattle.std.specs.Prelude.{Option, None, Some}
use Rattle.whole.specs.Lists.{any, above, below}
use Rattle.whole.specs.Rounding.{rounded_away}
use Rattle.station_rules.specs.Lists.{keep}
use Rattle.station_rules.specs.declared.PastSet.{PastSet}
use Rattle.station_rules.specs.declared.Verdict.{Verdict}
use Rattle.station_rules.specs.declared.Verdict.TheVariants.{Met, Adjusted, Shut}
use Rattle.station_rules.specs.declared.Test.{Test}
use Rattle.station_rules.specs.declared.Set.{Set}
use Rattle.station_rules.specs.declared.Limits.{Limits}

-- a line's phase: new, open, or check due, after an adjustment or after shutting
pub data LinePhase : Type 0 where
  new_line : LinePhase
  open_line : LinePhase
  adjusted_line : LinePhase
  shut_line : LinePhase

-- what an outcome says of it: new, open, check due
pub data Phase : Type 0 where
  new_phase : Phase
  open_phase : Phase
  check_due_phase : Phase

-- check due for an adjusted line and for a shut one
abbrev pub phase_of : LinePhase → Phase
phase_of new_line = new_phase
phase_of open_line = open_phase
phase_of adjusted_line = check_due_phase
phase_of shut_line = check_due_phase

-- what the rules judge a line by: its intercept, its phase, its newest sets, zero ones among them, and its newest sets that aren't zero, both newest first
pub record Values : Type 0 where
  pub intercept : ℤ
  pub phase : LinePhase
  pub newest : List PastSet
  pub nonzero : List PastSet

abbrev pub past_set : ℕ → Set → PastSet
past_set day set = record { day = day; sum = set.sum; count = set.count }

-- a set that isn't zero: its S is not 0
abbrev pub is_nonzero : PastSet → Bool
is_nonzero p = not (eqb (nat_abs p.sum) 0)

-- the sets that aren't zero
abbrev pub nonzero_of : List PastSet → List PastSet
nonzero_of past = keep is_nonzero past

-- past sets more than 14 days old are ignored
unfoldable pub valid_on : ℕ → List PastSet → List PastSet
valid_on day past = keep (λ p. leb day (p.day + 14)) past

-- a test against a limit is exceeded: |S| is above the limit times N
abbrev pub exceeded : Test → Bool
exceeded t = ltb (t.limit * t.count) (nat_abs t.sum)

abbrev pub test_of : ℕ → Set → Test
test_of limit set = record { limit = limit; sum = set.sum; count = set.count }

-- sets together: their summed S and N
abbrev pub plus : Set → PastSet → Set
plus set p = record { sum = set.sum +ℤ p.sum; count = set.count + p.count }

-- all five S above zero or all below
unfoldable pub same_side : ℤ → ℤ → ℤ → ℤ → ℤ → Bool
same_side a b c d e = above a && above b && above c && above d && above e || below a && below b && below c && below d && below e

-- the one set; with one newest set valid the two together; with two the three
unfoldable pub newest_tests : Limits → Set → List PastSet → List Test
newest_tests limits set [] = test_of limits.one set ∷ []
newest_tests limits set (p ∷ []) = test_of limits.one set ∷ test_of limits.two (plus set p) ∷ []
newest_tests limits set (p ∷ q ∷ older) = test_of limits.one set ∷ test_of limits.two (plus set p) ∷ test_of limits.three (plus (plus set p) q) ∷ []

-- with four non-zero sets valid and all five on one side, which a present set with S = 0 never is, the five
unfoldable pub five_test : Limits → Set → List PastSet → List Test
five_test limits set [] = []
five_test limits set (p ∷ []) = []
five_test limits set (p ∷ q ∷ []) = []
five_test limits set (p ∷ q ∷ r ∷ []) = []
five_test limits set (p ∷ q ∷ r ∷ s ∷ older) =
    cond (same_side set.sum p.sum q.sum r.sum s.sum) (test_of limits.five (plus (plus (plus (plus set p) q) r) s) ∷ []) []

-- phase new or open: by the newest sets, then by the non-zero ones
abbrev pub averages_due : Limits → Set → (newest nonzero : List PastSet) → List Test
averages_due limits set newest nonzero = newest_tests limits set newest ++ five_test limits set nonzero

-- the tests due by the phase: the averages, or the check
unfoldable pub tests_by : Limits → LinePhase → Set → (newest nonzero : List PastSet) → List Test
tests_by limits new_line set newest nonzero = averages_due limits set newest nonzero
tests_by limits open_line set newest nonzero = averages_due limits set newest nonzero
tests_by limits adjusted_line set newest nonzero = test_of limits.check set ∷ []
tests_by limits shut_line set newest nonzero = test_of limits.check set ∷ []

-- the tests due of a set on a day
abbrev pub tests_due : Limits → Values → ℕ → Set → List Test
tests_due limits v day set = tests_by limits v.phase set (valid_on day v.newest) (valid_on day v.nonzero)

-- the first test exceeded
abbrev pub first_exceeded : List Test → Option Test
first_exceeded [] = None
first_exceeded (t ∷ ts) = cond (exceeded t) (Some t) (first_exceeded ts)

-- a test's average, rounded to a whole hundredth with halves away from zero
abbrev pub rounded_average : Test → ℤ
rounded_average t = rounded_away t.sum t.count

-- an intercept of −1000..1000
abbrev pub sound_intercept : ℤ → Bool
sound_intercept z = leb (nat_abs z) 1000

-- adjust by an average: subtract it from the intercept; where that would leave −1000..1000 the line is shut instead
abbrev pub adjust_by : (intercept average : ℤ) → Verdict
adjust_by intercept average = cond (sound_intercept (intercept -ℤ average)) (Adjusted (neg_ℤ average)) Shut

-- the first test exceeded adjusts by its average; where none is, the set met every average due
abbrev pub judged : ℤ → Option Test → Verdict
judged intercept None = Met
judged intercept (Some t) = adjust_by intercept (rounded_average t)

-- what a set does to its line: N = 0 shuts it, else the tests due decide
unfoldable pub verdict_of : Limits → Values → ℕ → Set → Verdict
verdict_of limits v day set = cond (eqb set.count 0) Shut (judged v.intercept (first_exceeded (tests_due limits v day set)))

-- the intercept change: 0 where the set met, and where the line is shut
abbrev pub change_of : Verdict → ℤ
change_of Met = pos 0
change_of (Adjusted change) = change
change_of Shut = pos 0

-- the phase after a sheet: open where it met every average due, else adjusted or shut by it
abbrev pub phase_after : Verdict → LinePhase
phase_after Met = open_line
phase_after (Adjusted change) = adjusted_line
phase_after Shut = shut_line

-- whether the set met
abbrev pub is_met : Verdict → Bool
is_met Met = true
is_met (Adjusted change) = false
is_met Shut = false

-- a sheet met every average due if N is above 0 and no test made of it, or the check, was exceeded
unfoldable pub met_every : Limits → Values → ℕ → Set → Bool
met_every limits v day set = ltb 0 set.count && not (any exceeded (tests_due limits v day set))

-- docs/SPECIFICATION.md, "The reference sheet": rules 1 to 4, and numbers 4 to 7, for a line's limits and intercept.
use Rattle.std.specs.Prelude.{ℕ, ◌*◌, Bool, false, not, ◌&&◌, ◌||◌, cond, List, [], ◌∷◌, map, length, ltb, eqb, ℤ, pos, negsuc, nat_abs, ◌+ℤ◌, ◌-ℤ◌, ◌*ℤ◌}
use Rattle.std.specs.Int.Signed.{le_z, lt_z}
use Rattle.whole.specs.Lists.{differ, any, total, largest, smallest, Check}
use Rattle.station_rules.specs.Lists.{keep}
use Rattle.station_rules.specs.declared.Sample.{Sample}
use Rattle.station_rules.specs.declared.Set.{Set}
use Rattle.station_rules.specs.declared.Limits.{Limits}

-- the samples of a sheet's numbers
unfoldable pub samples_of : List ℤ → List Sample
samples_of [] = []
samples_of (a ∷ []) = []
samples_of (a ∷ b ∷ []) = []
samples_of (a ∷ b ∷ c ∷ []) = []
samples_of (a ∷ b ∷ c ∷ d ∷ []) = []
samples_of (a ∷ b ∷ c ∷ d ∷ e ∷ []) = []
samples_of (a ∷ b ∷ c ∷ d ∷ e ∷ f ∷ rest) =
    record { baseline = a; first = b; second = c; third = d; again_first = e; again_second = f } ∷ samples_of rest

-- the numbers of a sheet with these samples, in this order
abbrev pub numbers_of : List Sample → List ℤ
numbers_of [] = []
numbers_of (s ∷ ss) =
    s.baseline ∷ s.first ∷ s.second ∷ s.third ∷ s.again_first ∷ s.again_second ∷ numbers_of ss

-- a number of 0..10000
abbrev pub is_result : ℤ → Bool
is_result z = le_z (pos 0) z && le_z z (pos 10000)

-- −1 stands for "not measured"
abbrev pub absent : ℤ → Bool
absent (pos n) = false
absent (negsuc n) = eqb n 0

-- number 5: a number outside 0..10000 (−1 where allowed), or half an again pair is −1
unfoldable pub wrong_number : Sample → Bool
wrong_number s =
    not (is_result s.baseline && is_result s.first && is_result s.second
    && (is_result s.third || absent s.third)
    && (is_result s.again_first || absent s.again_first)
    && (is_result s.again_second || absent s.again_second))
    || differ (absent s.again_first) (absent s.again_second)

-- ---- rule 1

-- a pair of results
pub record Pair : Type 0 where
  pub one : ℤ
  pub other : ℤ

abbrev pub pair : ℤ → ℤ → Pair
pair a b = record { one = a; other = b }

-- how far a pair's results lie apart, and their sum
unfoldable pub spread : Pair → ℕ
spread p = nat_abs (p.one -ℤ p.other)

abbrev pub pair_sum : Pair → ℤ
pair_sum p = p.one +ℤ p.other

-- of two pairs the closer; of equals the earlier named
unfoldable pub closer : Pair → Pair → Pair
closer p q = cond (ltb (spread q) (spread p)) q p

-- the closest of first-second, first-third, second-third; among equals the earlier named
unfoldable pub closest_pair : Sample → Pair
closest_pair s = closer (closer (pair s.first s.second) (pair s.first s.third)) (pair s.second s.third)

-- ---- rule 2

-- a pair's sum plus twice the intercept minus twice the baseline
abbrev pub deviation : (intercept baseline sum : ℤ) → ℤ
deviation intercept baseline sum = sum +ℤ pos 2 *ℤ intercept -ℤ pos 2 *ℤ baseline

module _ (limits : Limits) where
  -- rule 1: first and second differ by more than the pair limit
  unfoldable pub third_due : Sample → Bool
  third_due s = ltb limits.pair (spread (pair s.first s.second))

  -- number 6: a third is missing where due or present where not
  abbrev pub wrong_third : Sample → Bool
  wrong_third s = differ (third_due s) (not (absent s.third))

  -- rule 1: the pair used
  unfoldable pub used_pair : Sample → Pair
  used_pair s = cond (third_due s) (closest_pair s) (pair s.first s.second)

  -- rule 2: the magnitude is above twice the sample limit
  abbrev pub deviates : ℤ → Bool
  deviates d = ltb (2 * limits.sample) (nat_abs d)

module _ (limits : Limits) (intercept : ℤ) where
  -- rule 2: a sample's deviation
  unfoldable pub first_deviation : Sample → ℤ
  first_deviation s = deviation intercept s.baseline (pair_sum (used_pair limits s))

  -- rule 3: some sample deviates and the largest minus the smallest deviation is above twice the range limit
  unfoldable pub again_round : List Sample → Bool
  again_round ss =
      any (deviates limits) (map first_deviation ss)
      && lt_z (pos (2 * limits.range)) (largest (map first_deviation ss) -ℤ smallest (map first_deviation ss))

  -- rule 3: then an again pair is due for each deviating sample
  abbrev pub again_due : Bool → Sample → Bool
  again_due round s = round && deviates limits (first_deviation s)

  -- number 7: an again pair is missing where due or present where not
  abbrev pub wrong_again : Bool → Sample → Bool
  wrong_again round s = differ (again_due round s) (not (absent s.again_first))

  -- rule 3: worked out anew from the again pair where one is due
  unfoldable pub final_deviation : Bool → Sample → ℤ
  final_deviation round s =
      cond (again_due round s) (deviation intercept s.baseline (pair_sum (pair s.again_first s.again_second))) (first_deviation s)

  -- rule 3: a sample still deviating is dropped
  abbrev pub kept : Bool → Sample → Bool
  kept round s = not (again_due round s && deviates limits (final_deviation round s))

  unfoldable pub kept_samples : List Sample → List Sample
  kept_samples ss = keep (kept (again_round ss)) ss

  -- rule 4: S is the sum of the kept deviations and N is twice the number kept
  unfoldable pub set_of : List ℤ → Set
  set_of numbers =
      let ss = samples_of numbers in
      record { sum = total (map (final_deviation (again_round ss)) (kept_samples ss)); count = 2 * length (kept_samples ss) }

  -- numbers 4 to 7, for a sheet of n samples
  unfoldable pub sheet_checks : ℕ → List ℤ → List (Check ℕ)
  sheet_checks n numbers =
      let ss = samples_of numbers in
      record { answer = 4; applies = not (eqb (length numbers) (6 * n)) }
      ∷ record { answer = 5; applies = any wrong_number ss }
      ∷ record { answer = 6; applies = any (wrong_third limits) ss }
      ∷ record { answer = 7; applies = any (wrong_again (again_round ss)) ss }
      ∷ []

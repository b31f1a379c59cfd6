-- How far a deviation lies from 0, of a sample with no wrong number.
use mathlib.Core.Bool.{true, cond}
use native.Mathlib.Omega.{arith}
use lib.IntN.{ℤ}
use Rattle.std.proofs.lemmas.Int.{ints}
use Rattle.whole.specs.Bounds.{Within}
use Rattle.whole.proofs.ListLaws.{by_test}
use Rattle.station_rules.specs.Sheets.{Pair, pair, pair_sum, closest_pair, third_due, used_pair, deviation, first_deviation, again_due, final_deviation}
use Rattle.station_rules.specs.declared.Sample.{Sample}
use Rattle.station_rules.specs.declared.Limits.{Limits}
use Rattle.sheet_numbers.specs.Samples.{Measured}
use Rattle.sheet_pairs.proofs.PairLaws.{In, closest_in}

used_in : (limits : Limits) (s : Sample) → Measured s → In (used_pair limits s)
unfolding used_pair
used_in limits s m =
    by_test (third_due limits s) (λ t. In (cond t (closest_pair s) (pair s.first s.second))) (λ e. closest_in s m) (λ e. (m.first, m.second))

deviation_within : (i b : ℤ) (p : Pair) → Within 1000 1000 i → Within 1 10000 b → In p → Within 25000 25000 (deviation i b (pair_sum p))
deviation_within i b p v w h = record { over = omega (arith, ints); under = omega (arith, ints) }

pub first_within : (limits : Limits) (intercept : ℤ) (s : Sample) → Within 1000 1000 intercept → Measured s → Within 25000 25000 (first_deviation limits intercept s)
unfolding first_deviation
first_within limits intercept s w m = deviation_within intercept s.baseline (used_pair limits s) w m.baseline (used_in limits s m)

pub final_within : (limits : Limits) (intercept : ℤ) (s : Sample) → Within 1000 1000 intercept → Measured s → Within 25000 25000 (final_deviation limits intercept true s)
unfolding final_deviation
final_within limits intercept s w m =
    let again = pair s.again_first s.again_second in
    by_test (again_due limits intercept true s) (λ t. Within 25000 25000 (cond t (deviation intercept s.baseline (pair_sum again)) (first_deviation limits intercept s)))
    (λ e. deviation_within intercept s.baseline again w m.baseline (m.again_first, m.again_second)) (λ e. first_within limits intercept s w m)

-- The set of an accepted sheet: N is even and at most twice the samples, and |S| is at most 11000 times N.
use mathlib.Core.Path.{◌≡◌}
use mathlib.Core.Bool.{Bool, true, false, not, ◌||◌}
use mathlib.Core.List.{List, [], ◌∷◌, map}
use Rattle.std.specs.Prelude.{None}
use Prim.Native.Nat.{ℕ, ◌*◌, ◌%◌, ◌≤◌}
use native.Mathlib.Omega.{arith}
use native.Mathlib.Nat.{mul-mod_right}
use lib.Dec.{T, ltb, eqb}
use lib.ListN.{length}
use lib.IntN.{ℤ, pos, nat_abs}
use lib.Ieee.Bits.{is_true}
use lib.Signed.{le_z}
use Rattle.std.specs.Bool.{passes}
use Rattle.std.proofs.lemmas.Bool.{and_parts, or_parts, cond_both, eqb-true, not-false}
use Rattle.std.proofs.lemmas.Int.{ints}
use Rattle.std.specs.List.{All}
use Rattle.std.proofs.lemmas.List.Elements.{All-nil, All-cons, All-head, All-tail, All-filter}
use Rattle.std.proofs.lemmas.List.Sums.{length-filter, count_by-le-length}
use Rattle.whole.specs.Bounds.{Within}
use Rattle.whole.specs.Lists.{any, total, differ}
use Rattle.station_rules.specs.Lists.{keep}
use Rattle.station_rules.specs.Refusals.{first_number}
use Rattle.station_rules.specs.Sheets.{samples_of, is_result, absent, wrong_number, wrong_third, wrong_again, Pair, pair, spread, pair_sum, closer, closest_pair, third_due, used_pair, deviation, first_deviation, final_deviation, again_round, again_due, kept, kept_samples, set_of, sheet_checks}
use Rattle.station_rules.proofs.Checks.{none_applies}
use Rattle.station_rules.specs.declared.Set.{Set}
use Rattle.station_rules.specs.declared.Sample.{Sample}
use Rattle.station_rules.specs.declared.Limits.{Limits}

in_range_lem : (z : ℤ) → T (is_result z) → Within 0 10000 z
in_range_lem z t =
    let p = and_parts (le_z (pos 0) z) (le_z z (pos 10000)) (is_true (is_result z) t) in
    record { over = omega (arith, ints, p.0); under = omega (arith, ints, p.1) }

-- in range or absent, and not absent
present : (z : ℤ) → T (is_result z || absent z) → absent z ≡ false → T (is_result z)
present z t n = let e = is_true (is_result z || absent z) t in passes (is_result z) (grind arith)

deviation_bound : (i base sum : ℤ) → nat_abs i ≤ 1000 → Within 0 10000 base → Within 0 20000 sum → nat_abs (deviation i base sum) ≤ 22000
deviation_bound i base sum hi hb hs = omega (arith, ints, hi, hb.over, hb.under, hs.over, hs.under)

-- what number 5 leaves of a sample
pub record InRanges (s : Sample) : Type 0 where
  pub baseline : T (is_result s.baseline)
  pub first : T (is_result s.first)
  pub second : T (is_result s.second)
  pub third : T (is_result s.third || absent s.third)
  pub again_first : T (is_result s.again_first || absent s.again_first)
  pub again_second : T (is_result s.again_second || absent s.again_second)
  pub whole : differ (absent s.again_first) (absent s.again_second) ≡ false

pub in_ranges_lem : (s : Sample) → wrong_number s ≡ false → InRanges s
unfolding wrong_number
in_ranges_lem s e =
    record {
      baseline = passes _ (grind arith);
      first = passes _ (grind arith);
      second = passes _ (grind arith);
      third = passes _ (grind arith);
      again_first = passes _ (grind arith);
      again_second = passes _ (grind arith);
      whole = grind arith;
    }

-- a reading due and not wrong is there
due_there : (due missing : Bool) → differ due (not missing) ≡ false → due ≡ true → missing ≡ false
due_there due missing e d = grind arith

alike : (a b : Bool) → differ a b ≡ false → a ≡ false → b ≡ false
alike a b e h = grind arith

-- both results of a pair are in range
record PairIn (p : Pair) : Type 0 where
  one : Within 0 10000 p.one
  other : Within 0 10000 p.other

pair_sum_lem : (p : Pair) → PairIn p → Within 0 20000 (pair_sum p)
pair_sum_lem p h =
    record { over = omega (arith, ints, h.one.over, h.other.over); under = omega (arith, ints, h.one.under, h.other.under) }

-- what holds of two pairs holds of the closer
pub closer_keeps : (P : Pair → Type 0) (p q : Pair) → P p → P q → P (closer p q)
unfolding closer
closer_keeps P p q hp hq = cond_both (ltb (spread q) (spread p)) q p P (λ e. hq) (λ e. hp)

used_in : (limits : Limits) (s : Sample) → InRanges s → wrong_third limits s ≡ false → PairIn (used_pair limits s)
unfolding used_pair closest_pair
used_in limits s r h =
    cond_both (third_due limits s) (closest_pair s) (pair s.first s.second) PairIn due
    (λ e. record { one = a; other = b })
  where
    a : Within 0 10000 s.first
    a = in_range_lem s.first r.first

    b : Within 0 10000 s.second
    b = in_range_lem s.second r.second

    due : third_due limits s ≡ true → PairIn (closest_pair s)
    due e =
        let c = in_range_lem s.third (present s.third r.third (due_there (third_due limits s) (absent s.third) h e)) in
        closer_keeps PairIn (closer (pair s.first s.second) (pair s.first s.third)) (pair s.second s.third)
        (closer_keeps PairIn (pair s.first s.second) (pair s.first s.third) (record { one = a; other = b }) (record { one = a; other = c }))
        (record { one = b; other = c })

module _ (limits : Limits) (i : ℤ) (hi : nat_abs i ≤ 1000) where
  final_bound : (round : Bool) (s : Sample) → wrong_number s ≡ false → wrong_third limits s ≡ false → wrong_again limits i round s ≡ false
      → nat_abs (final_deviation limits i round s) ≤ 22000
  unfolding final_deviation first_deviation
  final_bound round s hn ht ha =
      cond_both (again_due limits i round s) (deviation i s.baseline (pair_sum (pair s.again_first s.again_second))) (first_deviation limits i s)
      (λ z. nat_abs z ≤ 22000)
      (λ e. let there = due_there (again_due limits i round s) (absent s.again_first) ha e in
      deviation_bound i s.baseline (pair_sum (pair s.again_first s.again_second)) hi base
      (pair_sum_lem (pair s.again_first s.again_second) (record {
        one = in_range_lem s.again_first (present s.again_first r.again_first there);
        other = in_range_lem s.again_second (present s.again_second r.again_second (alike (absent s.again_first) (absent s.again_second) r.whole there));
      })))
      (λ e. deviation_bound i s.baseline (pair_sum (used_pair limits s)) hi base (pair_sum_lem (used_pair limits s) (used_in limits s r ht)))
    where
      r : InRanges s
      r = in_ranges_lem s hn

      base : Within 0 10000 s.baseline
      base = in_range_lem s.baseline r.baseline

  abbrev Small : Bool → Sample → Type 0
  Small round s = nat_abs (final_deviation limits i round s) ≤ 22000

  all_bound : (round : Bool) (ss : List Sample) → any wrong_number ss ≡ false → any (wrong_third limits) ss ≡ false
      → any (wrong_again limits i round) ss ≡ false → All (Small round) ss
  all_bound round [] hn ht ha = All-nil (Small round)
  all_bound round (s ∷ ss) hn ht ha =
      let n = or_parts (wrong_number s) (any wrong_number ss) hn in
      let t = or_parts (wrong_third limits s) (any (wrong_third limits) ss) ht in
      let a = or_parts (wrong_again limits i round s) (any (wrong_again limits i round) ss) ha in
      All-cons (Small round) s ss (final_bound round s n.0 t.0 a.0) (all_bound round ss n.1 t.1 a.1)

sum_bound : (f : Sample → ℤ) (ss : List Sample) → All (λ s. nat_abs (f s) ≤ 22000) ss → nat_abs (total (map f ss)) ≤ 22000 * length ss
sum_bound f [] h = omega arith
sum_bound f (s ∷ ss) h =
    let first = All-head (λ s. nat_abs (f s) ≤ 22000) s ss h in
    let rest = sum_bound f ss (All-tail (λ s. nat_abs (f s) ≤ 22000) s ss h) in
    omega (arith, ints, first, rest)

length_keep : (p : Sample → Bool) (ss : List Sample) → length (keep p ss) ≤ length ss
length_keep p ss = omega (arith, length-filter p ss, count_by-le-length p ss)

-- six numbers a sample
pub length_samples : (l : List ℤ) → 6 * length (samples_of l) ≤ length l
unfolding samples_of
length_samples [] = omega arith
length_samples (a ∷ []) = omega arith
length_samples (a ∷ b ∷ []) = omega arith
length_samples (a ∷ b ∷ c ∷ []) = omega arith
length_samples (a ∷ b ∷ c ∷ d ∷ []) = omega arith
length_samples (a ∷ b ∷ c ∷ d ∷ e ∷ []) = omega arith
length_samples (a ∷ b ∷ c ∷ d ∷ e ∷ f ∷ rest) = omega (arith, length_samples rest)

-- the bounds of an accepted sheet's S and N
pub record Bounded (n : ℕ) (set : Set) : Type 0 where
  pub even : set.count % 2 ≡ 0
  pub most : set.count ≤ 2 * n
  pub size : nat_abs set.sum ≤ 11000 * set.count

-- N alone needs no bound of the intercept
pub count_bounded : (limits : Limits) (i : ℤ) (n : ℕ) (numbers : List ℤ) → first_number (sheet_checks limits i n numbers) ≡ None → (set_of limits i numbers).count ≤ 2 * n
unfolding sheet_checks set_of kept_samples
count_bounded limits i n numbers e =
    let ss = samples_of numbers in
    let whole = eqb-true (length numbers) (6 * n) (not-false (eqb (length numbers) (6 * n)) (none_applies (sheet_checks limits i n numbers) e).0) in
    omega (arith, length_keep (kept limits i (again_round limits i ss)) ss, length_samples numbers, whole)

pub set_bounded : (limits : Limits) (i : ℤ) (n : ℕ) (numbers : List ℤ) → nat_abs i ≤ 1000
    → first_number (sheet_checks limits i n numbers) ≡ None → Bounded n (set_of limits i numbers)
unfolding sheet_checks set_of kept_samples
set_bounded limits i n numbers hi e =
    let ss = samples_of numbers in
    let round = again_round limits i ss in
    let f = none_applies (sheet_checks limits i n numbers) e in
    let p = kept limits i round in
    let each = All-filter p (Small limits i hi round) ss (all_bound limits i hi round ss f.1.0 f.1.1.0 f.1.1.1.0) in
    record {
      even = mul-mod_right 2 (length (keep p ss));
      most = count_bounded limits i n numbers e;
      size = omega (arith, sum_bound (final_deviation limits i round) (keep p ss) each);
    }

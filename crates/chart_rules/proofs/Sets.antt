-- Which held sets are sound, by worked cases; what is known of a sound set, and that the set of good results is one.
use mathlib.Core.Path.{◌≡◌, refl, ◌∙◌}
use mathlib.Core.List.{List, [], ◌∷◌, map}
use mathlib.Core.Bool.{true, false}
use Prim.Native.Nat.{ℕ, zero, suc, ◌+◌, ◌*◌, ◌≤◌, ◌<◌}
use native.Mathlib.Omega.{arith}
use lib.IntN.{ℤ, pos, ◌-ℤ◌, nat_abs}
use lib.ListN.{length, get_or}
use lib.Dec.{leb}
use Rattle.std.specs.List.{All}
use Rattle.std.proofs.lemmas.Bool.{le-leb, leb-true, and_parts}
use Rattle.std.proofs.lemmas.Int.{ints}
use Rattle.whole.specs.Bounds.{Within}
use Rattle.whole.specs.Lists.{largest, smallest}
use Rattle.whole.proofs.ListLaws.{spread_within}
use Rattle.chart_rules.specs.Sets.{Pair, pairs_of, difference, differences, mean_of, plot_of, set_of}
use Rattle.chart_rules.specs.Rows.{limits_of}
use Rattle.chart_rules.specs.Limits.{absolute, at_or_above, at_or_below, tolerance, range_tolerance}
use Rattle.chart_rules.specs.Run.{one_side, run_by, run}
use Rattle.chart_rules.specs.Refusals.{bad_week, bad_size, outside, bad_result, refusal_of}
use Rattle.chart_rules.specs.Charts.{sound_set, sound, next_chart}
use Rattle.chart_rules.specs.Lines.{values_of}
use Rattle.chart_rules.specs.Calls.{decided, accepted, result_of}
use Rattle.chart_rules.specs.Cases.{helds}
use Rattle.chart_rules.specs.declared.ChartSet.{ChartSet}
use Rattle.chart_rules.proofs.Bounds.{size_facts}
use Rattle.chart_rules.proofs.Plots.{GoodPair, pairs_length, pairs_inside, good_pairs, of_pairs, plot_most}

pub helds_hold : map (λ c. c.gives) helds ≡ map (λ c. c.says) helds
unfolding helds bad_size outside bad_result mean_of plot_of set_of sound_set limits_of absolute at_or_above at_or_below tolerance range_tolerance one_side run_by run sound next_chart values_of bad_week refusal_of decided accepted result_of
helds_hold = refl

-- what is known of a sound set
pub record SoundSet (s : ChartSet) : Type 0 where
  pub some : 1 ≤ s.count
  pub five : s.count ≤ 5
  pub plot : nat_abs s.plot ≤ 10000
  pub range : s.range ≤ 20000

pub sound_set_lem : (s : ChartSet) → sound_set s ≡ true → SoundSet s
unfolding sound_set
sound_set_lem s e =
    let a = and_parts _ (leb s.range 20000) e in
    let b = and_parts _ (leb (nat_abs s.plot) 10000) a.0 in
    let d = and_parts (leb 1 s.count) (leb s.count 5) b.0 in
    record {
      some = leb-true 1 s.count d.0;
      five = leb-true s.count 5 d.1;
      plot = leb-true (nat_abs s.plot) 10000 b.1;
      range = leb-true s.range 20000 a.1;
    }

-- ---- differences
pub differences_within : (ps : List Pair) → All GoodPair ps → All (Within 10000 10000) (differences ps)
differences_within = of_pairs 10000 10000 difference (λ p g. record { over = omega (arith, ints, g.original.over, g.monitor.under); under = omega (arith, ints, g.original.under, g.monitor.over) })

-- of results in their range
pub each_diff : (l : List ℤ) → All (Within 0 10000) l → All (Within 10000 10000) (differences (pairs_of l))
each_diff l h = differences_within (pairs_of l) (pairs_inside l h)

-- a pair's difference, by its place
pub diff_at : (k : ℕ) (l : List ℤ) → 2 * k + 1 < length l
    → get_or l (2 * k) (pos 0) -ℤ get_or l (2 * k + 1) (pos 0) ≡ get_or (differences (pairs_of l)) k (pos 0)
diff_at k [] h = absurd (omega arith)
diff_at k (a ∷ []) h = absurd (omega arith)
diff_at zero (a ∷ b ∷ l) h = refl
diff_at (suc k) (a ∷ b ∷ l) h =
    let e : 2 * suc k ≡ suc (suc (2 * k)) = omega arith in
    let f : 2 * suc k + 1 ≡ suc (suc (2 * k + 1)) = omega arith in
    (λ i. get_or (a ∷ b ∷ l) (e i) (pos 0) -ℤ get_or (a ∷ b ∷ l) (f i) (pos 0)) ∙ diff_at k l (omega arith)

-- the set of results to which neither 20 nor 21 applies is sound
pub set_sound : (numbers : List ℤ) → bad_size (length numbers) ≡ false → bad_result numbers ≡ false → sound_set (set_of numbers) ≡ true
unfolding sound_set set_of
set_sound numbers e f =
    let n = size_facts (length numbers) e in
    let ps = pairs_of numbers in
    let ds = differences ps in
    let k = pairs_length numbers in
    let r = spread_within 10000 10000 ds (differences_within ps (good_pairs numbers f)) in
    let z = largest ds -ℤ smallest ds in
    rw (
      le-leb 1 (length ps) (omega arith),
      le-leb (length ps) 5 (omega arith),
      le-leb (nat_abs (plot_of ps)) 10000 (plot_most numbers e f),
      le-leb (nat_abs z) 20000 (omega (arith, ints, r.over, r.under)),
    )

-- The pairs of some results, and what they plot: the worked cases, how far rounding moves a mean and a plot, and a plot's bound.
use mathlib.Core.Path.{◌≡◌, refl, ap, subst, ◌∙◌}
use mathlib.Core.List.{List, [], ◌∷◌, map}
use mathlib.Core.Bool.{false}
use Prim.Native.Nat.{ℕ, ◌+◌, ◌*◌, ◌/◌, ◌≤◌, ◌<◌}
use native.Mathlib.Omega.{arith}
use borrow.Author.Differences.{up, down}
use lib.IntN.{ℤ, pos, ◌-ℤ◌, ◌*ℤ◌, nat_abs}
use lib.ListN.{length, length-map}
use Rattle.std.specs.List.{All}
use Rattle.std.proofs.lemmas.Int.{ints}
use Rattle.std.proofs.lemmas.List.Elements.{All-nil, All-cons, All-head, All-tail, All-map, All-weaker}
use Rattle.whole.specs.Bounds.{Within}
use Rattle.whole.specs.Lists.{total}
use Rattle.whole.specs.Rounding.{half_up}
use Rattle.whole.proofs.ListLaws.{total_within}
use Rattle.whole.proofs.RoundLaws.{half_up_not_above, half_up_not_below, half_up_at_most}
use Rattle.chart_rules.specs.Sets.{Pair, pairs_of, originals, monitors, differences, mean_of, plot_of, set_of}
use Rattle.chart_rules.specs.Refusals.{bad_size, bad_result}
use Rattle.chart_rules.specs.Laws.{MeanNear, PlotNear}
use Rattle.chart_rules.specs.Cases.{plots}
use Rattle.chart_rules.proofs.Bounds.{size_facts, results_inside}

-- ---- the cases: what sets plot
pub plots_hold : map (λ c. c.gives) plots ≡ map (λ c. c.says) plots
unfolding plots mean_of plot_of
plots_hold = refl

-- ---- pairs

-- pairs are half as many as results
pub pairs_length : (l : List ℤ) → length (pairs_of l) ≡ length l / 2
pairs_length [] = omega arith
pairs_length (a ∷ []) = omega arith
pairs_length (a ∷ b ∷ l) = omega (arith, pairs_length l)

-- and so is what is taken from each of them
pub taken_length : (f : Pair → ℤ) (l : List ℤ) → length (map f (pairs_of l)) ≡ length l / 2
taken_length f l = length-map (pairs_of l) f ∙ pairs_length l

-- to neither of a pair's results 21 applies
pub record GoodPair (p : Pair) : Type 0 where
  pub original : Within 0 10000 p.original
  pub monitor : Within 0 10000 p.monitor

pub pairs_inside : (l : List ℤ) → All (Within 0 10000) l → All GoodPair (pairs_of l)
pairs_inside [] h = All-nil GoodPair
pairs_inside (a ∷ []) h = All-nil GoodPair
pairs_inside (a ∷ b ∷ l) h =
    let rest = All-tail (Within 0 10000) a (b ∷ l) h in
    All-cons GoodPair _ (pairs_of l)
    (record { original = All-head (Within 0 10000) a (b ∷ l) h; monitor = All-head (Within 0 10000) b l rest })
    (pairs_inside l (All-tail (Within 0 10000) b l rest))

pub good_pairs : (numbers : List ℤ) → bad_result numbers ≡ false → All GoodPair (pairs_of numbers)
good_pairs numbers e = pairs_inside numbers (results_inside numbers e)

-- what is so of each good pair's result or difference is so of all of them
pub of_pairs : (low high : ℕ) (f : Pair → ℤ) → ((p : Pair) → GoodPair p → Within low high (f p)) → (ps : List Pair) → All GoodPair ps → All (Within low high) (map f ps)
of_pairs low high f h ps g = All-map (Within low high) f ps (All-weaker GoodPair (λ p. Within low high (f p)) h ps g)

-- the differences sum to the originals less the monitors
differences_total : (ps : List Pair) → total (differences ps) ≡ total (originals ps) -ℤ total (monitors ps)
differences_total [] = omega (arith, ints)
differences_total (p ∷ ps) = omega (arith, ints, differences_total ps)

-- ---- a mean

-- a mean of results, as naturals: at most half a hundredth from the exact one, a half going up, and at most 10000
record Mean (results : List ℤ) (n : ℕ) : Type 0 where
  mean : ℕ
  sum : ℕ
  mean_is : mean_of results ≡ pos mean
  sum_is : total results ≡ pos sum
  not_above : 2 * mean * n ≤ 2 * sum + n
  not_below : 2 * sum < 2 * mean * n + n
  most : mean ≤ 10000

mean_facts : (results : List ℤ) → All (Within 0 10000) results → 1 ≤ length results → Mean results (length results)
unfolding mean_of
mean_facts results h some =
    let n = length results in
    let t = total_within 0 10000 results h in
    let sum = nat_abs (total results) in
    let is : total results ≡ pos sum = omega (arith, ints, t.over) in
    record {
      mean = half_up sum n;
      sum = sum;
      mean_is = refl;
      sum_is = is;
      not_above = half_up_not_above sum n;
      not_below = half_up_not_below sum n some;
      most = half_up_at_most sum n 10000 some (omega (arith, ints, t.under));
    }

-- ---- a plot

-- two means of as many results, one less the other: less than a hundredth from the exact ones' difference
both_near : (a b s t n : ℕ) → 2 * a * n ≤ 2 * s + n → 2 * s < 2 * a * n + n → 2 * b * n ≤ 2 * t + n → 2 * t < 2 * b * n + n
    → nat_abs ((pos a -ℤ pos b) *ℤ pos n -ℤ (pos s -ℤ pos t)) < n
both_near a b s t n h k l m =
    let z = pos a -ℤ pos b in
    let value : a + down z ≡ b + up z = omega (arith, ints) in
    let times = ap (λ (x : ℕ). x * n) value in
    omega (arith, ints)

-- the two means of a set's results
record Means (numbers : List ℤ) : Type 0 where
  original : Mean (originals (pairs_of numbers)) (length (pairs_of numbers))
  monitor : Mean (monitors (pairs_of numbers)) (length (pairs_of numbers))

means_of : (numbers : List ℤ) → bad_size (length numbers) ≡ false → bad_result numbers ≡ false → Means numbers
means_of numbers e f =
    let ps = pairs_of numbers in
    let some : 1 ≤ length ps = omega (arith, size_facts (length numbers) e, pairs_length numbers) in
    record { original = of (λ p. p.original) (λ p h. h.original) some; monitor = of (λ p. p.monitor) (λ p h. h.monitor) some }
  where
    of : (g : Pair → ℤ) → ((p : Pair) → GoodPair p → Within 0 10000 (g p)) → 1 ≤ length (pairs_of numbers) → Mean (map g (pairs_of numbers)) (length (pairs_of numbers))
    of g h some =
        let ps = pairs_of numbers in
        let long : length (map g ps) ≡ length ps = length-map ps g in
        subst (Mean (map g ps)) long (mean_facts (map g ps) (of_pairs 0 10000 g h ps (good_pairs numbers f)) (omega (arith, some, long)))

-- a plot's magnitude is at most 10000
pub plot_most : (numbers : List ℤ) → bad_size (length numbers) ≡ false → bad_result numbers ≡ false → nat_abs (plot_of (pairs_of numbers)) ≤ 10000
unfolding plot_of
plot_most numbers e f =
    let m = means_of numbers e f in
    rw (m.original.mean_is, m.monitor.mean_is) (omega (arith, ints, m.original.most, m.monitor.most))

-- of results as many as n
mean_near : (results : List ℤ) (n : ℕ) → length results ≡ n → Mean results n → MeanNear results
mean_near results n long m = rw (long, m.mean_is, m.sum_is) (omega (arith, ints, m.not_above), omega (arith, ints, m.not_below))

means_near : (numbers : List ℤ) → bad_size (length numbers) ≡ false → bad_result numbers ≡ false
    → MeanNear (originals (pairs_of numbers)) × MeanNear (monitors (pairs_of numbers))
means_near numbers e f =
    let m = means_of numbers e f in
    let ps = pairs_of numbers in
    (mean_near _ _ (length-map ps (λ (p : Pair). p.original)) m.original, mean_near _ _ (length-map ps (λ (p : Pair). p.monitor)) m.monitor)

plot_near : (numbers : List ℤ) → bad_size (length numbers) ≡ false → bad_result numbers ≡ false
    → nat_abs ((set_of numbers).plot *ℤ pos (set_of numbers).count -ℤ total (differences (pairs_of numbers))) < (set_of numbers).count
unfolding set_of plot_of
plot_near numbers e f =
    let m = means_of numbers e f in
    let o = m.original in
    let n = m.monitor in
    let ps = pairs_of numbers in
    rw (differences_total ps, o.mean_is, o.sum_is, n.mean_is, n.sum_is)
    (both_near o.mean n.mean o.sum n.sum (length ps) o.not_above o.not_below n.not_above n.not_below)

pub plots_near : PlotNear
unfolding set_of
plots_near = record { means = means_near; plot = plot_near; most = plot_most }

-- The pairs of some results, one after another: the totals of their originals and monitors, the largest and the smallest of their differences.
use Rattle.std.proofs.Common.{◌≡◌, refl, sym, ap, ◌∙◌, subst, arith, false, ℕ, List, [], ◌∷◌, ◌++◌, ◌*◌, ◌-◌, ◌/◌, ◌≤◌, ◌<◌, length, get_or, drop, map, ℤ, pos, ◌+ℤ◌, ◌-ℤ◌, FitsSigned, w32}
use Rattle.std.specs.Prelude.{nat_abs}
use Rattle.std.specs.Int.{int_max, int_min}
use Rattle.std.proofs.lemmas.Int.{ints, clamps}
use mathlib.Core.List.{map-id}
use lib.IntN.{+ℤ_assoc, +ℤ_idl, +ℤ_idr}
use Rattle.whole.specs.Bounds.{Within}
use Rattle.whole.specs.Lists.{total, larger_of, smaller_of, largest, smallest}
use Rattle.whole.proofs.Read.{rd}
use Rattle.whole.proofs.ListLaws.{largest_fold, smallest_fold}
use Rattle.whole.proofs.Tests.{or_none}
use Rattle.std.specs.List.{fold}
use Rattle.whole.proofs.Spelled.{elements, spelled}
use Rattle.whole.specs.Rounding.{half_up}
use Rattle.chart_rules.specs.Sets.{Pair, pairs_of, differences, mean_of, plot_of}
use Rattle.chart_rules.specs.Refusals.{bad_size, outside, bad_result}
use Rattle.chart_rules.proofs.Bounds.{size_facts, inside}
use Rattle.chart_rules.proofs.Plots.{taken_length}

-- ---- a pair

-- 21 applies neither to the two results nor to those behind them
pub record Good (a b : ℤ) (l : List ℤ) : Type 0 where
  pub original : Within 0 10000 a
  pub monitor : Within 0 10000 b
  pub rest : bad_result l ≡ false

pub good : (a b : ℤ) (l : List ℤ) → bad_result (a ∷ b ∷ l) ≡ false → Good a b l
unfolding bad_result
good a b l e =
    let p = or_none (outside a) _ e in
    let q = or_none (outside b) _ p.1 in
    record { original = inside a p.0; monitor = inside b q.0; rest = q.1 }

-- ---- the pairs so far

-- with `rest` still to come, the total so far of what f takes from each pair
pub record Summed (f : Pair → ℤ) (numbers rest : List ℤ) (sum : ℤ) : Type 0 where
  pub near : Within 0 (5000 * (10 - length rest)) sum
  pub is : sum +ℤ total (map f (pairs_of rest)) ≡ total (map f (pairs_of numbers))

abbrev pub original : Pair → ℤ
original p = p.original

abbrev pub monitor : Pair → ℤ
monitor p = p.monitor

-- with `rest` still to come, the two totals, the largest and the smallest so far
pub record Tallied (numbers rest : List ℤ) (o m high low : ℤ) : Type 0 where
  pub few : length rest ≤ 10
  pub good : bad_result rest ≡ false
  pub originals : Summed original numbers rest o
  pub monitors : Summed monitor numbers rest m
  pub high_in : Within 10000 10000 high
  pub low_in : Within 10000 10000 low
  pub high_is : fold larger_of high (differences (pairs_of rest)) ≡ largest (differences (pairs_of numbers))
  pub low_is : fold smaller_of low (differences (pairs_of rest)) ≡ smallest (differences (pairs_of numbers))

-- nothing is added yet
none : (f : Pair → ℤ) (numbers : List ℤ) → Summed f numbers numbers (pos 0)
none f numbers = record { near = omega (arith, ints); is = +ℤ_idl _ }

-- the first pair is both the largest and the smallest so far
begin : (a b : ℤ) (l : List ℤ) → length (a ∷ b ∷ l) ≤ 10 → bad_result (a ∷ b ∷ l) ≡ false
    → Tallied (a ∷ b ∷ l) (a ∷ b ∷ l) (pos 0) (pos 0) (rd (rd a -ℤ rd b)) (rd (rd a -ℤ rd b))
begin a b l h e =
    let g = good a b l e in
    let ds = differences (pairs_of (a ∷ b ∷ l)) in
    let some : 0 < length ds = omega arith in
    let d : rd (rd a -ℤ rd b) ≡ a -ℤ b = omega (arith, ints) in
    rw d
    record {
      few = h;
      good = e;
      originals = none original (a ∷ b ∷ l);
      monitors = none monitor (a ∷ b ∷ l);
      high_in = omega (arith, ints);
      low_in = omega (arith, ints);
      high_is = largest_fold (λ (z : ℤ). z) (pos 0) ds some ∙ ap largest (map-id ds);
      low_is = smallest_fold (λ (z : ℤ). z) (pos 0) ds some ∙ ap smallest (map-id ds);
    }

pub first_good : (numbers : List ℤ) → bad_size (length numbers) ≡ false → bad_result numbers ≡ false
    → Good (get_or numbers 0 (pos 0)) (get_or numbers 1 (pos 0)) (drop 2 numbers)
first_good [] h e = absurd (omega (arith, size_facts _ h))
first_good (a ∷ []) h e = absurd (omega (arith, size_facts _ h))
first_good (a ∷ b ∷ l) h e = good a b l e

pub begun : (numbers : List ℤ) → bad_size (length numbers) ≡ false → bad_result numbers ≡ false
    → Tallied numbers numbers (pos 0) (pos 0) (rd (rd (get_or numbers 0 (pos 0)) -ℤ rd (get_or numbers 1 (pos 0)))) (rd (rd (get_or numbers 0 (pos 0)) -ℤ rd (get_or numbers 1 (pos 0))))
begun [] h e = absurd (omega (arith, size_facts _ h))
begun (a ∷ []) h e = absurd (omega (arith, size_facts _ h))
begun (a ∷ b ∷ l) h e = begin a b l (size_facts _ h).1 e

-- the code's larger and smaller of two
max_is : (a b : ℤ) → int_max a b ≡ larger_of a b
max_is a b = grind (arith, ints)

min_is : (a b : ℤ) → int_min a b ≡ smaller_of a b
min_is a b = grind (arith, ints)

-- the next pair, taken apart from what is left behind it
pub next : {numbers rest : List ℤ} (pair left : List ℤ) {o m h w : ℤ} → Tallied numbers rest o m h w → rest ≡ pair ++ left → length pair ≡ 2
    → Tallied numbers (get_or pair 0 (pos 0) ∷ get_or pair 1 (pos 0) ∷ left) o m h w
unfolding elements
next {numbers} pair left {o} {m} {h} {w} t e two =
    subst (λ (l : List ℤ). Tallied numbers l o m h w) (e ∙ ap (λ (p : List ℤ). p ++ left) (sym (spelled (pos 0) pair 2 two))) t

-- a pair: its two results are added without overflow, and all is tallied up to behind it
module _ {numbers l : List ℤ} {a b o m h w : ℤ} (t : Tallied numbers (a ∷ b ∷ l) o m h w) where
  pub pair_good : Good a b l
  pair_good = good a b l t.good

  pub sum_fits : (s x : ℤ) → Within 0 (5000 * (10 - length (a ∷ b ∷ l))) s → Within 0 10000 x → FitsSigned w32 (s +ℤ rd x)
  sum_fits s x n g = omega (arith, ints)

  added : (f : Pair → ℤ) (s : ℤ) → Within 0 10000 (f (record { original = a; monitor = b })) → Summed f numbers (a ∷ b ∷ l) s
      → Summed f numbers l (rd (s +ℤ rd (f (record { original = a; monitor = b }))))
  added f s g u =
      let x = f (record { original = a; monitor = b }) in
      let sum : rd (s +ℤ rd x) ≡ s +ℤ x = omega (arith, ints, u.near, g) in
      rw sum
      record {
        near = omega (arith, ints, t.few, u.near, g);
        is = +ℤ_assoc s x (total (map f (pairs_of l))) ∙ u.is;
      }

  pub after : (p q : ℤ) → p ≡ int_max h (rd (rd a -ℤ rd b)) → q ≡ int_min w (rd (rd a -ℤ rd b))
      → Tallied numbers l (rd (o +ℤ rd a)) (rd (m +ℤ rd b)) (rd p) (rd q)
  after p q e f =
      let g = pair_good in
      let d : rd (rd a -ℤ rd b) ≡ a -ℤ b = omega (arith, ints) in
      let high : rd p ≡ int_max h (a -ℤ b) = omega (arith, ints, clamps, t.high_in) in
      let low : rd q ≡ int_min w (a -ℤ b) = omega (arith, ints, clamps, t.low_in) in
      rw (high, low)
      record {
        few = omega (arith, t.few);
        good = g.rest;
        originals = added original o g.original t.originals;
        monitors = added monitor m g.monitor t.monitors;
        high_in = omega (arith, ints, clamps, t.high_in);
        low_in = omega (arith, ints, clamps, t.low_in);
        high_is = rw max_is t.high_is;
        low_is = rw min_is t.low_is;
      }

-- behind the last pair
pub record Done (numbers : List ℤ) (o m h w : ℤ) : Type 0 where
  pub originals : (o ≡ total (map original (pairs_of numbers))) × Within 0 50000 o
  pub monitors : (m ≡ total (map monitor (pairs_of numbers))) × Within 0 50000 m
  pub fits : FitsSigned w32 (h -ℤ w)
  pub range : nat_abs (rd (h -ℤ w)) ≡ nat_abs (largest (differences (pairs_of numbers)) -ℤ smallest (differences (pairs_of numbers)))

no_pair : (l : List ℤ) → length l < 2 → pairs_of l ≡ []
no_pair [] few = refl
no_pair (a ∷ []) few = refl
no_pair (a ∷ b ∷ l) few = absurd (omega arith)

summed : (f : Pair → ℤ) {numbers rest : List ℤ} {s : ℤ} → Summed f numbers rest s → length rest < 2 → (s ≡ total (map f (pairs_of numbers))) × Within 0 50000 s
summed f {numbers} {rest} {s} u few =
    let e = no_pair rest few in
    (sym (+ℤ_idr s) ∙ (rw e at u.is), record { over = u.near.over; under = omega (arith, ints, u.near.under) })

pub ended : {numbers rest : List ℤ} {o m h w : ℤ} → Tallied numbers rest o m h w → length rest < 2 → Done numbers o m h w
ended {numbers} {rest} {o} {m} {h} {w} t few =
    let e = no_pair rest few in
    let high : h ≡ largest (differences (pairs_of numbers)) = rw e at t.high_is in
    let low : w ≡ smallest (differences (pairs_of numbers)) = rw e at t.low_is in
    record {
      originals = summed original t.originals few;
      monitors = summed monitor t.monitors few;
      fits = omega (arith, ints, t.high_in, t.low_in);
      range = rw (← high, ← low) (omega (arith, ints, t.high_in, t.low_in));
    }

-- what is computed of the two totals is the plot
pub plotted : {numbers : List ℤ} {o m h w : ℤ} → Done numbers o m h w → (a b : ℕ) → a ≡ nat_abs o → b ≡ nat_abs m
    → pos (half_up a (length numbers / 2)) -ℤ pos (half_up b (length numbers / 2)) ≡ plot_of (pairs_of numbers)
unfolding mean_of plot_of
plotted {numbers} d a b e f =
    let long : (g : Pair → ℤ) → length numbers / 2 ≡ length (map g (pairs_of numbers)) = λ g. sym (taken_length g numbers) in
    let first = e ∙ ap nat_abs d.originals.0 in
    let second = f ∙ ap nat_abs d.monitors.0 in
    λ i. pos (half_up (first i) (long original i)) -ℤ pos (half_up (second i) (long monitor i))

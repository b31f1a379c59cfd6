-- docs/SPECIFICATION.md, "Control charts": a set of pairs original, monitor, and what it plots.
use Rattle.std.specs.Prelude.{List, [], ◌∷◌, map, ℤ, pos, nat_abs, ◌-ℤ◌, length}
use Rattle.whole.specs.Lists.{total, largest, smallest}
use Rattle.whole.specs.Rounding.{half_up}
use Rattle.chart_rules.specs.declared.ChartSet.{ChartSet}

-- ---- pairs

pub record Pair : Type 0 where
  pub original : ℤ
  pub monitor : ℤ

-- the pairs of some results, original and monitor in turn
abbrev pub pairs_of : List ℤ → List Pair
pairs_of [] = []
pairs_of (original ∷ []) = []
pairs_of (original ∷ monitor ∷ rest) = record { original = original; monitor = monitor } ∷ pairs_of rest

-- the original results of some pairs, and the monitor results
abbrev pub originals : List Pair → List ℤ
originals pairs = map (λ p. p.original) pairs

abbrev pub monitors : List Pair → List ℤ
monitors pairs = map (λ p. p.monitor) pairs

-- their differences, original minus monitor
abbrev pub difference : Pair → ℤ
difference p = p.original -ℤ p.monitor

abbrev pub differences : List Pair → List ℤ
differences pairs = map difference pairs

-- ---- what is plotted

-- the mean of some results, rounded to a hundredth, halves up; no result is below zero
unfoldable pub mean_of : List ℤ → ℤ
mean_of results = pos (half_up (nat_abs (total results)) (length results))

-- the plotted average: the original mean minus the monitor mean, each first rounded
unfoldable pub plot_of : List Pair → ℤ
plot_of pairs = mean_of (originals pairs) -ℤ mean_of (monitors pairs)

-- ---- a set

-- a set's count of pairs, its plotted average, and its range: the largest minus the smallest difference
unfoldable pub set_of : List ℤ → ChartSet
set_of numbers =
    let pairs = pairs_of numbers in
    let ds = differences pairs in
    record { count = length pairs; plot = plot_of pairs; range = nat_abs (largest ds -ℤ smallest ds) }

-- what stands in a place that holds no set
abbrev pub blank_set : ChartSet
blank_set = record { count = 0; plot = pos 0; range = 0 }

-- docs/SPECIFICATION.md, "Control charts": the absolute and tolerance limits of a set after the sets before it, newest first. A set's average is what it
-- plots.
use Rattle.std.specs.Prelude.{ℕ, Bool, false, ◌&&◌, ◌||◌, List, [], ◌∷◌, pos, neg_ℤ, nat_abs, leb}
use Rattle.std.specs.Int.Signed.{le_z}
use Rattle.chart_rules.specs.declared.ChartSet.{ChartSet}

-- absolute: the average's magnitude is equal to or above the limit
unfoldable pub absolute : ℕ → ChartSet → Bool
absolute limit s = leb limit (nat_abs s.plot)

-- the average is at or above the upper line
unfoldable pub at_or_above : ℕ → ChartSet → Bool
at_or_above limit s = le_z (pos limit) s.plot

-- the average is at or below the lower line
unfoldable pub at_or_below : ℕ → ChartSet → Bool
at_or_below limit s = le_z s.plot (neg_ℤ (pos limit))

-- tolerance: this set and the one before both at or above the upper line, or both at or below the lower
unfoldable pub tolerance : ℕ → ChartSet → List ChartSet → Bool
tolerance limit s [] = false
tolerance limit s (before ∷ older) = (at_or_above limit s && at_or_above limit before) || (at_or_below limit s && at_or_below limit before)

-- range absolute: equal to or above the limit
abbrev pub range_absolute : ℕ → ChartSet → Bool
range_absolute limit s = leb limit s.range

-- range tolerance: this set and the one before both at or above
unfoldable pub range_tolerance : ℕ → ChartSet → List ChartSet → Bool
range_tolerance limit s [] = false
range_tolerance limit s (before ∷ older) = range_absolute limit s && range_absolute limit before

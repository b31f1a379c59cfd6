-- A chart in the 15 places (int32_t) of its caller: row, last week, held, then four sets of three places each, newest first: count, plot, range. Reading is
-- total: whatever stands there is a chart, sound or not.
use Rattle.std.specs.Prelude.{ℕ, ◌+◌, min, cond, List, [], ◌∷◌, eqb, ℤ, pos, length, take, drop, replicate}
use Rattle.whole.specs.Places.{place, natural}
use Rattle.chart_rules.specs.Charts.{fresh_chart}
use Rattle.chart_rules.specs.declared.ChartSet.{ChartSet}
use Rattle.chart_rules.specs.declared.Chart.{Chart}

-- ---- reading

module _ (words : List ℤ) where
  -- the set whose places begin there
  unfoldable pub chart_set_at : ℕ → ChartSet
  chart_set_at i = record { count = natural (place words i); plot = place words (i + 1); range = natural (place words (i + 2)) }

  -- the chart in 15 places
  unfoldable pub chart_in : Chart
  chart_in =
      record {
        row = natural (place words 0);
        week = natural (place words 1);
        held = natural (place words 2);
        sets = chart_set_at 3 ∷ chart_set_at 6 ∷ chart_set_at 9 ∷ chart_set_at 12 ∷ [];
      }

  -- the chart in any places: where they aren't 15, one of a row that there isn't (number 0)
  unfoldable pub chart_at : Chart
  chart_at = cond (eqb (length words) 15) chart_in (fresh_chart 4294967295)

-- ---- writing

-- a fresh chart: all places are 0 but the row's
unfoldable pub fresh_places : ℕ → List ℤ
fresh_places row = pos row ∷ replicate 14 (pos 0)

-- the places after a set: the row as it stands, the set's week, one held more and four at most, the set, and the nine places of the three before it as they stand
unfoldable pub next_places : List ℤ → ℕ → ChartSet → List ℤ
next_places words week s =
    place words 0 ∷ pos week ∷ pos (min 4 (natural (place words 2) + 1)) ∷ pos s.count ∷ s.plot ∷ pos s.range ∷ take 9 (drop 3 words)

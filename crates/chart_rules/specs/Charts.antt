-- docs/SPECIFICATION.md, "Control charts" and "Refused calls": a chart, its soundness, a fresh one, and the chart after a set.
use Rattle.std.specs.Prelude.{ℕ, ◌+◌, min, Bool, ◌&&◌, List, ◌∷◌, nat_abs, take, replicate, leb}
use Rattle.whole.specs.Lists.{all}
use Rattle.chart_rules.specs.Rows.{row_exists}
use Rattle.chart_rules.specs.Sets.{blank_set}
use Rattle.chart_rules.specs.declared.ChartSet.{ChartSet}
use Rattle.chart_rules.specs.declared.Chart.{Chart}

-- the held sets, newest first
abbrev pub past_of : Chart → List ChartSet
past_of c = take c.held c.sets

-- a held set is sound if its count is 1 to 5, |plot| at most 10000 and its range 0..20000
unfoldable pub sound_set : ChartSet → Bool
sound_set s = leb 1 s.count && leb s.count 5 && leb (nat_abs s.plot) 10000 && leb s.range 20000

-- a chart is sound if its row exists, its last week is 0..9999, and its held sets, at most four, are sound
unfoldable pub sound : Chart → Bool
sound c = row_exists c.row && leb c.week 9999 && leb c.held 4 && all sound_set (past_of c)

-- a fresh chart has last week 0 and holds no set
abbrev pub fresh_chart : ℕ → Chart
fresh_chart row = record { row = row; week = 0; held = 0; sets = replicate 4 blank_set }

-- the chart after a set: its week is the last, and of the sets the newest four are held
unfoldable pub next_chart : Chart → ℕ → ChartSet → Chart
next_chart c week s = record { row = c.row; week = week; held = min 4 (c.held + 1); sets = s ∷ take 3 c.sets }

-- docs/SPECIFICATION.md, "Control charts": the output line `week n plot range al tl run ral rtl` of one set.
use Rattle.std.specs.Prelude.{ℕ, Bool, cond, List, [], ◌∷◌, ◌++◌, ℤ, pos}
use Rattle.decimal.specs.Bytes.{space, line_feed}
use Rattle.decimal.specs.Show.{show_signed}
use Rattle.chart_rules.specs.Rows.{limits_of}
use Rattle.chart_rules.specs.Limits.{absolute, tolerance, range_absolute, range_tolerance}
use Rattle.chart_rules.specs.Run.{run}
use Rattle.chart_rules.specs.Charts.{past_of}
use Rattle.chart_rules.specs.declared.ChartSet.{ChartSet}
use Rattle.chart_rules.specs.declared.Chart.{Chart}
use Rattle.chart_rules.specs.declared.Values.{Values}

-- what the line says: week, count, plotted average, range, then average absolute, tolerance, run, range absolute, range tolerance
unfoldable pub values_of : Chart → ℕ → ChartSet → Values
values_of c week s =
    let limits = limits_of c.row in
    record {
      week = week;
      count = s.count;
      plot = s.plot;
      range = s.range;
      al = absolute limits.al s;
      tl = tolerance limits.tl s (past_of c);
      run = run limits.run s (past_of c);
      ral = range_absolute limits.ral s;
      rtl = range_tolerance limits.rtl s (past_of c);
    }

-- 1 or 0
abbrev pub truth : Bool → ℤ
truth b = cond b (pos 1) (pos 0)

-- the line's nine fields, in the order of its names
abbrev pub fields : Values → List ℤ
fields v = pos v.week ∷ pos v.count ∷ v.plot ∷ pos v.range ∷ truth v.al ∷ truth v.tl ∷ truth v.run ∷ truth v.ral ∷ truth v.rtl ∷ []

-- fields in decimal, single spaces between them, a line feed at the end
abbrev pub line : List ℤ → List ℕ
line [] = line_feed ∷ []
line (x ∷ []) = show_signed x ++ (line_feed ∷ [])
line (x ∷ y ∷ rest) = show_signed x ++ (space ∷ line (y ∷ rest))

-- a set's output line
unfoldable pub line_of : Values → List ℕ
line_of v = line (fields v)

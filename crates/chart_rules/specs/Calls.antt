-- docs/SPECIFICATION.md, "Control charts" and "Refused calls": opening a chart, the call that charts one set (chart,
-- week, pairs, buffer), and a chart's check.
use Rattle.std.specs.Prelude.{ℕ, not, cond, List, [], ◌∷◌, ◌++◌, ℤ, pos, length, Some, None, Result, Ok, Err}
use Rattle.whole.specs.Lists.{Check}
use Rattle.whole.specs.Says.{Says}
use Rattle.decimal.specs.Put.{overwritten}
use Rattle.chart_rules.specs.Rows.{row_exists}
use Rattle.chart_rules.specs.Sets.{set_of}
use Rattle.chart_rules.specs.Charts.{sound, fresh_chart, next_chart}
use Rattle.chart_rules.specs.Lines.{values_of, fields, line_of}
use Rattle.chart_rules.specs.Refusals.{number_of, first_refusal, refusal_of}
use Rattle.chart_rules.specs.declared.Chart.{Chart}
use Rattle.chart_rules.specs.declared.Refusal.{Refusal}
use Rattle.chart_rules.specs.declared.Refusal.TheVariants.{UnknownRow, UnsoundChart}
use Rattle.chart_rules.specs.declared.Charted.{Charted}

-- ---- opening

-- 1: the chart row doesn't exist
abbrev pub open_checks : ℕ → List (Check Refusal)
open_checks row = record { applies = not (row_exists row); answer = UnknownRow } ∷ []

-- the opened chart, and the answer
pub record Opening : Type 0 where
  pub chart : Chart
  pub answer : Result (Unit {0}) Refusal

-- a refused opening hands back a fresh chart of row 0
unfoldable pub opening : Result (Unit {0}) Refusal → ℕ → Opening
opening (Ok done) row = record { chart = fresh_chart row; answer = Ok done }
opening (Err r) row = record { chart = fresh_chart 0; answer = Err r }

-- opening a chart of a row
unfoldable pub open_of : ℕ → Opening
open_of row = opening (first_refusal (open_checks row)) row

-- ---- one set

-- what a call leaves: the chart, and what it answers
pub record ChartResult : Type 0 where
  pub chart : Chart
  pub answer : Result Charted Refusal

-- an accepted call: the chart with the set, the line's values and its length
unfoldable pub accepted : Chart → ℕ → List ℤ → ChartResult
accepted c week numbers =
    let s = set_of numbers in
    let v = values_of c week s in
    record { chart = next_chart c week s; answer = Ok (record { values = v; length = length (line_of v) }) }

-- a refused call answers its refusal, and the chart it was given stays
unfoldable pub decided : Result (Unit {0}) Refusal → Chart → ChartResult → ChartResult
decided (Ok fine) c done = done
decided (Err r) c done = record { chart = c; answer = Err r }

-- the chart and the answer of a call whose buffer has this many bytes
unfoldable pub result_of : Chart → ℕ → List ℤ → ℕ → ChartResult
result_of c week numbers room = decided (refusal_of c week numbers room) c (accepted c week numbers)

-- what an answer writes: its line, or nothing
unfoldable pub bytes_of : Result Charted Refusal → List ℕ
bytes_of (Ok charted) = line_of charted.values
bytes_of (Err r) = []

-- a call's result and its buffer afterwards
pub record SetCharted : Type 0 where
  pub result : ChartResult
  pub buffer : List ℕ

-- the call: the line stands at the buffer's start, and no later byte is touched
unfoldable pub chart_set_of : Chart → ℕ → List ℤ → List ℕ → SetCharted
chart_set_of c week numbers buffer =
    let r = result_of c week numbers (length buffer) in
    record { result = r; buffer = overwritten (bytes_of r.answer) buffer }

-- ---- a check, which changes nothing: is this chart, loaded from storage, say, one that the calls take up?

-- number 0
abbrev pub check_of : Chart → Result (Unit {0}) Refusal
check_of c = cond (sound c) (Ok tt) (Err UnsoundChart)

-- ---- the number and the values of each answer

-- an opening has no values
abbrev pub open_says : Result (Unit {0}) Refusal → Says
open_says (Ok done) = record { number = None; values = [] }
open_says (Err r) = record { number = Some (number_of r); values = [] }

-- the output line's nine fields, and its length
abbrev pub chart_says : Result Charted Refusal → Says
chart_says (Ok charted) = record { number = None; values = fields charted.values ++ (pos charted.length ∷ []) }
chart_says (Err r) = record { number = Some (number_of r); values = [] }

-- The calls over a chart in its caller's places: the answer, every place afterwards, and every byte of the buffer.
use Rattle.std.specs.Prelude.{ℕ, List, ℤ, Result, Ok, Err}
use Rattle.chart_rules.specs.Sets.{set_of}
use Rattle.chart_rules.specs.Calls.{open_of, chart_set_of}
use Rattle.chart_rules.specs.Places.{chart_at, fresh_places, next_places}
use Rattle.chart_rules.specs.declared.Refusal.{Refusal}
use Rattle.chart_rules.specs.declared.Charted.{Charted}

-- ---- opening

-- what an opening answers, and what stands in the places
pub record OpenedIn : Type 0 where
  pub answer : Result (Unit {0}) Refusal
  pub places : List ℤ

-- whatever stood there, the places are those of the fresh chart that is handed back
unfoldable pub open_in : ℕ → OpenedIn
open_in row = record { answer = (open_of row).answer; places = fresh_places (open_of row).chart.row }

-- ---- one set

-- what a call answers, and what stands in the places and in the buffer
pub record ChartedIn : Type 0 where
  pub answer : Result Charted Refusal
  pub places : List ℤ
  pub buffer : List ℕ

-- an accepted call leaves the places with the set, a refused one the places as they came
abbrev pub left_by : Result Charted Refusal → List ℤ → ℕ → List ℤ → List ℤ
left_by (Ok charted) words week numbers = next_places words week (set_of numbers)
left_by (Err r) words week numbers = words

-- the call on the chart that is read from the places
unfoldable pub chart_set_in : List ℤ → ℕ → List ℤ → List ℕ → ChartedIn
chart_set_in words week numbers buffer =
    let r = chart_set_of (chart_at words) week numbers buffer in
    record {
      answer = r.result.answer;
      places = left_by r.result.answer words week numbers;
      buffer = r.buffer;
    }

-- For the proofs of the code, no rule: a station's sheet call, once its sheet's numbers are judged.
use Rattle.std.specs.Prelude.{Result, Ok, Err, ◌≡◌, true, List, ℕ, ◌<◌, ◌≤◌, ℤ}
use Rattle.station_rules.specs.Rows.{line_count, limits_of}
use Rattle.station_rules.specs.Lines.{past_set, verdict_of, change_of}
use Rattle.station_rules.specs.Held.{phase_said}
use Rattle.station_rules.specs.Soundness.{sound}
use Rattle.station_rules.specs.Stations.{values_of}
use Rattle.station_rules.specs.Places.{line_places, station_in}
use Rattle.station_rules.specs.InPlace.{Left, sheet_line, with_day, with_line, sheet_in}
use Rattle.station_rules.specs.declared.Set.{Set}
use Rattle.line_past.specs.Ranges.{SetsOf}
use Rattle.station_rules.specs.declared.Outcome.{Outcome}
use Rattle.station_refusals.specs.declared.Refusal.{Refusal}

-- what an accepted sheet with these S and N leaves: its outcome, the day, and its line's places
unfoldable pub accepted_in : List ℤ → ℕ → ℕ → Set → Left (Result Outcome Refusal)
accepted_in words day line counted =
    let s = station_in words in
    let v = verdict_of (limits_of s.row line) (values_of s line) day counted in
    record {
      answer = Ok (record { sum = counted.sum; count = counted.count; phase = phase_said v; change = change_of v });
      places = with_day (with_line words line (sheet_line (line_places words line) (past_set day counted) v)) day;
    }

-- the set of a sheet that is accepted
pub record Acceptable (words : List ℤ) (day line : ℕ) (set : Set) : Type 0 where
  pub right : sound (station_in words) ≡ true
  pub today : day ≤ 99999
  pub here : line < line_count (station_in words).row
  pub fits : SetsOf 1 set.sum set.count

-- what a sheet call leaves, by what its numbers come to
abbrev pub sheet_by : List ℤ → ℕ → ℕ → (Result Set Refusal) → Left (Result Outcome Refusal)
sheet_by words day line (Ok counted) = accepted_in words day line counted
sheet_by words day line (Err r) = record { answer = Err r; places = words }

-- its numbers are judged so that this is what it leaves, and a set is one that may be accepted
abbrev pub Ruled : List ℤ → ℕ → ℕ → List ℤ → (Result Set Refusal) → Type 0
Ruled words day line numbers (Ok set) = Acceptable words day line set × (sheet_by words day line (Ok set) ≡ sheet_in words day line numbers)
Ruled words day line numbers (Err r) = sheet_by words day line (Err r) ≡ sheet_in words day line numbers

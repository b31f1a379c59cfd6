-- The calls of a station: opening, sheet, repair, market test and check. A refused call hands back the station as it came.
use Rattle.std.specs.Prelude.{Result, Ok, Err, ℕ, cond, List, ◌∷◌, map, get_or, set, replicate, ℤ}
use Rattle.std.specs.Prelude.{Option, None, Some}
use Rattle.station_rules.specs.Rows.{row_exists}
use Rattle.station_rules.specs.Refusals.{first_number, refusal_of}
use Rattle.station_rules.specs.Lines.{Values, past_set, change_of}
use Rattle.station_rules.specs.Markets.{certificate_of}
use Rattle.station_rules.specs.Judging.{sheet_numbers, market_numbers, repair_numbers, sheet_set, sheet_verdict}
use Rattle.station_rules.specs.Held.{fresh_line, line_values, line_after, phase_said, repaired_line}
use Rattle.station_rules.specs.Soundness.{sound, sound_check}
use Rattle.station_rules.specs.declared.Scan.{Scan}
use Rattle.station_rules.specs.declared.Asked.{Asked}
use Rattle.station_rules.specs.declared.Basis.{Basis}
use Rattle.station_rules.specs.declared.Line.{Line}
use Rattle.station_rules.specs.declared.Outcome.{Outcome}
use Rattle.station_rules.specs.declared.Certificate.{Certificate}
use Rattle.station_rules.specs.Held.{Station}
use Rattle.station_refusals.specs.declared.Refusal.{Refusal}

-- what a call leaves: the station, and what it answers
pub record Opening : Type 0 where
  pub station : Station
  pub answer : Result Unit Refusal

pub record SheetResult : Type 0 where
  pub station : Station
  pub answer : Result Outcome Refusal

pub record RepairResult : Type 0 where
  pub station : Station
  pub answer : Result Unit Refusal

pub record MarketResult : Type 0 where
  pub station : Station
  pub answer : Result Certificate Refusal

-- a fresh station: its row, fresh lines, day 0
abbrev pub fresh_station : ℕ → Station
fresh_station row = record { row = row; day = 0; lines = replicate 3 fresh_line }

-- opening; number 1: the product row doesn't exist. A refused opening hands back a fresh station of row 0
unfoldable pub open_of : ℕ → Opening
open_of row =
    cond (row_exists row)
    (record { station = fresh_station row; answer = Ok tt })
    (record { station = fresh_station 0; answer = Err (refusal_of 1) })

-- the station's line, and what the rules judge it by
abbrev pub line_of : Station → ℕ → Line
line_of s line = get_or s.lines line fresh_line

abbrev pub values_of : Station → ℕ → Values
values_of s line = line_values (line_of s line)

-- ---- a sheet, which names day and line

-- the station after an accepted sheet
unfoldable pub sheet_station : Station → ℕ → ℕ → List ℤ → Station
sheet_station s day line numbers =
    let v = values_of s line in
    let p = past_set day (sheet_set s.row v day line numbers) in
    record {
      row = s.row;
      day = day;
      lines = set s.lines line (line_after (line_of s line) p (sheet_verdict s.row v day line numbers));
    }

-- an outcome carries S, N, the phase after it and the intercept change
unfoldable pub outcome_of : Station → ℕ → ℕ → List ℤ → Outcome
outcome_of s day line numbers =
    let v = values_of s line in
    let set = sheet_set s.row v day line numbers in
    let verdict = sheet_verdict s.row v day line numbers in
    record { sum = set.sum; count = set.count; phase = phase_said verdict; change = change_of verdict }

abbrev pub sheet_result : Option ℕ → Station → Station → Outcome → SheetResult
sheet_result None s next outcome = record { station = next; answer = Ok outcome }
sheet_result (Some number) s next outcome = record { station = s; answer = Err (refusal_of number) }

-- numbers 0 and 2 to 7
unfoldable pub sheet_of : Station → ℕ → ℕ → List ℤ → SheetResult
sheet_of s day line numbers =
    sheet_result (first_number (sound_check s ∷ sheet_numbers s.row s.day (values_of s line) day line numbers))
    s (sheet_station s day line numbers) (outcome_of s day line numbers)

-- ---- a repair, which names its day and touches all lines

-- the station after a repair: its day, and all lines repaired
abbrev pub repair_station : Station → ℕ → Station
repair_station s day = record { row = s.row; day = day; lines = map repaired_line s.lines }

abbrev pub repair_result : Option ℕ → Station → Station → RepairResult
repair_result None s next = record { station = next; answer = Ok tt }
repair_result (Some number) s next = record { station = s; answer = Err (refusal_of number) }

-- numbers 0 and 2
unfoldable pub repair_of : Station → ℕ → RepairResult
repair_of s day =
    repair_result (first_number (sound_check s ∷ repair_numbers s.day day)) s (repair_station s day)

-- ---- a market test, which names day, line, scan, what is asked and basis

-- the station after a certified test: its day
abbrev pub market_station : Station → ℕ → Station
market_station s day = record { row = s.row; day = day; lines = s.lines }

abbrev pub market_result : Option ℕ → Station → Station → Certificate → MarketResult
market_result None s next certificate = record { station = next; answer = Ok certificate }
market_result (Some number) s next certificate = record { station = s; answer = Err (refusal_of number) }

-- numbers 0, 2, 3, 8, 23, 24, 9 to 12, 25, 26, 13 and 14
unfoldable pub market_of : Station → ℕ → ℕ → Scan → Asked → Basis → MarketResult
market_of s day line scan asked basis =
    market_result (first_number (sound_check s ∷ market_numbers s.row s.day (values_of s line) day line scan asked basis))
    s (market_station s day) (certificate_of s.row (values_of s line) line scan asked basis)

-- ---- a check, which changes nothing: is this station, loaded from storage, say, one that the calls take up?

-- number 0
abbrev pub check_of : Station → Result Unit Refusal
check_of s = cond (sound s) (Ok tt) (Err (refusal_of 0))

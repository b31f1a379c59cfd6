-- docs/SPECIFICATION.md, "Refused calls": the numbers of each call of a station in their order, and what an accepted sheet comes to, by a row, the day of the last
-- accepted call and a line's values. The station judges by these with its own state, the book with its own.
use Rattle.std.specs.Prelude.{ℕ, not, ◌||◌, List, [], ◌∷◌, ltb, ℤ}
use Rattle.whole.specs.Lists.{Check}
use Rattle.station_rules.specs.Rows.{samples, line_count, limits_of}
use Rattle.station_rules.specs.Sheets.{set_of, sheet_checks}
use Rattle.station_rules.specs.Lines.{Values, verdict_of}
use Rattle.station_rules.specs.Markets.{market_checks}
use Rattle.station_rules.specs.declared.Scan.{Scan}
use Rattle.station_rules.specs.declared.Asked.{Asked}
use Rattle.station_rules.specs.declared.Basis.{Basis}
use Rattle.station_rules.specs.declared.Verdict.{Verdict}
use Rattle.station_rules.specs.declared.Set.{Set}

-- number 2: the day is below the station's day or above 99999
abbrev pub day_check : (last day : ℕ) → Check ℕ
day_check last day = record { answer = 2; applies = ltb day last || ltb 99999 day }

-- number 3: the grain doesn't have that line
abbrev pub line_check : (row line : ℕ) → Check ℕ
line_check row line = record { answer = 3; applies = not (ltb line (line_count row)) }

-- a repair: number 2
abbrev pub repair_numbers : (last day : ℕ) → List (Check ℕ)
repair_numbers last day = day_check last day ∷ []

module _ (row last : ℕ) (v : Values) (day line : ℕ) where
  -- a sheet: numbers 2 to 7
  unfoldable pub sheet_numbers : List ℤ → List (Check ℕ)
  sheet_numbers numbers =
      day_check last day ∷ line_check row line
      ∷ sheet_checks (limits_of row line) v.intercept (samples row) numbers

  -- a market test: numbers 2, 3, 8, 23, 24, 9 to 12, 25, 26, 13 and 14
  unfoldable pub market_numbers : Scan → Asked → Basis → List (Check ℕ)
  market_numbers scan asked basis = day_check last day ∷ line_check row line ∷ market_checks row v line scan asked basis day

module _ (row : ℕ) (v : Values) (day line : ℕ) (numbers : List ℤ) where
  -- S and N of an accepted sheet
  unfoldable pub sheet_set : Set
  sheet_set = set_of (limits_of row line) v.intercept numbers

  -- what an accepted sheet does to its line
  unfoldable pub sheet_verdict : Verdict
  unfolding sheet_set
  sheet_verdict = verdict_of (limits_of row line) v day sheet_set

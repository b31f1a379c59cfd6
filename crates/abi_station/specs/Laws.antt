-- What is promised of the exported functions beside their contracts.
use Rattle.std.specs.Prelude.{◌≡◌, ℕ, ℤ, length}
use mathlib.Core.List.{List, Permᴰ}
use Rattle.station_rules.specs.Sheets.{samples_of, numbers_of}
use Rattle.station_rules.specs.declared.Sample.{Sample}
use Rattle.abi_station.specs.StationAnswers.{sheet_call}

-- grain_sheet: the same samples in another order get the same answer and leave the same in every place, whatever stood there
pub record OrderFreeCall : Type 0 where
  pub samples : (words : List ℤ) (day line : ℕ) (ss ts : List Sample) → Permᴰ ss ts
      → sheet_call words day line (numbers_of ss) ≡ sheet_call words day line (numbers_of ts)
  -- numbers that end within a sample too
  pub numbers : (words : List ℤ) (day line : ℕ) (l k : List ℤ) → length l ≡ length k → Permᴰ (samples_of l) (samples_of k)
      → sheet_call words day line l ≡ sheet_call words day line k

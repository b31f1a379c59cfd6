-- What an opening and a repair leave, by their tests.
use Rattle.std.specs.Prelude.{Result, Ok, Err, Option, None, Some}
use mathlib.Core.Path.{◌≡◌, refl, ap, ◌∙◌}
use mathlib.Core.Bool.{true, false}
use mathlib.Core.List.{List}
use Prim.Native.Nat.{ℕ}
use lib.IntN.{ℤ}
use Rattle.station_rules.specs.Rows.{row_exists}
use Rattle.station_rules.specs.Refusals.{first_number}
use Rattle.station_rules.specs.Stations.{open_of, repair_station, repair_result, repair_of}
use Rattle.station_rules.specs.Places.{station_in}
use Rattle.station_rules.specs.InPlace.{Left, opened_station, open_in, repair_places, repair_left, repair_in}
use Rattle.station_refusals.specs.declared.Refusal.TheVariants.{UnknownRow}
use Rattle.station_refusals.specs.declared.Refusal.{Refusal}
use Rattle.station_entry.specs.Entries.{day_checks, refused_or}

module _ (row : ℕ) where
  pub open_none : row_exists row ≡ false → ◌≡◌ {A = Left (Result Unit Refusal)} (record { answer = Err UnknownRow; places = opened_station 0 }) (open_in row)
  unfolding open_in open_of
  open_none h = simp h

  pub open_some : row_exists row ≡ true → ◌≡◌ {A = Left (Result Unit Refusal)} (record { answer = Ok tt; places = opened_station row }) (open_in row)
  unfolding open_in open_of
  open_some h = simp h

-- what a repair leaves, by what numbers 0 and 2 come to
abbrev pub repair_by : List ℤ → ℕ → Result Unit Refusal → Left (Result Unit Refusal)
repair_by words day (Ok tt) = record { answer = Ok tt; places = repair_places words day }
repair_by words day (Err r) = record { answer = Err r; places = words }

pub repair_by_lem : (words : List ℤ) (day : ℕ) (o : Result Unit Refusal) → o ≡ refused_or tt (first_number (day_checks (station_in words) day))
    → repair_by words day o ≡ repair_in words day
unfolding repair_in repair_of
repair_by_lem words day o e = ap (repair_by words day) e ∙ go (first_number (day_checks (station_in words) day))
  where
    go : (o : Option ℕ) → let s = station_in words in
        let answer = (repair_result o s (repair_station s day)).answer in
        ◌≡◌ {A = Left (Result Unit Refusal)} (repair_by words day (refused_or tt o)) (record { answer = answer; places = repair_left answer words (repair_places words day) })
    go None = refl
    go (Some number) = refl

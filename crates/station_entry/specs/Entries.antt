-- For the proofs of the code, no rule: the numbers that several calls begin with, and what is left once none applies (docs/SPECIFICATION.md, "Refused calls").
use Rattle.std.specs.Prelude.{Result, Ok, Err, Option, None, Some, ℕ, List, [], ◌∷◌}
use Rattle.whole.specs.Lists.{Check}
use Rattle.station_rules.specs.Refusals.{refusal_of}
use Rattle.station_rules.specs.Soundness.{sound_check}
use Rattle.station_rules.specs.Judging.{day_check, line_check}
use Rattle.station_rules.specs.Stations.{line_of}
use Rattle.station_rules.specs.Held.{Station}
use Rattle.station_rules.specs.declared.Line.{Line}
use Rattle.station_refusals.specs.declared.Refusal.{Refusal}
use Rattle.station_entry.specs.declared.Entry.{Entry}

-- numbers 0 and 2
abbrev pub day_checks : Station → ℕ → List (Check ℕ)
day_checks s day = sound_check s ∷ day_check s.day day ∷ []

-- numbers 0, 2 and 3
abbrev pub line_checks : Station → (day line : ℕ) → List (Check ℕ)
line_checks s day line = sound_check s ∷ day_check s.day day ∷ line_check s.row line ∷ []

-- the refusal of the number that applies, and this where none does
abbrev pub refused_or : {A : Type 0} → A → Option ℕ → Result A Refusal
refused_or x None = Ok x
refused_or x (Some number) = Err (refusal_of number)

-- what a sheet or a market test stands on: the row and the line
pub record Footing : Type 0 where
  pub row : ℕ
  pub line : Line

-- of a station
abbrev pub footing : Station → ℕ → Footing
footing s line = record { row = s.row; line = line_of s line }

-- of an entry
abbrev pub entered : Result Entry Refusal → Result Footing Refusal
entered (Ok e) = Ok (record { row = e.row; line = e.sound.line })
entered (Err r) = Err r

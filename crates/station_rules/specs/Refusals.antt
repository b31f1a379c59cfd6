-- docs/SPECIFICATION.md, "Refused calls": which number is answered.
use Rattle.std.specs.Prelude.{ℕ, List}
use Rattle.std.specs.Prelude.{Option, None, Some}
use Rattle.whole.specs.Lists.{Check, first_applying}
pub use Rattle.station_refusals.specs.Refusals.{number_of, refusals, with_number, refusal_of}

-- the first number that applies is answered; checks stand in the order of their numbers, but 23 and 24 between 8 and 9, 25 and 26 between 12 and 13
abbrev pub first_number : List (Check ℕ) → Option ℕ
first_number = first_applying None Some

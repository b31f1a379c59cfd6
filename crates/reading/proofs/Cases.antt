-- Each worked reading is what the definitions give.
use mathlib.Core.Path.{◌≡◌, refl}
use mathlib.Core.List.{map}
use lib.Ieee.{binary32, of_bits}
use Rattle.reading.specs.Reading.{answer_of, said_by}
use Rattle.reading.specs.Cases.{Case, worked}

pub cases_hold : map (λ (c : Case). said_by (answer_of (of_bits binary32 c.bits))) worked ≡ map (λ (c : Case). c.says) worked
unfolding worked answer_of of_bits
cases_hold = refl

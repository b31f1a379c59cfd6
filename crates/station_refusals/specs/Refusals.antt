-- docs/SPECIFICATION.md, "Refused calls": the number of each refusal of a station's calls.
use Rattle.std.specs.Prelude.{ℕ, cond, List, [], ◌∷◌, eqb}
use Rattle.station_refusals.specs.declared.Refusal.{Refusal}
use Rattle.station_refusals.specs.declared.Refusal.TheVariants.{UnsoundStation, UnknownRow, BadDay, UnknownLine, SheetSize, SheetNumber, ThirdReading, AgainPair, WrongScan, BadFloat, BadBasis, BadValue, NewLine, OldSet, TooHigh, GlutenClass, GlutenBasis, AdjustedLine, ShutLine}

-- each refusal's number
abbrev pub number_of : Refusal → ℕ
number_of UnsoundStation = 0
number_of UnknownRow = 1
number_of BadDay = 2
number_of UnknownLine = 3
number_of SheetSize = 4
number_of SheetNumber = 5
number_of ThirdReading = 6
number_of AgainPair = 7
number_of WrongScan = 8
number_of BadFloat = 9
number_of BadBasis = 10
number_of BadValue = 11
number_of NewLine = 12
number_of OldSet = 13
number_of TooHigh = 14
number_of GlutenClass = 23
number_of GlutenBasis = 24
number_of AdjustedLine = 25
number_of ShutLine = 26

-- all refusals
abbrev pub refusals : List Refusal
refusals =
    UnsoundStation ∷ UnknownRow ∷ BadDay ∷ UnknownLine ∷ SheetSize ∷ SheetNumber ∷ ThirdReading ∷ AgainPair
    ∷ WrongScan ∷ BadFloat ∷ BadBasis ∷ BadValue ∷ NewLine ∷ OldSet ∷ TooHigh ∷ GlutenClass ∷ GlutenBasis
    ∷ AdjustedLine ∷ ShutLine ∷ []

-- the first refusal of a list that has this number; every number of a check has one
abbrev pub with_number : ℕ → List Refusal → Refusal
with_number number [] = UnsoundStation
with_number number (r ∷ rs) = cond (eqb (number_of r) number) r (with_number number rs)

-- the refusal of a number
abbrev pub refusal_of : ℕ → Refusal
refusal_of number = with_number number refusals

-- What the exported station functions are asked, hand back and leave: the kinds of scan, of what is asked and of basis by their numbers, the struct that is given and every
-- place; all values are 0 where refused.
use Rattle.std.specs.Prelude.{Result, Ok, Err, Some, None, Option, ℕ, zero, suc, List, ℤ, pos, negsuc, Float}
use Rattle.abi_answers.specs.Given.{accepted, refused}
use Rattle.abi_answers.specs.declared.GrainAnswer.{GrainAnswer}
use Rattle.station_rules.specs.Refusals.{number_of}
use Rattle.station_rules.specs.InPlace.{Left, open_in, sheet_in, repair_in, market_in}
use Rattle.station_rules.specs.Places.{station_in}
use Rattle.station_rules.specs.Stations.{check_of}
use Rattle.station_rules.specs.declared.Scan.{Scan}
use Rattle.station_rules.specs.declared.WheatClass.{WheatClass}
use Rattle.station_rules.specs.declared.Asked.{Asked}
use Rattle.station_rules.specs.declared.Basis.{Basis}
use Rattle.station_refusals.specs.declared.Refusal.TheVariants.{BadFloat}
use Rattle.abi_station.specs.declared.GrainValue.{GrainValue}
use Rattle.abi_station.specs.declared.GrainOutcome.{GrainOutcome}
use Rattle.abi_station.specs.declared.GrainCertificate.{GrainCertificate}
use Rattle.station_rules.specs.declared.Outcome.{Outcome}
use Rattle.station_rules.specs.declared.Certificate.{Certificate}
use Rattle.station_refusals.specs.declared.Refusal.{Refusal}

-- ---- what is asked

-- kind 0 is wheat, 1 is corn, 3 wheat with gluten, any other a fault (number 8)
unfoldable pub scan_of : ℕ → Float → Float → Float → Scan
scan_of zero first second third = Scan.Wheat first
scan_of (suc zero) first second third = Scan.Corn (record { protein = first; oil = second; starch = third })
scan_of (suc (suc zero)) first second third = Scan.Fault 0
scan_of (suc (suc (suc zero))) first second third = Scan.WheatGluten (record { protein = first; gluten = second })
scan_of (suc (suc (suc (suc kind)))) first second third = Scan.Fault 0

-- kind 0 is the line's own figure, 1 gluten of Hard Red Winter, 2 of Hard Red Spring, any other gluten of another class (number 23)
unfoldable pub asked_of : ℕ → Asked
asked_of zero = Asked.LineFigure
asked_of (suc zero) = Asked.Gluten WheatClass.HardRedWinter
asked_of (suc (suc zero)) = Asked.Gluten WheatClass.HardRedSpring
asked_of (suc (suc (suc kind))) = Asked.Gluten WheatClass.Other

-- kind 0 is standard, 1 dry, 2 specified, 3 as-is; any other is a specified basis of −1, which number 10 refuses, or 24 where gluten is asked
unfoldable pub basis_for : ℕ → ℤ → Basis
basis_for zero b = Basis.Standard
basis_for (suc zero) b = Basis.Dry
basis_for (suc (suc zero)) b = Basis.Specified b
basis_for (suc (suc (suc zero))) b = Basis.AsIs b
basis_for (suc (suc (suc (suc kind)))) b = Basis.Specified (negsuc 0)

-- ---- a reading

unfoldable pub reading_given : Option ℕ → GrainValue
reading_given (Some n) = record { accepted = 1; number = 0; hundredths = n }
reading_given None = record { accepted = 0; number = number_of BadFloat; hundredths = 0 }

-- ---- an opening, a repair and a check

abbrev pub open_given : Result Unit Refusal → GrainAnswer
open_given (Ok tt) = accepted
open_given (Err r) = refused (number_of r)

unfoldable pub open_call : ℕ → Left GrainAnswer
open_call row = record { answer = open_given (open_in row).answer; places = (open_in row).places }

abbrev pub repair_given : Result Unit Refusal → GrainAnswer
repair_given (Ok tt) = accepted
repair_given (Err r) = refused (number_of r)

unfoldable pub repair_call : List ℤ → ℕ → Left GrainAnswer
repair_call words day = record { answer = repair_given (repair_in words day).answer; places = (repair_in words day).places }

abbrev pub check_given : Result Unit Refusal → GrainAnswer
check_given (Ok tt) = accepted
check_given (Err r) = refused (number_of r)

unfoldable pub station_check_call : List ℤ → GrainAnswer
station_check_call words = check_given (check_of (station_in words))

-- ---- a sheet: S, N, the phase after it, the intercept's change

abbrev pub sheet_given : Result Outcome Refusal → GrainOutcome
sheet_given (Ok o) = record { accepted = 1; number = 0; sum = o.sum; count = o.count; phase = o.phase; change = o.change }
sheet_given (Err r) = record { accepted = 0; number = number_of r; sum = pos 0; count = 0; phase = 0; change = pos 0 }

unfoldable pub sheet_call : List ℤ → ℕ → ℕ → List ℤ → Left GrainOutcome
sheet_call words day line numbers =
    let left = sheet_in words day line numbers in
    record { answer = sheet_given left.answer; places = left.places }

-- ---- a market test: the newest set's day, the intercept, B, the figure of h, the figure at B

abbrev pub market_given : Result Certificate Refusal → GrainCertificate
market_given (Ok c) =
    record { accepted = 1; number = 0; day = c.day; intercept = c.intercept; basis = c.basis; figure = c.figure; converted = c.converted }
market_given (Err r) =
    record { accepted = 0; number = number_of r; day = 0; intercept = pos 0; basis = pos 0; figure = 0; converted = 0 }

unfoldable pub market_call : List ℤ → ℕ → ℕ → Scan → Asked → Basis → Left GrainCertificate
market_call words day line scan asked basis =
    let left = market_in words day line scan asked basis in
    record { answer = market_given left.answer; places = left.places }

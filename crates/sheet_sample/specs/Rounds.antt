-- For the proofs of the code, no rule: a sample in an again round (docs/SPECIFICATION.md, "The reference sheet", rule 3).
use Rattle.std.specs.Prelude.{true, ℤ}
use Rattle.station_rules.specs.Sheets.{wrong_again, final_deviation}
use Rattle.station_rules.specs.declared.Sample.{Sample}
use Rattle.station_rules.specs.declared.Limits.{Limits}
use Rattle.sheet_sample.specs.declared.Again.{Again}

-- number 7, and its deviation, whether or not 7 applies
unfoldable pub in_round : Limits → ℤ → Sample → Again
in_round limits intercept s =
    record { wrong = wrong_again limits intercept true s; deviation = final_deviation limits intercept true s }

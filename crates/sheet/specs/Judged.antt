-- For the proofs of the code, no rule: what a sheet's numbers come to (docs/SPECIFICATION.md, "Refused calls", numbers 4 to 7).
use Rattle.std.specs.Prelude.{Result, Ok, Err, Bool, true, cond, List, ℕ, ◌*◌, ℤ}
use Rattle.std.specs.Prelude.{Option, None, Some}
use Rattle.whole.specs.Lists.{any}
use Rattle.station_rules.specs.Refusals.{first_number, refusal_of}
use Rattle.station_rules.specs.Sheets.{wrong_again, set_of, sheet_checks}
use Rattle.station_rules.specs.declared.Sample.{Sample}
use Rattle.station_rules.specs.declared.Limits.{Limits}
use Rattle.station_rules.specs.declared.Set.{Set}
use Rattle.station_refusals.specs.declared.Refusal.TheVariants.{AgainPair}
use Rattle.station_refusals.specs.declared.Refusal.{Refusal}
use Rattle.sheet_again.specs.Tallies.{totals}

abbrev pub judged_by : Option ℕ → Set → Result Set Refusal
judged_by None set = Ok set
judged_by (Some number) set = Err (refusal_of number)

-- the first of numbers 4 to 7 that applies, else S and N
unfoldable pub judged_of : Limits → ℤ → ℕ → List ℤ → Result Set Refusal
judged_of limits intercept n numbers =
    judged_by (first_number (sheet_checks limits intercept n numbers)) (set_of limits intercept numbers)

-- number 7, S and N without an again round, of n samples
abbrev pub without_round : (again : Bool) → ℤ → ℕ → Result Set Refusal
without_round again sum n = cond again (Err AgainPair) (Ok (record { sum = sum; count = 2 * n }))

-- number 7, S and N in an again round
unfoldable pub in_round : Limits → ℤ → List Sample → Result Set Refusal
in_round limits intercept ss =
    cond (any (wrong_again limits intercept true) ss) (Err AgainPair) (Ok (totals limits intercept ss))

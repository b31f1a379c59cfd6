-- For the proofs of the code, no rule: numbers 12, 25, 26, 13 and 14, and the certificate (docs/SPECIFICATION.md, "Market test and moisture basis").
use Rattle.std.specs.Prelude.{Result, Ok, Err, List, [], ◌∷◌, ℕ, ◌+◌, ltb, ℤ, nat_abs}
use Rattle.std.specs.Prelude.{Option, None, Some}
use Rattle.whole.specs.Lists.{Check}
use Rattle.station_rules.specs.Refusals.{first_number, refusal_of}
use Rattle.station_rules.specs.Lines.{LinePhase, new_line, open_line, adjusted_line, shut_line, Values}
use Rattle.station_rules.specs.Markets.{is_new, is_adjusted, is_shut, newest_day, too_high, tenths, tenths_at}
use Rattle.station_refusals.specs.declared.Refusal.{Refusal}
use Rattle.station_refusals.specs.declared.Refusal.TheVariants.{NewLine, AdjustedLine, ShutLine}
use Rattle.station_rules.specs.declared.Certificate.{Certificate}

abbrev pub answer_by : Option ℕ → Certificate → Result Certificate Refusal
answer_by None c = Ok c
answer_by (Some number) c = Err (refusal_of number)

-- the certificate by A, the line's values, the intercept, B and h
abbrev pub certificate_by : ℕ → Values → ℤ → ℤ → ℤ → Certificate
certificate_by a v i b h =
    record { day = newest_day v.newest; intercept = i; basis = b; figure = tenths (nat_abs h); converted = tenths_at a (nat_abs b) (nat_abs h) }

-- numbers 12, 25 and 26, by a line's phase: none where it is open
abbrev pub opened : LinePhase → Result Unit Refusal
opened new_line = Err NewLine
opened open_line = Ok tt
opened adjusted_line = Err AdjustedLine
opened shut_line = Err ShutLine

-- numbers 12, 25, 26, 13 and 14, by A, the line's values, the day, B and h
abbrev pub last_checks : ℕ → Values → ℕ → ℤ → ℤ → List (Check ℕ)
last_checks a v day b h =
    record { answer = 12; applies = is_new v.phase }
    ∷ record { answer = 25; applies = is_adjusted v.phase }
    ∷ record { answer = 26; applies = is_shut v.phase }
    ∷ record { answer = 13; applies = ltb (newest_day v.newest + 7) day }
    ∷ record { answer = 14; applies = too_high a (nat_abs b) (nat_abs h) }
    ∷ []

unfoldable pub certified_of : ℕ → Values → ℕ → ℤ → ℤ → ℤ → Result Certificate Refusal
certified_of a v day i b h = answer_by (first_number (last_checks a v day b h)) (certificate_by a v i b h)

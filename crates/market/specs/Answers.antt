-- For the proofs of the code, no rule: the answer by the numbers that are left to judge (docs/SPECIFICATION.md, "Market test and moisture basis", "Wet gluten").
use Rattle.std.specs.Prelude.{Result, Err, Option, Some, None, cond, ◌∷◌, ℕ, pos, ◌+ℤ◌}
use Rattle.reading.specs.Reading.{answer_of}
use Rattle.station_rules.specs.Refusals.{first_number}
use Rattle.station_rules.specs.Lines.{Values}
use Rattle.station_rules.specs.Markets.{basis_of, basis_from, asked_intercept, other_class, other_basis, within, market_checks, certificate_of}
use Rattle.station_rules.specs.Judging.{market_numbers}
use Rattle.station_rules.specs.Soundness.{sound_check}
use Rattle.station_rules.specs.Stations.{values_of}
use Rattle.station_rules.specs.declared.Scan.{Scan}
use Rattle.station_rules.specs.declared.Asked.{Asked}
use Rattle.station_rules.specs.declared.Basis.{Basis}
use Rattle.station_rules.specs.Held.{Station}
use Rattle.market_scan.specs.Scans.{picked_of}
use Rattle.market_certificate.specs.Certified.{answer_by, certified_of}
use Rattle.station_rules.specs.declared.Certificate.{Certificate}
use Rattle.station_refusals.specs.declared.Refusal.{Refusal}
use Rattle.station_refusals.specs.declared.Refusal.TheVariants.{WrongScan, BadFloat, BadBasis, BadValue, GlutenClass, GlutenBasis}

-- what is made of what was found, or a refusal where nothing was
abbrev pub if_found : {A : Type 0} → Option A → Refusal → (A → Result Certificate Refusal) → Result Certificate Refusal
if_found None refusal rest = Err refusal
if_found (Some x) refusal rest = rest x

-- numbers 8, 23, 24, 9 to 12, 25, 26, 13 and 14
unfoldable pub tested_of : ℕ → Values → ℕ → ℕ → Scan → Asked → Basis → Result Certificate Refusal
tested_of row v day line scan asked basis = answer_by (first_number (market_checks row v line scan asked basis day)) (certificate_of row v line scan asked basis)

-- the same, number by number in the order of the code
unfoldable pub judged_of : ℕ → Values → ℕ → ℕ → Scan → Asked → Basis → Result Certificate Refusal
judged_of row v day line scan asked basis =
    let a = basis_from row asked in
    let i = asked_intercept asked v.intercept in
    let b = basis_of a basis in
    if_found (picked_of row scan asked line) WrongScan
    (λ x.
    cond (other_class asked) (Err GlutenClass)
    (cond (other_basis asked basis) (Err GlutenBasis)
    (if_found (answer_of x) BadFloat
    (λ n.
    cond (within 0 5000 b)
    (cond (within 0 10000 (pos n +ℤ i)) (certified_of a v day i b (pos n +ℤ i)) (Err BadValue))
    (Err BadBasis)))))

-- all numbers
unfoldable pub answered_of : Station → ℕ → ℕ → Scan → Asked → Basis → Result Certificate Refusal
answered_of s day line scan asked basis =
    answer_by (first_number (sound_check s ∷ market_numbers s.row s.day (values_of s line) day line scan asked basis))
    (certificate_of s.row (values_of s line) line scan asked basis)

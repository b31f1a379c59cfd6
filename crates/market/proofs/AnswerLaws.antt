-- Which answer a market test gets, by its tests in the order of their numbers.
use mathlib.Core.Path.{◌≡◌, refl, sym, ap, ◌∙◌}
use mathlib.Core.Bool.{false, cond}
use mathlib.Core.List.{List, ◌∷◌}
use Rattle.std.specs.Prelude.{Result, Ok, Err, Option, None, Some}
use Rattle.std.proofs.Common.{IsErrAnd}
use Prim.Native.Nat.{ℕ, ◌≤◌}
use native.Mathlib.Omega.{arith}
use lib.Ieee.{Float}
use lib.IntN.{ℤ, pos, ◌+ℤ◌}
use lib.ListN.{length}
use Rattle.whole.specs.Lists.{Check}
use Rattle.reading.specs.Reading.{answer_of}
use Rattle.station_rules.specs.Lines.{Values}
use Rattle.station_rules.specs.Refusals.{first_number}
use Rattle.station_rules.specs.Markets.{basis_of, basis_from, asked_intercept, other_class, other_basis, within, market_checks, certificate_of}
use Rattle.station_rules.specs.Judging.{line_check, market_numbers}
use Rattle.station_rules.specs.Soundness.{sound_check}
use Rattle.station_rules.specs.Stations.{values_of, market_station, market_result, market_of}
use Rattle.station_rules.specs.Places.{station_in}
use Rattle.station_rules.specs.InPlace.{Left, with_day, market_left, market_in}
use Rattle.station_refusals.specs.declared.Refusal.{Refusal}
use Rattle.station_refusals.specs.declared.Refusal.TheVariants.{BadFloat, BadBasis, BadValue}
use Rattle.station_rules.specs.declared.Scan.{Scan}
use Rattle.station_rules.specs.declared.Asked.{Asked}
use Rattle.station_rules.specs.declared.Basis.{Basis}
use Rattle.station_rules.specs.Held.{Station}
use Rattle.station_rules.specs.declared.Certificate.{Certificate}
use Rattle.market_scan.specs.Scans.{picked_of}
use Rattle.market_certificate.specs.Certified.{answer_by, certified_of}
use Rattle.station_entry.specs.Entries.{day_checks, line_checks, refused_or, footing}
use Rattle.station_entry.proofs.EntryLaws.{refused_by, none_before, none_front, some_before, serves}
use Rattle.market.specs.Answers.{judged_of, tested_of, answered_of}
use Rattle.market.proofs.JudgeLaws.{judged}

-- ---- number 9, where none of 8, 23 and 24 applies

-- the answer to a reading n of what is asked: numbers 10 to 12, 25, 26, 13 and 14
abbrev pub read_of : ℕ → Values → (day n : ℕ) → Asked → Basis → Result Certificate Refusal
read_of row v day n asked basis =
    let a = basis_from row asked in
    let i = asked_intercept asked v.intercept in
    let b = basis_of a basis in
    let h = pos n +ℤ i in
    cond (within 0 5000 b) (cond (within 0 10000 h) (certified_of a v day i b h) (Err BadValue)) (Err BadBasis)

module _ (row : ℕ) (v : Values) (day line : ℕ) (scan : Scan) (asked : Asked) (basis : Basis)
    (x : Float) (picked : picked_of row scan asked line ≡ Some x)
    (class : other_class asked ≡ false) (standard : other_basis asked basis ≡ false) where
  -- the float is refused
  pub float_bad : answer_of x ≡ None → Err BadFloat ≡ tested_of row v day line scan asked basis
  unfolding judged_of
  float_bad e = simp (judged, picked, class, standard, e)

  -- it is read
  pub float_read : (n : ℕ) → answer_of x ≡ Some n
      → read_of row v day n asked basis ≡ tested_of row v day line scan asked basis
  unfolding judged_of
  float_read n e = simp (judged, picked, class, standard, e)

-- ---- numbers 0, 2 and 3

module _ (s : Station) (day line : ℕ) (scan : Scan) (asked : Asked) (basis : Basis) where
  -- the numbers that follow
  abbrev more : List (Check ℕ)
  more = market_checks s.row (values_of s line) line scan asked basis day

  left : Certificate
  left = certificate_of s.row (values_of s line) line scan asked basis

  pub answer_refused : (r : Refusal) → Err r ≡ refused_or (footing s line) (first_number (line_checks s day line)) → Err r ≡ answered_of s day line scan asked basis
  unfolding answered_of market_numbers left
  answer_refused r e =
      let p = refused_by (footing s line) (first_number (line_checks s day line)) e in
      ap Err p.2 ∙ sym (ap (λ (o : Option ℕ). answer_by o left) (some_before more (line_checks s day line) p.0 p.1))

  pub answer_tested : first_number (line_checks s day line) ≡ None → tested_of s.row (values_of s line) day line scan asked basis ≡ answered_of s day line scan asked basis
  unfolding answered_of market_numbers tested_of left
  answer_tested none = sym (ap (λ (o : Option ℕ). answer_by o left) (none_before more (line_checks s day line) none))

  -- ---- the call

  pub answer_is : answered_of s day line scan asked basis ≡ (market_of s day line scan asked basis).answer
  unfolding answered_of market_of
  answer_is = go (first_number (sound_check s ∷ market_numbers s.row s.day (values_of s line) day line scan asked basis)) (certificate_of s.row (values_of s line) line scan asked basis)
    where
      go : (o : Option ℕ) (c : Certificate) → answer_by o c ≡ (market_result o s (market_station s day) c).answer
      go None c = refl
      go (Some number) c = refl

-- a certificate is answered where no number applies
certified_none : (o : Option ℕ) (made : Certificate) {c : Certificate} → Ok c ≡ answer_by o made → o ≡ None
certified_none None made e = refl
certified_none (Some number) made e = let z : ◌≡◌ {A = ℕ} 0 1 = cc in absurd (omega arith)

-- what the call leaves, by its answer
pub left_by : (words : List ℤ) (day line : ℕ) (scan : Scan) (asked : Asked) (basis : Basis) (a : (Result Certificate Refusal)) → a ≡ answered_of (station_in words) day line scan asked basis
    → ◌≡◌ {A = Left (Result Certificate Refusal)} (record { answer = a; places = market_left a words (with_day words day) }) (market_in words day line scan asked basis)
unfolding market_in
left_by words day line scan asked basis a e =
    let q = e ∙ answer_is (station_in words) day line scan asked basis in
    λ i. record { answer = q i; places = market_left (q i) words (with_day words day) }

-- the same, of an answer that is known to be a certificate or a refusal, and of what was written
module _ (words : List ℤ) (day line : ℕ) (scan : Scan) (asked : Asked) (basis : Basis) (a : (Result Certificate Refusal)) where
  pub certified_first : (c : Certificate) → a ≡ Ok c → a ≡ answered_of (station_in words) day line scan asked basis → (length words ≡ 68) × (day ≤ 99999)
  unfolding answered_of market_numbers
  certified_first c is e =
      let s = station_in words in
      let behind = line_check s.row line ∷ more s day line scan asked basis in
      let known = serves words day (none_front behind (day_checks s day) (certified_none _ _ (sym is ∙ e))) in
      (known.full, known.today)

  pub certified_left : (c : Certificate) (new : List ℤ) → a ≡ Ok c → a ≡ answered_of (station_in words) day line scan asked basis → new ≡ with_day words day
      → ◌≡◌ {A = Left (Result Certificate Refusal)} (record { answer = Ok c; places = new }) (market_in words day line scan asked basis)
  certified_left c new is e w = (λ i. record { answer = Ok c; places = w i }) ∙ left_by words day line scan asked basis (Ok c) (sym is ∙ e)

  pub refused_left : (r : Refusal) (result : Result Certificate Refusal) → IsErrAnd result (λ (y : Refusal). y ≡ r) → a ≡ Err r
      → a ≡ answered_of (station_in words) day line scan asked basis
      → ◌≡◌ {A = Left (Result Certificate Refusal)} (record { answer = result; places = words }) (market_in words day line scan asked basis)
  refused_left r (Ok c) h is e = absurd h
  refused_left r (Err y) h is e = (λ i. record { answer = Err (h i); places = words }) ∙ left_by words day line scan asked basis (Err r) (sym is ∙ e)

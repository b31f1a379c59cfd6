-- Wet gluten: its intercept, its certificate, the numbers that never answer it, the floats that are not looked at, and its cases.
use mathlib.Core.Path.{◌≡◌, refl, sym, ◌∙◌, ap, subst}
use mathlib.Core.Bool.{Bool, true, false, not, ◌||◌, ◌&&◌, true≢false}
use mathlib.Core.List.{List, ◌∷◌, map}
use Rattle.std.specs.Prelude.{Ok, Option, None, Some}
use Prim.Native.Nat.{ℕ, zero, suc, ◌*◌, ◌-◌, ◌≤◌}
use native.Mathlib.Omega.{arith}
use lib.Dec.{T, eqb}
use lib.Ieee.{Float, of_bits}
use lib.IntN.{ℤ, pos, nat_abs, ◌-ℤ◌, ◌*ℤ◌}
use lib.Signed.{le_z}
use Rattle.std.proofs.lemmas.Bool.{not-false, ltb-true, and_parts}
use Rattle.std.proofs.lemmas.Int.{ints, by_lt_z}
use Rattle.whole.specs.Lists.{Check}
use Rattle.whole.specs.Rounding.{rounded_away, nearest_tenth}
use Rattle.whole.proofs.RoundLaws.{rounded_below, rounded_above}
use Rattle.reading.specs.Reading.{units_of, in_range, reading_of}
use Rattle.station_rules.specs.Rows.{row_of, samples, standard_basis, line_count}
use Rattle.station_rules.specs.Refusals.{first_number}
use Rattle.station_rules.specs.Readings.{scan_fits, line_float, brings_gluten, gluten_float, scan_serves, asked_float}
use Rattle.station_rules.specs.Lines.{Values}
use Rattle.station_rules.specs.Soundness.{sound_line, sound, sound_check}
use Rattle.station_rules.specs.Markets.{basis_of, basis_from, derived_intercept, asked_intercept, corrected_value, other_basis, newest_day, within, too_high, tenths, market_checks, certificate_of, other_class, tenths_at}
use Rattle.station_rules.specs.Judging.{market_numbers}
use Rattle.station_rules.specs.Stations.{values_of, market_station, market_result, market_of}
use Rattle.station_rules.specs.Replies.{refused_by, market_reply}
use Rattle.station_rules.specs.Calls.{market_call, station_reply}
use Rattle.station_rules.specs.Books.{or_refused}
use Rattle.station_rules.specs.Laws.{DerivedNearest, gluten_certificate, GlutenCertificate, GlutenNumbers, OnlyAsked}
use Rattle.station_rules.specs.Cases.{Case, gluten_cases, GlutenReached}
use Rattle.station_rules.specs.Held.{Station}
use Rattle.station_rules.specs.declared.Scan.{Scan}
use Rattle.station_rules.specs.declared.Scan.TheVariants.{Wheat, WheatGluten}
use Rattle.station_rules.specs.declared.WheatSet.{WheatSet}
use Rattle.station_rules.specs.declared.WheatClass.{WheatClass}
use Rattle.station_rules.specs.declared.Asked.{Asked}
use Rattle.station_rules.specs.declared.Asked.TheVariants.{LineFigure, Gluten}
use Rattle.station_rules.specs.declared.Basis.{Basis}
use Rattle.station_rules.specs.declared.Basis.TheVariants.{Standard, Dry, Specified, AsIs}
use Rattle.station_rules.proofs.Checks.{none_applies, Passes, first_passes}
use Rattle.station_rules.proofs.Conditions.{basis_from_lem}
use Rattle.station_rules.proofs.Figures.{same_tenths, basis_room}
use Rattle.station_rules.proofs.Agreement.{checks_of, granted_of, reply_is}

-- ---- the intercept

-- z in thousandths, rounded
rounded_within : (z : ℤ) → 2 * nat_abs (pos 1000 *ℤ rounded_away z 1000 -ℤ z) ≤ 1000
rounded_within z =
    by_lt_z z (pos 0)
    (λ h. let e = rounded_below z 1000 h in omega (arith, ints))
    (λ h. let e = rounded_above z 1000 h in omega (arith, ints))

pub derived_nearest : (i : ℤ) → DerivedNearest i
unfolding derived_intercept
derived_nearest i =
    let w = rounded_within (i *ℤ pos 3029) in
    record { nearest = omega (arith, ints, w); small = λ h. omega (arith, ints, w, h) }

-- ---- the certificate

at_standard : (row : ℕ) (v : Values) (line : ℕ) (scan : Scan) (class : WheatClass)
    → certificate_of row v line scan (Gluten class) Standard ≡ gluten_certificate v line scan class
unfolding certificate_of basis_from asked_intercept
at_standard row v line scan class =
    let h = nat_abs (corrected_value v scan (Gluten class) line) in
    λ i. record {
      day = newest_day v.newest;
      intercept = derived_intercept v.intercept;
      basis = pos 1400;
      figure = tenths h;
      converted = same_tenths 1400 h (basis_room row (Gluten class)) i;
    }

-- where no number applies, 24 doesn't, so the basis is the standard one
pub gluten_certificate_lem : GlutenCertificate
unfolding market_of market_numbers market_checks
gluten_certificate_lem s day line scan class basis c e = go (first_number checks) refl e
  where
    v : Values
    v = values_of s line

    checks : List (Check ℕ)
    checks = sound_check s ∷ market_numbers s.row s.day v day line scan (Gluten class) basis

    go : (o : Option ℕ) → first_number checks ≡ o
        → (market_result o s (market_station s day) (certificate_of s.row v line scan (Gluten class) basis)).answer ≡ Ok c
        → c ≡ gluten_certificate v line scan class
    go None q e =
        let standard = basis_from_lem (Gluten class) basis (none_applies checks q).1.1.1.1.1.0 class refl in
        let same : c ≡ certificate_of s.row v line scan (Gluten class) basis = cc in
        same ∙ ap (certificate_of s.row v line scan (Gluten class)) standard ∙ at_standard s.row v line scan class
    go (Some n) q e = grind arith

-- ---- numbers 10 and 14

-- another number than 10 and 14
abbrev neither : ℕ → Bool
neither n = not (eqb n 10 || eqb n 14)

-- where 24 doesn't apply B is 1400, within its bounds
basis_right : (class : WheatClass) (basis : Basis) → other_basis (Gluten class) basis ≡ false → not (within 0 5000 (basis_of 1400 basis)) ≡ true → ⊥
unfolding other_basis
basis_right class basis e f = grind arith

-- and h, where 11 doesn't apply, is not converted
value_right : (class : WheatClass) (basis : Basis) (h : ℤ) → other_basis (Gluten class) basis ≡ false → not (within 0 10000 h) ≡ false
    → too_high 1400 (nat_abs (basis_of 1400 basis)) (nat_abs h) ≡ true → ⊥
unfolding other_basis too_high
value_right class Standard h e f g =
    let w = and_parts (le_z (pos 0) h) (le_z h (pos 10000)) (not-false (within 0 10000 h) f) in
    let over = ltb-true (10000 * (10000 - 1400)) (nat_abs h * (10000 - 1400)) g in
    omega (arith, ints, w.1, over)
value_right class Dry h e f g = true≢false e
value_right class (Specified b) h e f g = true≢false e
value_right class (AsIs moisture) h e f g = true≢false e

module _ (s : Station) (day line : ℕ) (scan : Scan) (class : WheatClass) (basis : Basis) where
  passes : Passes neither (checks_of s (market_call day line scan (Gluten class) basis))
  unfolding checks_of market_numbers market_checks basis_from
  passes =
      -- 0, 2, 3, 8, 23
      (
        (λ e. tt),
        λ e. (
          (λ e. tt),
          λ e. (
            (λ e. tt),
            λ e. (
              (λ e. tt),
              λ e. (
                (λ e. tt),
                λ e.
                    -- 24, 9, 10
                    (
                      (λ e. tt),
                      λ standard. (
                        (λ e. tt),
                        λ e. (
                          (λ e. absurd (basis_right class basis standard e)),
                          λ e.
                              -- 11, 12, 25, 26, 13, 14
                              (
                                (λ e. tt),
                                λ value. (
                                  (λ e. tt),
                                  λ e. (
                                    (λ e. tt),
                                    λ e. (
                                      (λ e. tt),
                                      λ e. (
                                        (λ e. tt),
                                        λ e.
                                            ((λ e. absurd (value_right class basis (corrected_value (values_of s line) scan (Gluten class) line) standard value e)), λ e. tt),
                                      ),
                                    ),
                                  ),
                                ),
                              ),
                        ),
                      ),
                    ),
              ),
            ),
          ),
        ),
      )

  -- a number that is answered is another
  never : (n : ℕ) → (T (neither n) → ⊥) → market_reply (market_of s day line scan (Gluten class) basis).answer ≡ refused_by n → ⊥
  unfolding station_reply granted_of
  never n f e = go (first_number (checks_of s (market_call day line scan (Gluten class) basis))) refl (sym (reply_is s (market_call day line scan (Gluten class) basis)) ∙ e)
    where
      go : (o : Option ℕ) → first_number (checks_of s (market_call day line scan (Gluten class) basis)) ≡ o
          → or_refused o (granted_of s (market_call day line scan (Gluten class) basis)) ≡ refused_by n → ⊥
      go None q r = grind arith
      go (Some m) q r =
          let z : m ≡ n = cc in
          f (subst (λ (k : ℕ). T (neither k)) z (first_passes neither (checks_of s (market_call day line scan (Gluten class) basis)) m passes q))

pub gluten_numbers : GlutenNumbers
gluten_numbers =
    record {
      never10 = λ s day line scan class basis. never s day line scan class basis 10 (λ t. t);
      never14 = λ s day line scan class basis. never s day line scan class basis 14 (λ t. t);
    }

-- ---- the floats that are not looked at

-- what a call is judged by of a scan, for what is asked
same_market : (s : Station) (day line : ℕ) (a b : Scan) (asked : Asked) (basis : Basis) → scan_serves s.row a asked ≡ scan_serves s.row b asked
    → asked_float a asked line ≡ asked_float b asked line → market_of s day line a asked basis ≡ market_of s day line b asked basis
unfolding market_of market_numbers market_checks certificate_of corrected_value
same_market s day line a b asked basis e f = rw (e, f)

gluten_fits : (row : ℕ) (v w : WheatSet) → scan_fits row (WheatGluten v) ≡ scan_fits row (WheatGluten w)
unfolding scan_fits
gluten_fits zero v w = refl
gluten_fits (suc n) v w = refl

wheat_fits : (row : ℕ) (w : WheatSet) → scan_fits row (WheatGluten w) ≡ scan_fits row (Wheat w.protein)
unfolding scan_fits
wheat_fits zero w = refl
wheat_fits (suc n) w = refl

gluten_served : (row : ℕ) (v w : WheatSet) (class : WheatClass) → scan_serves row (WheatGluten v) (Gluten class) ≡ scan_serves row (WheatGluten w) (Gluten class)
unfolding scan_serves brings_gluten
gluten_served row v w class = ap (λ (t : Bool). t && true) (gluten_fits row v w)

wheat_served : (row : ℕ) (w : WheatSet) → scan_serves row (WheatGluten w) LineFigure ≡ scan_serves row (Wheat w.protein) LineFigure
unfolding scan_serves
wheat_served row w = wheat_fits row w

only_gluten : (s : Station) (day line : ℕ) (p q g : Float) (class : WheatClass) (basis : Basis)
    → market_of s day line (WheatGluten (record { protein = p; gluten = g })) (Gluten class) basis
    ≡ market_of s day line (WheatGluten (record { protein = q; gluten = g })) (Gluten class) basis
unfolding asked_float gluten_float
only_gluten s day line p q g class basis =
    same_market s day line (WheatGluten (record { protein = p; gluten = g })) (WheatGluten (record { protein = q; gluten = g })) (Gluten class) basis
    (gluten_served s.row (record { protein = p; gluten = g }) (record { protein = q; gluten = g }) class) refl

only_wheat : (s : Station) (day line : ℕ) (w : WheatSet) (basis : Basis)
    → market_of s day line (WheatGluten w) LineFigure basis ≡ market_of s day line (Wheat w.protein) LineFigure basis
unfolding asked_float line_float
only_wheat s day line w basis = same_market s day line (WheatGluten w) (Wheat w.protein) LineFigure basis (wheat_served s.row w) refl

pub only_asked : OnlyAsked
only_asked = record { gluten = only_gluten; wheat = only_wheat }

-- ---- the cases

pub gluten_cases_hold : map (λ (c : Case). c.gives) gluten_cases ≡ map (λ (c : Case). c.says) gluten_cases
unfolding gluten_cases of_bits units_of in_range reading_of row_of samples standard_basis line_count scan_fits line_float brings_gluten gluten_float scan_serves asked_float rounded_away basis_from derived_intercept asked_intercept other_class other_basis corrected_value too_high tenths tenths_at nearest_tenth market_checks certificate_of market_numbers sound_line sound market_of
gluten_cases_hold = refl

pub gluten_reached : GlutenReached
unfolding of_bits units_of in_range reading_of row_of samples standard_basis line_count scan_fits line_float brings_gluten gluten_float scan_serves asked_float rounded_away basis_from derived_intercept asked_intercept other_class other_basis corrected_value too_high tenths tenths_at nearest_tenth market_checks certificate_of market_numbers sound_line sound market_of
gluten_reached = (refl, refl)

-- docs/SPECIFICATION.md, "Market test and moisture basis" and "Wet gluten": the corrected value, numbers 8 to 14 and 23 to 26, and the certificate.
use Rattle.std.specs.Prelude.{ℕ, ◌+◌, ◌*◌, ◌-◌, Bool, true, false, not, ◌&&◌, List, [], ◌∷◌, ltb, ℤ, pos, nat_abs, ◌+ℤ◌, ◌*ℤ◌}
use Rattle.std.specs.Int.Signed.{le_z}
use Rattle.whole.specs.Lists.{Check}
use Rattle.whole.specs.Rounding.{rounded_away, nearest_tenth}
use Rattle.reading.specs.Reading.{reading_of, in_range}
use Rattle.station_rules.specs.Rows.{standard_basis}
use Rattle.station_rules.specs.Readings.{scan_serves, asked_float}
use Rattle.station_rules.specs.Lines.{LinePhase, new_line, open_line, adjusted_line, shut_line, Values}
use Rattle.station_rules.specs.declared.Scan.{Scan}
use Rattle.station_rules.specs.declared.WheatClass.TheVariants.{HardRedWinter, HardRedSpring, Other}
use Rattle.station_rules.specs.declared.Asked.{Asked}
use Rattle.station_rules.specs.declared.Asked.TheVariants.{LineFigure, Gluten}
use Rattle.station_rules.specs.declared.Basis.{Basis}
use Rattle.station_rules.specs.declared.Basis.TheVariants.{Standard, Dry, Specified, AsIs}
use Rattle.station_rules.specs.declared.PastSet.{PastSet}
use Rattle.station_rules.specs.declared.Certificate.{Certificate}

-- B: standard (A), dry (0), specified, or as-is with the official moisture
abbrev pub basis_of : ℕ → Basis → ℤ
basis_of a Standard = pos a
basis_of a Dry = pos 0
basis_of a (Specified b) = b
basis_of a (AsIs moisture) = moisture

-- A: the row's standard basis; gluten is reported at 14.0 percent
unfoldable pub basis_from : ℕ → Asked → ℕ
basis_from row LineFigure = standard_basis row
basis_from row (Gluten class) = 1400

-- the gluten intercept: the protein intercept times 3.029, rounded to a hundredth, halves away from zero
unfoldable pub derived_intercept : ℤ → ℤ
derived_intercept i = rounded_away (i *ℤ pos 3029) 1000

-- the intercept of what is asked: the line's, or gluten's
unfoldable pub asked_intercept : Asked → ℤ → ℤ
asked_intercept LineFigure i = i
asked_intercept (Gluten class) i = derived_intercept i

-- h: reading plus intercept
unfoldable pub corrected_value : Values → Scan → Asked → ℕ → ℤ
corrected_value v scan asked line = pos (reading_of (asked_float scan asked line)) +ℤ asked_intercept asked v.intercept

-- gluten is asked with another class than the hard red ones
unfoldable pub other_class : Asked → Bool
other_class LineFigure = false
other_class (Gluten HardRedWinter) = false
other_class (Gluten HardRedSpring) = false
other_class (Gluten Other) = true

-- gluten is asked with a basis not asked for as standard
unfoldable pub other_basis : Asked → Basis → Bool
other_basis LineFigure basis = false
other_basis (Gluten class) Standard = false
other_basis (Gluten class) Dry = true
other_basis (Gluten class) (Specified b) = true
other_basis (Gluten class) (AsIs moisture) = true

-- number 12: the line is new
abbrev pub is_new : LinePhase → Bool
is_new new_line = true
is_new open_line = false
is_new adjusted_line = false
is_new shut_line = false

-- number 25: its check is due after an adjustment
abbrev pub is_adjusted : LinePhase → Bool
is_adjusted new_line = false
is_adjusted open_line = false
is_adjusted adjusted_line = true
is_adjusted shut_line = false

-- number 26: its check is due after shutting
abbrev pub is_shut : LinePhase → Bool
is_shut new_line = false
is_shut open_line = false
is_shut adjusted_line = false
is_shut shut_line = true

-- the day of the line's newest set
abbrev pub newest_day : List PastSet → ℕ
newest_day [] = 0
newest_day (p ∷ older) = p.day

-- a value of low..high
abbrev pub within : ℕ → ℕ → ℤ → Bool
within low high z = le_z (pos low) z && le_z z (pos high)

-- the unrounded value at B, h times (10000 − B)/(10000 − A), is above 10000
unfoldable pub too_high : (a b h : ℕ) → Bool
too_high a b h = ltb (10000 * (10000 - a)) (h * (10000 - b))

-- h in tenths, as figures are reported
unfoldable pub tenths : ℕ → ℕ
tenths h = nearest_tenth h 10

-- h times (10000 − B)/(10000 − A) in tenths, as figures are reported: rounded once, and not from the figure of h
unfoldable pub tenths_at : (a b h : ℕ) → ℕ
tenths_at a b h = nearest_tenth (h * (10000 - b)) (10 * (10000 - a))

module _ (row : ℕ) (v : Values) (line : ℕ) (scan : Scan) (asked : Asked) (basis : Basis) where
  -- numbers 8, 23, 24, 9 to 12, 25, 26, 13 and 14, of a request on a day
  unfoldable pub market_checks : ℕ → List (Check ℕ)
  market_checks day =
      let a = basis_from row asked in
      let b = basis_of a basis in
      let h = corrected_value v scan asked line in
      record { answer = 8; applies = not (scan_serves row scan asked) }
      ∷ record { answer = 23; applies = other_class asked }
      ∷ record { answer = 24; applies = other_basis asked basis }
      ∷ record { answer = 9; applies = not (in_range (asked_float scan asked line)) }
      ∷ record { answer = 10; applies = not (within 0 5000 b) }
      ∷ record { answer = 11; applies = not (within 0 10000 h) }
      ∷ record { answer = 12; applies = is_new v.phase }
      ∷ record { answer = 25; applies = is_adjusted v.phase }
      ∷ record { answer = 26; applies = is_shut v.phase }
      ∷ record { answer = 13; applies = ltb (newest_day v.newest + 7) day }
      ∷ record { answer = 14; applies = too_high a (nat_abs b) (nat_abs h) }
      ∷ []

  -- the day of the line's newest set, the intercept, B and two figures in tenths: h, and h at B
  unfoldable pub certificate_of : Certificate
  certificate_of =
      let a = basis_from row asked in
      let b = basis_of a basis in
      let h = corrected_value v scan asked line in
      record {
        day = newest_day v.newest;
        intercept = asked_intercept asked v.intercept;
        basis = b;
        figure = tenths (nat_abs h);
        converted = tenths_at a (nat_abs b) (nat_abs h);
      }

-- The book certifies a market test exactly when the market conditions hold, and they rest on a recent sheet that met.
use mathlib.Core.Path.{◌≡◌, refl, sym, ◌∙◌, ap}
use mathlib.Core.Bool.{Bool, true, false, not, cond, true≢false}
use mathlib.Core.List.{List, [], ◌∷◌}
use Rattle.std.specs.Prelude.{Option, None, Some}
use Prim.Native.Nat.{ℕ, ◌+◌, ◌≤◌}
use native.Mathlib.Omega.{arith}
use lib.Dec.{T, eqb, leb, ltb, leb→le, lt→ltb}
use lib.IntN.{ℤ, pos, nat_abs, ◌+ℤ◌}
use lib.Signed.{le_z, ◌≤ℤ◌}
use lib.Ieee.Fits.{and_l, and_i}
use Rattle.std.specs.Bool.{passes}
use Rattle.std.proofs.lemmas.Bool.{le-ltb, ltb-true, ltb-false, not-false, and_parts, or_parts, or_from}
use Rattle.std.proofs.lemmas.Int.{ints}
use lib.Ieee.Bits.{is_true}
use Rattle.station_rules.specs.Rows.{line_count}
use Rattle.reading.specs.Reading.{reading_of, in_range}
use Rattle.station_rules.specs.Readings.{scan_serves, asked_float}
use Rattle.station_rules.specs.Markets.{is_new, is_adjusted, is_shut, basis_of, basis_from, asked_intercept, other_class, other_basis, newest_day, within, too_high, corrected_value, market_checks}
use Rattle.station_rules.specs.Judging.{market_numbers}
use Rattle.station_rules.specs.Soundness.{days_fall}
use Rattle.station_rules.specs.Lines.{LinePhase, new_line, open_line, adjusted_line, shut_line}
use Rattle.station_rules.specs.Calls.{market_call}
use Rattle.station_rules.specs.Books.{Book, SheetEntry, Entry, sheet_entry, repair_entry, sheets_of, newest_touching, is_met_sheet, newest_unmet, newest_change, book_intercept, book_phase, book_past, book_values, book_number}
use Rattle.station_rules.specs.Demand3.{MarketConditions, RestsOn}
use Rattle.station_rules.specs.declared.Scan.{Scan}
use Rattle.station_rules.specs.declared.WheatClass.{WheatClass}
use Rattle.station_rules.specs.declared.WheatClass.TheVariants.{Other}
use Rattle.station_rules.specs.declared.Asked.{Asked}
use Rattle.station_rules.specs.declared.Asked.TheVariants.{Gluten}
use Rattle.station_rules.specs.declared.Basis.{Basis}
use Rattle.station_rules.specs.declared.Basis.TheVariants.{Standard}
use Rattle.station_rules.specs.declared.PastSet.{PastSet}
use Rattle.station_rules.proofs.Checks.{none_applies, no_number}

-- ---- each test and its condition

not_true : (b : Bool) → T b → not b ≡ false
not_true b t = ap not (is_true b t)

within_from : (low high : ℕ) (z : ℤ) → not (within low high z) ≡ false → (pos low ≤ℤ z) × (z ≤ℤ pos high)
within_from low high z e =
    let p = and_parts (le_z (pos low) z) (le_z z (pos high)) (not-false (within low high z) e) in
    (omega (arith, ints, p.0), omega (arith, ints, p.1))

within_to : (low high : ℕ) (z : ℤ) → pos low ≤ℤ z → z ≤ℤ pos high → not (within low high z) ≡ false
within_to low high z h k = not_true (within low high z) (and_i (le_z (pos low) z) (le_z z (pos high)) h.le k.le)

-- numbers 12, 25 and 26: the line is not new, not adjusted, not shut
new_to : (p : LinePhase) → (p ≡ new_line → ⊥) → is_new p ≡ false
new_to p f = grind arith

adjusted_to : (p : LinePhase) → (p ≡ adjusted_line → ⊥) → is_adjusted p ≡ false
adjusted_to p f = grind arith

shut_to : (p : LinePhase) → (p ≡ shut_line → ⊥) → is_shut p ≡ false
shut_to p f = grind arith

phase_from : (test : LinePhase → Bool) (p q : LinePhase) → test p ≡ false → test q ≡ true → p ≡ q → ⊥
phase_from test p q e t h = true≢false (sym t ∙ sym (ap test h) ∙ e)

-- number 23: gluten is not asked with another class
class_from : (asked : Asked) → other_class asked ≡ false → asked ≡ Gluten Other → ⊥
unfolding other_class
class_from asked e q = grind arith

class_to : (asked : Asked) → (asked ≡ Gluten Other → ⊥) → other_class asked ≡ false
unfolding other_class
class_to asked f = grind arith

-- number 24: gluten is asked with the standard basis
pub basis_from_lem : (asked : Asked) (basis : Basis) → other_basis asked basis ≡ false → (class : WheatClass) → asked ≡ Gluten class → basis ≡ Standard
unfolding other_basis
basis_from_lem asked basis e class q = grind arith

basis_to : (asked : Asked) (basis : Basis) → ((class : WheatClass) → asked ≡ Gluten class → basis ≡ Standard) → other_basis asked basis ≡ false
unfolding other_basis
basis_to asked basis f = grind arith

module _ (b : Book) (day line : ℕ) (scan : Scan) (asked : Asked) (basis : Basis) where
  -- no number applies: the conditions hold
  pub conditions_from : book_number b (market_call day line scan asked basis) ≡ None → MarketConditions b day line scan asked basis
  unfolding book_number market_numbers market_checks corrected_value too_high book_values
  conditions_from e =
      let f = none_applies (market_numbers b.row b.day (book_values line b.entries) day line scan asked basis) e in
      let d = or_parts (ltb day b.day) (ltb 99999 day) f.0 in
      let g = f.1.1.1.1 in
      let k = g.1.1.1.1 in
      let i = within_from 0 5000 (basis_of (basis_from b.row asked) basis) g.1.1.0 in
      let h = within_from 0 10000 (pos (reading_of (asked_float scan asked line)) +ℤ asked_intercept asked (book_intercept line b.entries)) g.1.1.1.0 in
      record {
        number2 = (ltb-false day b.day d.0, ltb-false 99999 day d.1);
        number3 = ltb-true line (line_count b.row) (not-false (ltb line (line_count b.row)) f.1.0);
        number8 = passes _ (not-false (scan_serves b.row scan asked) f.1.1.0);
        number23 = class_from asked f.1.1.1.0;
        number24 = basis_from_lem asked basis g.0;
        number9 = passes _ (not-false (in_range (asked_float scan asked line)) g.1.0);
        number10 = i;
        number11 = h;
        number12 = phase_from is_new (book_phase line b.entries) new_line k.0 refl;
        number25 = phase_from is_adjusted (book_phase line b.entries) adjusted_line k.1.0 refl;
        number26 = phase_from is_shut (book_phase line b.entries) shut_line k.1.1.0 refl;
        number13 = ltb-false (newest_day (book_past line b.entries) + 7) day k.1.1.1.0;
        number14 = ltb-false _ _ k.1.1.1.1.0;
      }

  -- the conditions hold: no number applies
  pub conditions_to : MarketConditions b day line scan asked basis → book_number b (market_call day line scan asked basis) ≡ None
  unfolding book_number market_numbers market_checks corrected_value too_high book_values
  conditions_to c =
      no_number (market_numbers b.row b.day (book_values line b.entries) day line scan asked basis) (
        or_from (ltb day b.day) (ltb 99999 day) (le-ltb day b.day c.number2.0) (le-ltb 99999 day c.number2.1),
        (
          not_true (ltb line (line_count b.row)) (lt→ltb line (line_count b.row) c.number3),
          (
            not_true (scan_serves b.row scan asked) c.number8,
            (
              class_to asked c.number23,
              (
                basis_to asked basis c.number24,
                (
                  not_true (in_range (asked_float scan asked line)) c.number9,
                  (
                    within_to 0 5000 (basis_of (basis_from b.row asked) basis) c.number10.0 c.number10.1,
                    (
                      within_to 0 10000 (pos (reading_of (asked_float scan asked line)) +ℤ asked_intercept asked (book_intercept line b.entries)) c.number11.0 c.number11.1,
                      (
                        new_to (book_phase line b.entries) c.number12,
                        (
                          adjusted_to (book_phase line b.entries) c.number25,
                          (
                            shut_to (book_phase line b.entries) c.number26,
                            (
                              le-ltb (newest_day (book_past line b.entries) + 7) day c.number13,
                              (
                                le-ltb _ _ c.number14,
                                tt,
                              ),
                            ),
                          ),
                        ),
                      ),
                    ),
                  ),
                ),
              ),
            ),
          ),
        ),
      )

-- ---- what an open line rests on

-- a line that is neither new nor adjusted nor shut has met
open_met : (m u z : Bool) → let p = cond m open_line (cond u (cond z shut_line adjusted_line) new_line) in
    (p ≡ new_line → ⊥) → (p ≡ adjusted_line → ⊥) → (p ≡ shut_line → ⊥) → m ≡ true
open_met m u z f g h = grind arith

met_entry : (o : Option Entry) → is_met_sheet o ≡ true → (e : SheetEntry) × (o ≡ Some (sheet_entry e)) × (e.met ≡ true)
met_entry None h = grind arith
met_entry (Some (sheet_entry e)) h = (e, refl, h)
met_entry (Some (repair_entry d)) h = grind arith

-- the newest entry touching the line, a sheet that met, is the newest past set
newest_past : (line : ℕ) (es : List Entry) (e : SheetEntry) → newest_touching line es ≡ Some (sheet_entry e) → e.met ≡ true
    → newest_day (book_past line es) ≡ e.day
unfolding book_past
newest_past line [] e h m = grind arith
newest_past line (sheet_entry x ∷ es) e h m = go (eqb x.line line) refl (newest_past line es e)
  where
    go : (t : Bool) → eqb x.line line ≡ t
        → (newest_touching line es ≡ Some (sheet_entry e) → e.met ≡ true → newest_day (book_past line es) ≡ e.day)
        → newest_day (book_past line (sheet_entry x ∷ es)) ≡ e.day
    go true g ih =
        let k : Some (sheet_entry x) ≡ Some (sheet_entry e) = rw g at h in
        let y : x ≡ e = cc in
        let n : x.met ≡ true = ap (λ (z : SheetEntry). z.met) y ∙ m in
        simp (g, n) (ap (λ (z : SheetEntry). z.day) y)
    go false g ih = simp g (ih (rw g at h) m)
newest_past line (repair_entry d ∷ es) e h m = grind arith

newest_le : (d : ℕ) (past : List PastSet) → T (days_fall d past) → newest_day past ≤ d
newest_le d [] t = omega arith
newest_le d (p ∷ ps) t = leb→le p.day d (and_l (leb p.day d) (days_fall p.day ps) t)

-- the conditions rest on the newest sheet or repair touching the line: a sheet that met, at most 7 days earlier
pub rests_on : (b : Book) (day line : ℕ) (scan : Scan) (asked : Asked) (basis : Basis) → T (days_fall b.day (book_past line b.entries))
    → MarketConditions b day line scan asked basis → RestsOn b day line
unfolding book_phase
rests_on b day line scan asked basis falls c =
    let f = met_entry (newest_touching line b.entries)
    (open_met (is_met_sheet (newest_touching line b.entries)) (newest_unmet (sheets_of line b.entries)) (eqb (nat_abs (newest_change (sheets_of line b.entries))) 0)
    c.number12 c.number25 c.number26) in
    let n : newest_day (book_past line b.entries) ≡ f.0.day = newest_past line b.entries f.0 f.1 f.2 in
    record {
      entry = f.0;
      newest = f.1;
      met = f.2;
      earlier = omega (arith, n, newest_le b.day (book_past line b.entries) falls, c.number2.0);
      at_most7 = omega (arith, n, c.number13);
    }

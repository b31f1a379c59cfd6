-- A line's values in the book after one more entry.
use mathlib.Core.Path.{◌≡◌, refl, ap}
use mathlib.Core.Bool.{Bool, true, false, not, cond}
use mathlib.Core.List.{List, [], ◌∷◌}
use Rattle.std.specs.Prelude.{Some}
use Prim.Native.Nat.{ℕ}
use native.Mathlib.Omega.{arith}
use lib.Dec.{eqb}
use lib.IntN.{ℤ, ◌+ℤ◌}
use Rattle.station_rules.specs.Lines.{LinePhase, new_line, open_line, Values, is_nonzero}
use Rattle.station_rules.specs.declared.PastSet.{PastSet}
use Rattle.station_rules.specs.Held.{repaired_phase}
use Rattle.station_rules.specs.Books.{SheetEntry, Entry, sheet_entry, repair_entry, sheets_of, newest_touching, is_met_sheet, newest_unmet, newest_change, check_due_by, entry_set, book_intercept, book_phase, book_past, book_values}

-- an open line's values with a set in front of the newest, and of the ones that aren't zero where it is one
abbrev pub with_set : (intercept : ℤ) → Values → PastSet → Values
with_set intercept v p = record { intercept = intercept; phase = open_line; newest = p ∷ v.newest; nonzero = cond (is_nonzero p) (p ∷ v.nonzero) v.nonzero }

-- values without a set
abbrev pub without_sets : (intercept : ℤ) → LinePhase → Values
without_sets intercept phase = record { intercept = intercept; phase = phase; newest = []; nonzero = [] }

module _ (line : ℕ) (e : SheetEntry) (es : List Entry) where
  -- another line's sheet changes nothing of the line
  pub other_values : eqb e.line line ≡ false → book_values line (sheet_entry e ∷ es) ≡ book_values line es
  unfolding book_values book_intercept book_phase book_past
  other_values h = simp h

  -- a sheet that met
  pub met_values : eqb e.line line ≡ true → e.met ≡ true
      → book_values line (sheet_entry e ∷ es)
      ≡ with_set (e.change +ℤ (book_values line es).intercept) (book_values line es) (entry_set e)
  unfolding book_values book_intercept book_phase book_past
  met_values h m = simp (h, m)

  -- a sheet that didn't meet
  pub unmet_values : eqb e.line line ≡ true → e.met ≡ false
      → book_values line (sheet_entry e ∷ es)
      ≡ without_sets (e.change +ℤ (book_values line es).intercept) (check_due_by e.change)
  unfolding book_values book_intercept book_phase book_past
  unmet_values h m = simp (h, m)

-- where the newest entry touching the line is a sheet that met, the line's newest sheet met
met_not_unmet : (line : ℕ) (es : List Entry) → is_met_sheet (newest_touching line es) ≡ true → newest_unmet (sheets_of line es) ≡ false
met_not_unmet line [] h = refl
met_not_unmet line (sheet_entry e ∷ es) h = go (eqb e.line line) h (met_not_unmet line es)
  where
    go : (b : Bool) → is_met_sheet (cond b (Some (sheet_entry e)) (newest_touching line es)) ≡ true
        → (is_met_sheet (newest_touching line es) ≡ true → newest_unmet (sheets_of line es) ≡ false)
        → newest_unmet (cond b (e ∷ sheets_of line es) (sheets_of line es)) ≡ false
    go true h ih = ap not h
    go false h ih = ih h
met_not_unmet line (repair_entry d ∷ es) h = grind arith

-- a repair makes an open line new; which of the two a check due line is stays
repaired_phase_lem : (met unmet : Bool) (change : ℤ) → (met ≡ true → unmet ≡ false)
    → cond unmet (check_due_by change) new_line ≡ repaired_phase (cond met open_line (cond unmet (check_due_by change) new_line))
repaired_phase_lem met unmet change f = grind arith

-- a repair
pub repair_values : (line d : ℕ) (es : List Entry)
    → book_values line (repair_entry d ∷ es)
    ≡ without_sets (book_values line es).intercept (repaired_phase (book_values line es).phase)
unfolding book_values book_intercept book_phase book_past
repair_values line d es =
    ap (without_sets (book_intercept line es))
    (repaired_phase_lem (is_met_sheet (newest_touching line es)) (newest_unmet (sheets_of line es)) (newest_change (sheets_of line es)) (met_not_unmet line es))

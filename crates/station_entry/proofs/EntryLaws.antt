-- What is known of a call by its first numbers: where none applies, and where one does.
use Rattle.std.specs.Prelude.{Ok, Err, Option, None, Some}
use mathlib.Core.Path.{◌≡◌, refl, ap, ◌∙◌}
use mathlib.Core.Bool.{Bool, true, false, cond}
use mathlib.Core.List.{List, [], ◌∷◌, ◌++◌}
use Prim.Native.Nat.{ℕ, ◌≤◌, ◌<◌}
use native.Mathlib.Omega.{arith}
use lib.Dec.{ltb}
use lib.ListN.{length}
use lib.IntN.{ℤ}
use borrow.Author.Tests.{ltb-false, ltb-true}
use Rattle.whole.specs.Lists.{Check}
use Rattle.std.proofs.lemmas.Bool.{not-false}
use Rattle.whole.proofs.Tests.{or_none}
use Rattle.station_rules.specs.Rows.{line_count}
use Rattle.station_rules.specs.Refusals.{first_number, refusal_of}
use Rattle.station_rules.specs.Soundness.{sound}
use Rattle.station_rules.specs.Places.{station_in}
use Rattle.station_rules.specs.Stations.{line_of}
use Rattle.station_rules.proofs.Checks.{none_head, none_tail, passed_over, none_applies, no_number}
use Rattle.station_rules.proofs.InPlace.{all_places}
use Rattle.station_rules.proofs.RowFacts.{row_facts}
use Rattle.station_refusals.specs.declared.Refusal.{Refusal}
use Rattle.station_entry.specs.Entries.{Footing, day_checks, line_checks, refused_or, footing, entered}
use Rattle.station_entry.specs.declared.Entry.{Entry}

-- ---- by what was answered

module _ {A : Type 0} (x : A) where
  -- what is let through is what stands there, and no number applies
  pub let_through : (o : Option ℕ) {y : A} → Ok y ≡ refused_or x o → (o ≡ None) × (y ≡ x)
  let_through None e = (refl, cc)
  let_through (Some number) e = let z : ◌≡◌ {A = ℕ} 0 1 = cc in absurd (omega arith)

  -- a refusal is that of the number that applies
  pub refused_by : (o : Option ℕ) {r : Refusal} → Err r ≡ refused_or x o → (number : ℕ) × (o ≡ Some number) × (r ≡ refusal_of number)
  refused_by None e = let z : ◌≡◌ {A = ℕ} 0 1 = cc in absurd (omega arith)
  refused_by (Some number) e = (number, refl, cc)

-- ---- more checks behind them

module _ (more : List (Check ℕ)) where
  pub none_before : (cs : List (Check ℕ)) → first_number cs ≡ None → first_number (cs ++ more) ≡ first_number more
  none_before [] e = refl
  none_before (c ∷ cs) e = passed_over c.applies c.answer _ (none_head c cs e) ∙ none_before cs (none_tail c cs e)

  pub none_front : (cs : List (Check ℕ)) → first_number (cs ++ more) ≡ None → first_number cs ≡ None
  none_front [] e = refl
  none_front (c ∷ cs) e = passed_over c.applies c.answer _ (none_head c (cs ++ more) e) ∙ none_front cs (none_tail c (cs ++ more) e)

  pub some_before : (cs : List (Check ℕ)) (number : ℕ) → first_number cs ≡ Some number → first_number (cs ++ more) ≡ Some number
  some_before [] number e = let z : ◌≡◌ {A = ℕ} 0 1 = cc in absurd (omega arith)
  some_before (c ∷ cs) number e = go c.applies e (some_before cs number)
    where
      go : (a : Bool) → cond a (Some c.answer) (first_number cs) ≡ Some number → (first_number cs ≡ Some number → first_number (cs ++ more) ≡ Some number)
          → cond a (Some c.answer) (first_number (cs ++ more)) ≡ Some number
      go true e more = e
      go false e more = more e

-- ---- where none applies

-- of numbers 0 and 2
pub record Serves (words : List ℤ) (day : ℕ) : Type 0 where
  pub right : sound (station_in words) ≡ true
  pub full : length words ≡ 68
  pub today : day ≤ 99999

pub serves : (words : List ℤ) (day : ℕ) → first_number (day_checks (station_in words) day) ≡ None → Serves words day
serves words day e =
    let s = station_in words in
    let none = none_applies (day_checks s day) e in
    let right = not-false (sound s) none.0 in
    record { right = right; full = all_places words right; today = ltb-false 99999 day (or_none (ltb day s.day) (ltb 99999 day) none.1.0).1 }

-- of number 3 too
pub record Stands (words : List ℤ) (day line : ℕ) : Type 0 where
  pub serves : Serves words day
  pub here : line < line_count (station_in words).row
  pub three : line < 3

pub stands : (words : List ℤ) (day line : ℕ) → first_number (line_checks (station_in words) day line) ≡ None → Stands words day line
stands words day line e =
    let s = station_in words in
    let none = none_applies (line_checks s day line) e in
    let here = ltb-true line (line_count s.row) (not-false (ltb line (line_count s.row)) none.1.1.0) in
    let most = (row_facts s.row).three_lines in
    record { serves = serves words day (no_number (day_checks s day) (none.0, (none.1.0, tt))); here = here; three = omega arith }

-- an entry is the station's row and line
pub record Enters (words : List ℤ) (day line : ℕ) (e : Entry) : Type 0 where
  pub none : first_number (line_checks (station_in words) day line) ≡ None
  pub stands : Stands words day line
  pub row : e.row ≡ (station_in words).row
  pub line_is : e.sound.line ≡ line_of (station_in words) line

pub enters : (words : List ℤ) (day line : ℕ) (e : Entry)
    → entered (Ok e) ≡ refused_or (footing (station_in words) line) (first_number (line_checks (station_in words) day line)) → Enters words day line e
enters words day line e h =
    let p = let_through (footing (station_in words) line) (first_number (line_checks (station_in words) day line)) h in
    record { none = p.0; stands = stands words day line p.0; row = ap (λ (f : Footing). f.row) p.1; line_is = ap (λ (f : Footing). f.line) p.1 }

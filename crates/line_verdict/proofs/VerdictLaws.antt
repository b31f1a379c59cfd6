-- The verdict on a set by the test found, the sets that its tests are made with, and an adjustment by its test.
use mathlib.Core.Path.{◌≡◌, refl, sym, ap, ◌∙◌, subst⁻¹}
use mathlib.Core.Bool.{Bool, false}
use mathlib.Core.List.{List}
use Rattle.std.specs.Prelude.{Option}
use Prim.Native.Nat.{ℕ, ◌≤◌, ◌<◌}
use native.Mathlib.Omega.{arith}
use lib.Dec.{leb}
use lib.IntN.{ℤ, neg_ℤ, nat_abs, ◌-ℤ◌}
use lib.ListN.{length, take, get_or, length-take}
use lib.Seq.{get_or-take}
use borrow.Author.Tests.{eq-eqb, le-leb, ne_eqb}
use Rattle.whole.proofs.ListLaws.{cond_yes, cond_no}
use Rattle.station_rules.specs.Lines.{valid_on, tests_by, first_exceeded, judged, verdict_of, adjust_by}
use Rattle.station_rules.specs.Held.{no_set, line_values, phase_word}
use Rattle.station_rules.specs.declared.Limits.{Limits}
use Rattle.station_rules.specs.declared.Set.{Set}
use Rattle.station_rules.specs.declared.Test.{Test}
use Rattle.station_rules.specs.declared.Verdict.TheVariants.{Adjusted, Shut}
use Rattle.station_rules.specs.declared.PastSet.{PastSet}
use Rattle.station_rules.specs.declared.Line.{Line}
use Rattle.line_past.specs.Ranges.{PastFits}
use Rattle.line_past.proofs.ValidLaws.{valid_first}
use Rattle.line.specs.Ranges.{SetsFit}
use Rattle.line_averages.specs.Ranges.{Together, Due}

-- ---- the verdict

pub verdict_shut : (limits : Limits) (l : Line) (day : ℕ) (set : Set) → set.count ≡ 0
    → Shut ≡ verdict_of limits (line_values l) day set
unfolding verdict_of
verdict_shut limits l day set h = cond_yes _ _ refl (eq-eqb set.count 0 h)

-- the test found among those by the valid sets of either kind is the rules'
pub judged_by : (limits : Limits) (l : Line) (day : ℕ) (set : Set) {f : Option Test} {newest nonzero : List PastSet} → (set.count ≡ 0 → ⊥)
    → f ≡ first_exceeded (tests_by limits (phase_word l.phase) set newest nonzero)
    → newest ≡ valid_on day (take l.newest_held l.newest) → nonzero ≡ valid_on day (take l.nonzero_held l.nonzero)
    → judged l.intercept f ≡ verdict_of limits (line_values l) day set
unfolding verdict_of
judged_by limits l day set h g e k =
    ap (judged l.intercept) (g ∙ (λ i. first_exceeded (tests_by limits (phase_word l.phase) set (e i) (k i)))) ∙ cond_no _ _ refl (ne_eqb set.count 0 h)

-- valid sets, with which its tests are made
pub valid_due : (day most held : ℕ) (past : List PastSet) (set : Set) → most ≤ 4 → SetsFit most held past → Together 1 set
    → {valid : List PastSet} → valid ≡ valid_on day (take held past) → Due set valid
valid_due day most held past set few fits one {valid} e =
    record { one = one; few = omega (arith, fits.room, most'); held = record { each = each } }
  where
    first : valid ≡ take (length valid) (take held past)
    first = e ∙ valid_first day 99999 (take held past) fits.falls ∙ sym (ap (λ (l : List PastSet). take (length l) (take held past)) e)

    most' : length valid ≤ held
    most' = omega (arith, ap length first, length-take (length valid) (take held past), length-take held past)

    each : (j : ℕ) → j < length valid → PastFits (get_or valid j no_set)
    each j h =
        let there : get_or valid j no_set ≡ get_or past j no_set =
        ap (λ (l : List PastSet). get_or l j no_set) first ∙ get_or-take (length valid) (take held past) j no_set h ∙ get_or-take held past j no_set (omega (arith, most')) in
        subst⁻¹ PastFits there (fits.each.each j (omega (arith, most')))

-- ---- an adjustment

pub adjusted : (i a : ℤ) {change : ℤ} → nat_abs (i -ℤ a) ≤ 1000 → change ≡ neg_ℤ a → Adjusted change ≡ adjust_by i a
adjusted i a h e = ap Adjusted e ∙ cond_yes _ _ refl (le-leb (nat_abs (i -ℤ a)) 1000 h)

pub adjust_no : (i a : ℤ) {next : ℤ} {b : Bool} → next ≡ i -ℤ a → b ≡ leb (nat_abs next) 1000 → b ≡ false
    → Shut ≡ adjust_by i a
adjust_no i a e f g = cond_no _ _ (f ∙ ap (λ (z : ℤ). leb (nat_abs z) 1000) e) g

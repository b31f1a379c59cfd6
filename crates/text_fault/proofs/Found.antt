-- Where the rules refuse a text at a value line, that line's place is found, and tells why.
use mathlib.Core.Path.{◌≡◌, refl, sym, ap, ◌∙◌}
use mathlib.Core.Bool.{Bool, true, false, not, ◌&&◌, ◌||◌}
use mathlib.Core.List.{List, [], ◌∷◌}
use mathlib.Core.Logic.{⊎_elim}
use Prim.Native.Nat.{ℕ, zero, suc, ◌+◌, ◌-◌, ◌≤◌, ◌<◌}
use native.Mathlib.Omega.{arith}
use lib.ListN.{length}
use lib.Dec.{ltb}
use borrow.Author.Tests.{ltb-true}
use Rattle.std.specs.Prelude.{Some, None, Result, Ok, Err, ◌≢◌, is_some}
use Rattle.std.proofs.lemmas.Bool.{cases_Bool}
use Rattle.chart_rules.specs.TextLines.{LineRead, line_at, names_line, starts_with}
use Rattle.whole.specs.Lists.{Check}
use Rattle.chart_rules.specs.Judging.{and_then, check, first_ruling, is_next, is_start, judged, line_checks, lines_at, lines_checks, lines_from, pair, ruling, starts, text_checks, value_lines, verdict}
use Rattle.chart_rules.specs.Refusals.{bad_result, bad_week}
use Rattle.chart_rules.specs.declared.RefusedText.{RefusedText}
use Rattle.chart_rules.specs.declared.TextRefusal.TheVariants.{TooLong, BadNames, BadLine, BadSample, BadWeek, BadResult}
use Rattle.chart_rules.specs.declared.ValueLine.{ValueLine}
use Rattle.chart_rules.proofs.Rulings.{otherwise, first_append}
use Rattle.text_fault.specs.Places.{passed, first_place, Why, LineFound}
use Rattle.text_fault.specs.declared.places.Place.{Place}
use Rattle.text_fault.proofs.Exact.{fault_exact}

-- ---- the place behind a line
module _ (text : List ℕ) (place : Place) where
  pub passed_none : (k : ℕ) → 0 < k → line_at text place.at ≡ None → passed k text place ≡ None
  unfolding passed
  passed_none zero h e = absurd (omega arith)
  passed_none (suc k) h e = rw e

  pub passed_more : (j k : ℕ) (v : ValueLine) (next : ℕ) → k ≡ j + 1 → line_at text place.at ≡ Some (v, next)
      → passed k text place ≡ passed j text (record { at = next; week = v.week; sample = v.sample })
  unfolding passed
  passed_more j zero v next h e = absurd (omega arith)
  passed_more j (suc k) v next h e =
      let same : k ≡ j = omega arith in
      rw (e, same)

  pub passed_all : (k : ℕ) → k ≡ 0 → passed k text place ≡ Some place
  unfolding passed
  passed_all k e = rw e

pub ruleset passed_steps = (passed_none, passed_more, passed_all)

-- ---- the line that is refused

-- what a ruling refuses by, and where
three_checks : (a b c : Bool) (line : ℕ) (r : RefusedText) → first_ruling (check a BadSample line ∷ check b BadWeek line ∷ check c BadResult line ∷ []) ≡ Err r
    → (r.line ≡ line) × (r.refusal ≢ BadLine)
three_checks true b c line r e = (cc, λ p. cc)
three_checks false true c line r e = (cc, λ p. cc)
three_checks false false true line r e = (cc, λ p. cc)
three_checks false false false line r e = absurd cc

ruling_says : (week sample line : ℕ) (v : ValueLine) (r : RefusedText) → ruling week sample line v ≡ Err r → (r.line ≡ line) × (r.refusal ≢ BadLine)
unfolding ruling
ruling_says week sample line v r e = three_checks (not (is_next week sample v || is_start week sample v)) (is_start week sample v && bad_week week v.week) (bad_result (pair v)) line r e

-- the lines from a place on are refused at the place behind so many of them
record Found (text : List ℕ) (place : Place) (line : ℕ) (r : RefusedText) : Type 0 where
  steps : ℕ
  at_line : r.line ≡ line + steps
  found : Place
  placed : passed steps text place ≡ Some found
  inside : found.at < length text
  why : Why r (line_at text found.at) found

module _ (text : List ℕ) (r : RefusedText) where
  here : (place : Place) (line : ℕ) → r.line ≡ line → place.at < length text → Why r (line_at text place.at) place → Found text place line r
  here place line e h w = record { steps = 0; at_line = omega (arith, e); found = place; placed = passed_all text place 0 refl; inside = h; why = w }

  further : (place : Place) (line : ℕ) (v : ValueLine) (next : ℕ) → line_at text place.at ≡ Some (v, next)
      → Found text (record { at = next; week = v.week; sample = v.sample }) (line + 1) r → Found text place line r
  further place line v next e f =
      record {
        steps = f.steps + 1;
        at_line = omega (arith, f.at_line);
        found = f.found;
        placed = passed_more text place f.steps (f.steps + 1) v next refl e ∙ f.placed;
        inside = f.inside;
        why = f.why;
      }

  after : (place : Place) (line : ℕ) (v : ValueLine) (next : ℕ) (x rest : Result (Unit {0}) RefusedText)
      → place.at < length text → line_at text place.at ≡ Some (v, next) → ruling place.week place.sample line v ≡ x
      → (rest ≡ Err r → Found text (record { at = next; week = v.week; sample = v.sample }) (line + 1) r)
      → otherwise x rest ≡ Err r → Found text place line r
  unfolding otherwise
  after place line v next (Ok fine) rest h e q go p = further place line v next e (go p)
  after place line v next (Err s) rest h e q go p =
      let refused : ruling place.week place.sample line v ≡ Err r = q ∙ p in
      let says = ruling_says place.week place.sample line v r refused in
      here place line says.0 h (rw e (ap (λ (l : ℕ). ruling place.week place.sample l v) says.0 ∙ refused, says.1))

  one_line : (k : ℕ) (place : Place) (line : ℕ) (x : LineRead) → place.at < length text → line_at text place.at ≡ x
      → ((p : Place) (l : ℕ) → first_ruling (lines_checks p.week p.sample l (lines_from k text p.at)) ≡ Err r → Found text p l r)
      → first_ruling (lines_checks place.week place.sample line (and_then x (λ next. lines_from k text next))) ≡ Err r → Found text place line r
  unfolding ruling
  one_line k place line (Some (v, next)) h e go p =
      after place line v next _ _ h e refl (go (record { at = next; week = v.week; sample = v.sample }) (line + 1))
      (sym (first_append (line_checks place.week place.sample line v) (lines_checks v.week v.sample (line + 1) (lines_from k text next))) ∙ p)
  one_line k place line None h e go p = here place line (cc) h (rw e (cc))

  find_line : (k : ℕ) (place : Place) (line : ℕ) → first_ruling (lines_checks place.week place.sample line (lines_from k text place.at)) ≡ Err r → Found text place line r
  unfolding lines_from
  find_line zero place line p = absurd cc
  find_line (suc k) place line p =
      ⊎_elim
      (λ (b : ltb place.at (length text) ≡ true).
      one_line k place line _ (ltb-true place.at (length text) b) refl (find_line k) (rw b at p))
      (λ (b : ltb place.at (length text) ≡ false). absurd (refused_none (rw b at p)))
      (cases_Bool (ltb place.at (length text)))
    where
      refused_none : Path (Result (Unit {0}) RefusedText) (Ok tt) (Err r) → ⊥
      refused_none q = cc

verdict_refused : (x : Result (Unit {0}) RefusedText) (n : ℕ) (r : RefusedText) → verdict x n ≡ Err r → x ≡ Err r
verdict_refused (Ok fine) n r e = absurd cc
verdict_refused (Err s) n r e = cc

two_checks : (a b : Bool) (ls : List (Check RefusedText)) (r : RefusedText) → first_ruling (check a TooLong 0 ∷ check b BadNames 1 ∷ ls) ≡ Err r → 2 ≤ r.line → first_ruling ls ≡ Err r
two_checks true b ls r e h = absurd (low 0 r.line (cc) (omega arith) h)
  where
    low : (m n : ℕ) → n ≡ m → m < 2 → 2 ≤ n → ⊥
    low m n e l h = omega arith
two_checks false true ls r e h = absurd (low 1 r.line (cc) (omega arith) h)
  where
    low : (m n : ℕ) → n ≡ m → m < 2 → 2 ≤ n → ⊥
    low m n e l h = omega arith
two_checks false false ls r e h = e

-- a fault for number 17, and for no other
why_fault : (r : RefusedText) (x : LineRead) (place : Place) (b : Bool) → Why r x place → b ≡ is_some x → (r.refusal ≡ BadLine → b ≡ false) × (r.refusal ≢ BadLine → b ≡ true)
why_fault r None place b w e = (λ p. e, λ ne. absurd (ne w))
why_fault r (Some (v, next)) place b w e = (λ p. absurd (w.1 p), λ ne. e)

pub line_found : LineFound
unfolding judged lines_at
line_found text r e h =
    let lines = lines_checks 0 0 2 (lines_from (length text) text first_place.at) in
    let refused : first_ruling lines ≡ Err r =
    two_checks (ltb 65536 (length text)) (not (starts_with names_line text)) lines r (verdict_refused (first_ruling (text_checks text)) (starts (value_lines text)) r e) h in
    let f : Found text first_place 2 r = find_line text r (length text) first_place 2 refused in
    let faults = why_fault r (line_at text f.found.at) f.found _ f.why (fault_exact text f.found.at) in
    let steps : r.line - 2 ≡ f.steps = omega (arith, f.at_line) in (
      f.found,
      record {
        placed = rw steps f.placed;
        inside = f.inside;
        why = f.why;
        fault = faults.0;
        fine = faults.1;
      },
    )

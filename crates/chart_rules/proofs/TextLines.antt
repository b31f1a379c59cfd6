-- The lines of a text, one after another: one law for each way that a loop goes.
use mathlib.Core.Path.{◌≡◌, refl, sym, ap, ◌∙◌}
use mathlib.Core.Bool.{cond}
use mathlib.Core.List.{List, [], ◌∷◌}
use Prim.Native.Nat.{ℕ, zero, suc, ◌+◌, ◌≤◌, ◌<◌}
use native.Mathlib.Omega.{arith}
use lib.ListN.{length}
use lib.Dec.{ltb}
use borrow.Author.Tests.{lt-ltb, le-ltb}
use Rattle.chart_rules.specs.TextLines.{LineRead, line_at}
use Rattle.chart_rules.specs.Judging.{and_then, lines_from, lines_at}
use Rattle.chart_rules.specs.declared.ValueLine.{ValueLine}
use Rattle.chart_rules.proofs.Canonical.{line_forward}
use mathlib.Core.Logic.{⊎_elim}
use Rattle.std.proofs.lemmas.Bool.{cases_lt}
use Rattle.std.specs.Prelude.{Option, Some, None}

none_left : (k : ℕ) (text : List ℕ) (at : ℕ) → length text ≤ at → lines_from k text at ≡ []
unfolding lines_from
none_left zero text at h = refl
none_left (suc k) text at h = rw (le-ltb _ _ h)

same_lines : (x : LineRead) (f g : ℕ → List (Option ValueLine)) → ((v : ValueLine) (next : ℕ) → x ≡ Some (v, next) → f next ≡ g next) → and_then x f ≡ and_then x g
same_lines (Some (v, next)) f g h = ap (λ (l : List (Option ValueLine)). Some v ∷ l) (h v next refl)
same_lines None f g h = refl

-- a bound that reaches the text's end gives what any other such bound gives
enough : (j k : ℕ) (text : List ℕ) (at : ℕ) → length text ≤ at + j → length text ≤ at + k → lines_from j text at ≡ lines_from k text at
unfolding lines_from
enough zero k text at h l = sym (none_left k text at (omega arith))
enough (suc j) zero text at h l = none_left (suc j) text at (omega arith)
enough (suc j) (suc k) text at h l =
    ap (λ (ls : List (Option ValueLine)). cond (ltb at (length text)) ls [])
    (same_lines (line_at text at) (lines_from j text) (lines_from k text)
    (λ v next e. enough j k text next (omega (arith, line_forward text at next v e)) (omega (arith, line_forward text at next v e))))

module _ (text : List ℕ) (at : ℕ) where
  pub lines_end : length text ≤ at → lines_at text at ≡ []
  unfolding lines_at
  lines_end h = none_left (length text) text at h

  -- one line first, and then those from where it ends
  lines_first : at < length text → lines_at text at ≡ and_then (line_at text at) (λ next. lines_at text next)
  unfolding lines_at lines_from
  lines_first h =
      enough (length text) (suc (length text)) text at (omega arith) (omega arith)
      ∙ (rw (lt-ltb _ _ h))

  pub lines_bad : at < length text → line_at text at ≡ None → lines_at text at ≡ None ∷ []
  lines_bad h e = lines_first h ∙ rw e

  pub lines_more : (v : ValueLine) (next : ℕ) → at < length text → line_at text at ≡ Some (v, next) → lines_at text at ≡ Some v ∷ lines_at text next
  lines_more v next h e = lines_first h ∙ rw e

few_then : (k : ℕ) (rest : ℕ → List (Option ValueLine)) → ((next : ℕ) → length (rest next) ≤ k) → (x : LineRead) → length (and_then x rest) ≤ suc k
few_then k rest h (Some (v, next)) = omega (arith, h next)
few_then k rest h None = omega arith

few_from : (k : ℕ) (text : List ℕ) (at : ℕ) → length (lines_from k text at) ≤ k
unfolding lines_from
few_from zero text at = omega arith
few_from (suc k) text at =
    ⊎_elim
    (λ i. rw (lt-ltb at (length text) i) (few_then k (lines_from k text) (few_from k text) (line_at text at)))
    (λ e. rw (le-ltb at (length text) e) (omega arith))
    (cases_lt at (length text))

-- a text has no more lines than bytes
pub lines_few : (text : List ℕ) (at : ℕ) → length (lines_at text at) ≤ length text
unfolding lines_at
lines_few text at = few_from (length text) text at

-- for the code that goes from line to line
pub ruleset lines_steps = (lines_end, lines_bad, lines_more)

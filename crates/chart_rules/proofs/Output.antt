-- The output of several sets, and the number of a good text's sets.
use mathlib.Core.Path.{◌≡◌, refl, sym, ap, ◌∙◌}
use mathlib.Core.List.{List, [], ◌∷◌, ◌++◌, append_assoc}
use mathlib.Core.Bool.{cond}
use Prim.Native.Nat.{ℕ, ◌*◌, ◌≤◌, ◌+◌, ◌<◌}
use native.Mathlib.Omega.{arith}
use lib.ListN.{length, length-append}
use lib.Dec.{eqb}
use borrow.Author.Tests.{eq-eqb}
use Rattle.whole.proofs.ListLaws.{by_test}
use Rattle.chart_rules.specs.Calls.{result_of, bytes_of}
use Rattle.chart_rules.specs.Gathering.{Gathered, finished, none, joined, closed, kept, sets_of}
use Rattle.chart_rules.specs.Output.{chart_all, chart_after, text_sets, text_lines}
use Rattle.chart_rules.specs.Fine.{GoodLines}
use Rattle.chart_rules.specs.Judging.{value_lines, starts}
use Rattle.chart_rules.specs.declared.Chart.{Chart}
use Rattle.chart_rules.specs.declared.ValueLine.{ValueLine}
use Rattle.chart_rules.proofs.Results.{line_fits}
use Rattle.chart_rules.proofs.Gathering.{finished_some}
use Rattle.chart_rules.proofs.Rulings.{fine_first}
use Rattle.std.specs.Prelude.{Option, Some, None}

pub chart_append : (c : Chart) (a b : List Gathered) → chart_all c (a ++ b) ≡ chart_all c a ++ chart_all (chart_after c a) b
unfolding chart_all chart_after
chart_append c [] b = refl
chart_append c (s ∷ a) b =
    let r = result_of c s.week s.numbers 40 in
    ap (λ (l : List ℕ). bytes_of r.answer ++ l) (chart_append r.chart a b) ∙ sym (append_assoc (bytes_of r.answer) _ _)

pub chart_short : (c : Chart) (l : List Gathered) → length (chart_all c l) ≤ 40 * length l
unfolding chart_all
chart_short c [] = omega arith
chart_short c (s ∷ l) =
    let r = result_of c s.week s.numbers 40 in
    simp length-append (omega (arith, line_fits.forty c s.week s.numbers 40, chart_short r.chart l))

-- ---- the number of a good text's sets
joined_some : (s : Gathered) (v : ValueLine) → 0 < length (joined s v).numbers
joined_some s v = simp length-append (omega arith)

closed_length : (s : Gathered) (v : ValueLine) → 0 < length s.numbers → length (closed s v) ≡ cond (eqb v.sample 1) 1 0
unfolding closed
closed_length s v h =
    rw (finished_some s h)
    (by_test (eqb v.sample 1) (λ t. length {A = Gathered} (cond t (s ∷ []) []) ≡ cond t 1 0) (λ e. refl) (λ e. refl))

count_from : (week sample : ℕ) (s : Gathered) (ls : List (Option ValueLine)) → 0 < length s.numbers → GoodLines week sample ls → starts ls + 1 ≡ length (sets_of s ls)
unfolding starts sets_of GoodLines
count_from week sample s [] h g = sym (ap length (finished_some s h))
count_from week sample s (None ∷ ls) h g = absurd g
count_from week sample s (Some v ∷ ls) h g =
    let t = joined (kept s v) v in
    omega (
      arith,
      count_from v.week v.sample t ls (joined_some (kept s v) v) g.1,
      closed_length s v h,
      length-append (closed s v) (sets_of t ls),
    )

pub first_sets : (v : ValueLine) (ls : List (Option ValueLine)) → v.sample ≡ 1 → sets_of none (Some v ∷ ls) ≡ sets_of (joined none v) ls
unfolding sets_of closed kept finished
first_sets v ls e = rw (eq-eqb _ 1 e)

first_start : (v : ValueLine) → v.sample ≡ 1 → cond {A = ℕ} (eqb v.sample 1) 1 0 ≡ 1
first_start v e = rw (eq-eqb v.sample 1 e)

none_sets : length (sets_of none []) ≡ 0
unfolding sets_of finished
none_sets = refl

count_sets : (ls : List (Option ValueLine)) → GoodLines 0 0 ls → starts ls ≡ length (sets_of none ls)
unfolding starts GoodLines
count_sets [] g = sym none_sets
count_sets (None ∷ ls) g = absurd g
count_sets (Some v ∷ ls) g =
    let one = fine_first 0 v g.0 in
    omega (
      arith,
      count_from v.week v.sample (joined none v) ls (joined_some none v) g.1,
      first_start v one,
      ap length (first_sets v ls one),
    )

-- a good text has as many sets as lines that start one
pub text_count : (text : List ℕ) → GoodLines 0 0 (value_lines text) → starts (value_lines text) ≡ length (text_sets text)
unfolding text_sets
text_count text g = count_sets (value_lines text) g

pub text_short : (text : List ℕ) → length (text_lines text) ≤ 40 * length (text_sets text)
unfolding text_lines
text_short text = chart_short _ (text_sets text)

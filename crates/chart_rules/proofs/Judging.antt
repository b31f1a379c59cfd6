-- The judgement of a text's lines: one law for each way that the loop goes.
use mathlib.Core.Path.{◌≡◌, refl, sym, ap, ◌∙◌}
use mathlib.Core.Bool.{true, not, cond}
use mathlib.Core.List.{List, [], ◌∷◌}
use Prim.Native.Nat.{ℕ, ◌+◌, ◌≤◌, ◌<◌}
use native.Mathlib.Omega.{arith}
use lib.ListN.{length}
use lib.Dec.{ltb, eqb}
use borrow.Author.Tests.{ne_eqb, not-false}
use Rattle.std.proofs.lemmas.Bool.{cond_both}
use Rattle.chart_rules.specs.TextLines.{line_at, names_line, starts_with}
use Rattle.chart_rules.specs.Judging.{first_ruling, line_checks, ruling, lines_at, value_lines, lines_checks, text_checks, starts, verdict, judged}
use Rattle.chart_rules.specs.Fine.{GoodLines}
use Rattle.chart_rules.specs.declared.ValueLine.{ValueLine}
use Rattle.chart_rules.proofs.Rulings.{otherwise, first_append, fine_both, fine_line, fine_sample}
use Rattle.chart_rules.proofs.Fine.{fine_head}
use Rattle.chart_rules.proofs.TextLines.{lines_bad}
use Rattle.chart_rules.specs.declared.TextRefusal.TheVariants.{BadLine}
use Rattle.std.specs.Prelude.{Option, Some, None, Result, Ok, Err}
use Rattle.chart_rules.specs.declared.RefusedText.{RefusedText}

-- ---- lines in turn
first_lines : (week sample line : ℕ) (v : ValueLine) (ls : List (Option ValueLine))
    → first_ruling (lines_checks week sample line (Some v ∷ ls)) ≡ otherwise (ruling week sample line v) (first_ruling (lines_checks v.week v.sample (line + 1) ls))
unfolding ruling
first_lines week sample line v ls = first_append (line_checks week sample line v) (lines_checks v.week v.sample (line + 1) ls)

pub good_lines : (week sample line : ℕ) (ls : List (Option ValueLine)) → first_ruling (lines_checks week sample line ls) ≡ Ok tt → GoodLines week sample ls
unfolding GoodLines
good_lines week sample line [] e = tt
good_lines week sample line (None ∷ ls) e = absurd cc
good_lines week sample line (Some v ∷ ls) e =
    let p = fine_both (ruling week sample line v) _ (sym (first_lines week sample line v ls) ∙ e) in
    (fine_line week sample line v p.0, good_lines v.week v.sample (line + 1) ls p.1)

-- the verdict on what is left, after so many sets
abbrev pub verdict_at : ℕ → ℕ → ℕ → ℕ → List (Option ValueLine) → Result ℕ RefusedText
verdict_at week sample sets line ls = verdict (first_ruling (lines_checks week sample line ls)) (sets + starts ls)

module _ (week sample sets line : ℕ) where
  pub judge_end : (ls : List (Option ValueLine)) → ls ≡ [] → verdict_at week sample sets line ls ≡ Ok sets
  unfolding starts
  judge_end ls e = rw e (ap Ok (omega arith))

  -- a line that can't be read
  pub judge_bad : (text : List ℕ) (at : ℕ) → at < length text → line_at text at ≡ None
      → verdict_at week sample sets line (lines_at text at) ≡ Err (record { refusal = BadLine; line = line })
  judge_bad text at inside e = rw (lines_bad text at inside e)

  module _ (v : ValueLine) (ls : List (Option ValueLine)) where
    pub judge_refused : (r : RefusedText) → ruling week sample line v ≡ Err r → verdict_at week sample sets line (Some v ∷ ls) ≡ Err r
    unfolding otherwise
    judge_refused r f = ap (λ (x : Result (Unit {0}) RefusedText). verdict x (sets + starts (Some v ∷ ls))) (rw f at (first_lines week sample line v ls))

    pub judge_more : ruling week sample line v ≡ Ok tt
        → verdict_at week sample sets line (Some v ∷ ls) ≡ verdict_at v.week v.sample (sets + cond (eqb v.sample 1) 1 0) (line + 1) ls
    unfolding otherwise starts
    judge_more f =
        let n : sets + starts (Some v ∷ ls) ≡ (sets + cond (eqb v.sample 1) 1 0) + starts ls = omega arith in
        let g : first_ruling (lines_checks week sample line (Some v ∷ ls)) ≡ first_ruling (lines_checks v.week v.sample (line + 1) ls) = rw f at (first_lines week sample line v ls) in
        λ i. verdict (g i) (n i)

-- ---- a text that is good
pub good_checks : (x : Result (Unit {0}) RefusedText) (sets n : ℕ) → verdict x sets ≡ Ok n → (x ≡ Ok tt) × (sets ≡ n)
good_checks (Ok fine) sets n e = (refl, cc)
good_checks (Err r) sets n e = absurd cc

module _ (text : List ℕ) (n : ℕ) (e : judged text ≡ Ok n) where
  pub good_fine : first_ruling (text_checks text) ≡ Ok tt
  unfolding judged
  good_fine = (good_checks (first_ruling (text_checks text)) (starts (value_lines text)) n e).0

  pub good_starts : starts (value_lines text) ≡ n
  unfolding judged
  good_starts = (good_checks (first_ruling (text_checks text)) (starts (value_lines text)) n e).1

-- what a text knows to which none of 15 to 19 and 21 applies
pub record FineText (text : List ℕ) : Type 0 where
  pub names : starts_with names_line text ≡ true
  pub lines : GoodLines 0 0 (value_lines text)

pub fine_text : (text : List ℕ) → first_ruling (text_checks text) ≡ Ok tt → FineText text
fine_text text e =
    let a = fine_head (ltb 65536 (length text)) _ _ e in
    let b = fine_head (not (starts_with names_line text)) _ _ a.1 in
    record { names = not-false _ b.0; lines = good_lines 0 0 2 (value_lines text) b.1 }

pub one_or_none : (sample : ℕ) → cond {A = ℕ} (eqb sample 1) 1 0 ≤ 1
one_or_none sample = cond_both (eqb sample 1) 1 0 (λ k. k ≤ 1) (λ e. omega arith) (λ e. omega arith)

-- before the first line no set was counted
pub judge_start : (ls : List (Option ValueLine)) → verdict_at 0 0 0 2 ls ≡ verdict (first_ruling (lines_checks 0 0 2 ls)) (starts ls)
judge_start ls = ap (verdict (first_ruling (lines_checks 0 0 2 ls))) (omega arith)

pub not_one : (sample : ℕ) → (sample ≡ 1 → ⊥) → cond {A = ℕ} (eqb sample 1) 1 0 ≡ 0
not_one sample ne = rw (ne_eqb sample 1 ne)

-- the sample number of a line that is not refused
pub judged_sample : (week sample line : ℕ) (v : ValueLine) → ruling week sample line v ≡ Ok tt → v.sample ≤ 5
judged_sample week sample line v e = fine_sample week sample v (fine_line week sample line v e)

-- for the code that goes from line to line
pub ruleset judge_steps = (judge_start, judge_end, judge_refused, judge_more, judged_sample, one_or_none)

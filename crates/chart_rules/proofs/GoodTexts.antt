-- A good text: every one of its sets is charted, and there are at most 9999, so the program's buffer holds its output.
use mathlib.Core.Path.{◌≡◌, refl, sym, ap, ◌∙◌, subst}
use mathlib.Core.Bool.{true, false, cond}
use mathlib.Core.Logic.{⊎_elim}
use mathlib.Core.List.{List, [], ◌∷◌, ◌++◌, append_assoc, append-nil}
use Prim.Native.Nat.{ℕ, ◌+◌, ◌*◌, ◌%◌, ◌≤◌, ◌<◌}
use native.Mathlib.Omega.{arith}
use lib.IntN.{ℤ}
use lib.ListN.{length, length-append}
use borrow.Author.Tests.{lt-leb, le-ltb, ne_eqb}
use Rattle.std.proofs.lemmas.Bool.{cases_eq}
use Rattle.whole.specs.Lists.{Check}
use Rattle.whole.proofs.Tests.{or_none}
use Rattle.whole.proofs.ListLaws.{by_test}
use Rattle.chart_rules.specs.Refusals.{bad_week, bad_size, outside, bad_result, refusal_of}
use Rattle.chart_rules.specs.Calls.{decided, accepted, result_of, chart_says}
use Rattle.chart_rules.specs.Charts.{sound, fresh_chart, next_chart}
use Rattle.chart_rules.specs.Judging.{first_ruling, value_lines, lines_checks, text_checks, starts, verdict, judged, pair, text_number}
use Rattle.chart_rules.specs.Fine.{FineLine, GoodLines}
use Rattle.chart_rules.specs.Gathering.{Gathered, none, joined, finished, closed, kept, sets_of}
use Rattle.chart_rules.specs.Output.{output_names, text_sets, text_lines, output_of, answer_of, text_says}
use Rattle.chart_rules.specs.Laws.{AllCharted, set_results, line_results, lines_read, GoodCharted, program_room, ProgramFits}
use Rattle.chart_rules.specs.declared.ValueLine.{ValueLine}
use Rattle.chart_rules.specs.declared.Chart.{Chart}
use Rattle.chart_rules.proofs.Charts.{fresh_sound}
use Rattle.chart_rules.proofs.Calls.{stays_sound}
use Rattle.chart_rules.proofs.Rulings.{fine_next, fine_start, fine_first}
use Rattle.chart_rules.proofs.Judging.{fine_text, one_or_none, not_one}
use Rattle.chart_rules.proofs.Gathering.{finished_some, closed_start, closed_next, kept_start, kept_next}
use Rattle.chart_rules.proofs.Output.{first_sets, text_count, text_short}
use Rattle.chart_rules.proofs.Answering.{refused_answer, full_answer, written_fine, written_length}
use Rattle.std.specs.Prelude.{Option, Some, None, Result, Ok, Err}
use Rattle.chart_rules.specs.declared.RefusedText.{RefusedText}

-- ---- a set under way is one that the chart accepts
record Ready (c : Chart) (s : Gathered) : Type 0 where
  size : bad_size (length s.numbers) ≡ false
  results : bad_result s.numbers ≡ false
  time : bad_week c.week s.week ≡ false

accepts : (c : Chart) (s : Gathered) → sound c ≡ true → Ready c s → refusal_of c s.week s.numbers 40 ≡ Ok tt
unfolding refusal_of
accepts c s e r = rw (e, r.time, r.size, r.results)

accepted_says : (c : Chart) (s : Gathered) → sound c ≡ true → Ready c s → (chart_says (result_of c s.week s.numbers 40).answer).number ≡ None
unfolding result_of decided accepted
accepted_says c s e r = rw (accepts c s e r)

week_after : (c : Chart) (s : Gathered) → sound c ≡ true → Ready c s → (result_of c s.week s.numbers 40).chart.week ≡ s.week
unfolding result_of decided accepted next_chart
week_after c s e r = rw (accepts c s e r)

size_ok : (k : ℕ) → 1 ≤ k → k ≤ 5 → bad_size (2 * k) ≡ false
unfolding bad_size
size_ok k h l = rw (ne_eqb (2 * k) 0 (omega arith), le-ltb 10 (2 * k) (omega arith), ne_eqb (2 * k % 2) 1 (omega arith))

week_ok : (last week : ℕ) → last < week → week ≤ 9999 → bad_week last week ≡ false
unfolding bad_week
week_ok last week h l = rw (lt-leb week last h, le-ltb 9999 week l)

results_ok : (l : List ℤ) (v : ValueLine) → bad_result l ≡ false → bad_result (pair v) ≡ false → bad_result (l ++ pair v) ≡ false
unfolding bad_result
results_ok [] v e f = f
results_ok (z ∷ l) v e f = let p = or_none (outside z) (bad_result l) e in rw p.0 (results_ok l v p.1 f)

no_results : bad_result [] ≡ false
unfolding bad_result
no_results = refl

first_ready : (c : Chart) (week sample : ℕ) (v : ValueLine) → c.week < v.week → v.week ≤ 9999 → FineLine week sample v → Ready c (joined none v)
first_ready c week sample v h l f =
    record { size = size_ok 1 (omega arith) (omega arith); results = results_ok [] v no_results f.results; time = week_ok c.week v.week h l }

charted_from : (c : Chart) (s : Gathered) (sample : ℕ) (ls : List (Option ValueLine)) → sound c ≡ true → Ready c s → 1 ≤ sample → length s.numbers ≡ 2 * sample
    → GoodLines s.week sample ls → AllCharted c (sets_of s ls)
unfolding sets_of AllCharted GoodLines
charted_from c s sample [] e r h n g = rw (finished_some s (omega arith)) (accepted_says c s e r, tt)
charted_from c s sample (None ∷ ls) e r h n g = absurd g
charted_from c s sample (Some v ∷ ls) e r h n g =
    let c' = (result_of c s.week s.numbers 40).chart in
    let fine = g.0 in
    ⊎_elim
    (λ one.
    let w = fine_start s.week sample v fine one in
    let soon : c'.week < v.week = omega (arith, week_after c s e r, w.0) in
    rw (closed_start s v one, kept_start s v one, finished_some s (omega arith)) (
      accepted_says c s e r,
      charted_from c' (joined none v) v.sample ls (stays_sound.charted c s.week s.numbers 40 e) (first_ready c' s.week sample v soon w.1 fine)
          (omega arith) (omega arith) g.1,
    ))
    (λ other.
    let p = fine_next s.week sample v fine other in
    let t = joined s v in
    let long : length t.numbers ≡ 2 * (sample + 1) = simp length-append (omega arith) in
    let ready : Ready c t = record {
      size = ap bad_size long ∙ size_ok (sample + 1) (omega arith) (omega (arith, p.0));
      results = results_ok s.numbers v r.results fine.results;
      time = ap (bad_week c.week) p.2 ∙ r.time;
    } in
    rw (closed_next s v other, kept_next s v other)
    (charted_from c t v.sample ls e ready (omega (arith, p.1)) (omega (arith, long, p.1)) g.1))
    (cases_eq v.sample 1)

none_empty : sets_of none [] ≡ []
unfolding sets_of finished
none_empty = refl

charted_lines : (c : Chart) (ls : List (Option ValueLine)) → sound c ≡ true → c.week ≡ 0 → GoodLines 0 0 ls → AllCharted c (sets_of none ls)
unfolding GoodLines AllCharted
charted_lines c [] e z g = rw none_empty tt
charted_lines c (None ∷ ls) e z g = absurd g
charted_lines c (Some v ∷ ls) e z g =
    let one = fine_first 0 v g.0 in
    let w = fine_start 0 0 v g.0 one in
    rw (first_sets v ls one)
    (charted_from c (joined none v) v.sample ls e (first_ready c 0 0 v (omega (arith, w.0)) w.1 g.0) (omega arith) (omega arith) g.1)

good_accepted : (text : List ℕ) (room n : ℕ) → answer_of text room ≡ Ok n → AllCharted (fresh_chart 0) (text_sets text)
unfolding text_sets
good_accepted text room n e = charted_lines (fresh_chart 0) (value_lines text) (fresh_sound 0 refl) refl (fine_text text (written_fine text room n e)).lines

-- ---- the sets have all the lines' results
results_append : (a b : List Gathered) → set_results (a ++ b) ≡ set_results a ++ set_results b
unfolding set_results
results_append [] b = refl
results_append (s ∷ a) b = ap (λ (l : List ℤ). s.numbers ++ l) (results_append a b) ∙ sym (append_assoc s.numbers (set_results a) (set_results b))

finished_none : (s : Gathered) → s.numbers ≡ [] → set_results (finished s) ≡ []
unfolding finished set_results
finished_none s e = rw e

one_set : (s : Gathered) → set_results (s ∷ []) ≡ s.numbers
unfolding set_results
one_set s = append-nil s.numbers

finished_results : (s : Gathered) → set_results (finished s) ≡ s.numbers
finished_results s = go s.numbers refl
  where
    go : (l : List ℤ) → s.numbers ≡ l → set_results (finished s) ≡ s.numbers
    go [] e = finished_none s e ∙ sym e
    go (z ∷ l) e = ap set_results (finished_some s (omega (arith, ap length e))) ∙ one_set s

none_first : (s : Gathered) → set_results [] ++ s.numbers ≡ s.numbers
unfolding set_results
none_first s = refl

-- what a line closes and what it keeps have all the results so far
split : (s : Gathered) (v : ValueLine) → set_results (closed s v) ++ (kept s v).numbers ≡ s.numbers
split s v =
    ⊎_elim
    (λ one. rw (closed_start s v one, kept_start s v one) (append-nil (set_results (finished s)) ∙ finished_results s))
    (λ other. rw (closed_next s v other, kept_next s v other) (none_first s))
    (cases_eq v.sample 1)

complete_from : (s : Gathered) (ls : List (Option ValueLine)) → set_results (sets_of s ls) ≡ s.numbers ++ line_results (lines_read ls)
unfolding sets_of line_results lines_read
complete_from s [] = finished_results s ∙ sym (append-nil s.numbers)
complete_from s (None ∷ ls) = finished_results s ∙ sym (append-nil s.numbers)
complete_from s (Some v ∷ ls) =
    let rest = line_results (lines_read ls) in
    let k = (kept s v).numbers in
    results_append (closed s v) (sets_of (joined (kept s v) v) ls)
    ∙ ap (λ (l : List ℤ). set_results (closed s v) ++ l) (complete_from (joined (kept s v) v) ls ∙ append_assoc k (pair v) rest)
    ∙ sym (append_assoc (set_results (closed s v)) k (pair v ++ rest))
    ∙ ap (λ (l : List ℤ). l ++ (pair v ++ rest)) (split s v)

good_complete : (text : List ℕ) → set_results (text_sets text) ≡ line_results (lines_read (value_lines text))
unfolding text_sets
good_complete text = complete_from none (value_lines text)

pub good_charted : GoodCharted
good_charted = record { accepted = good_accepted; complete = good_complete }

-- ---- the program's buffer

-- weeks rise with every set that starts
few : (week sample : ℕ) (ls : List (Option ValueLine)) → week ≤ 9999 → GoodLines week sample ls → starts ls + week ≤ 9999
unfolding starts GoodLines
few week sample [] h g = omega arith
few week sample (None ∷ ls) h g = absurd g
few week sample (Some v ∷ ls) h g =
    ⊎_elim
    (λ one. let w = fine_start week sample v g.0 one in omega (arith, one_or_none v.sample, w.0, few v.week v.sample ls w.1 g.1))
    (λ other. let w = (fine_next week sample v g.0 other).2 in omega (arith, not_one v.sample other, few v.week v.sample ls (omega arith) g.1))
    (cases_eq v.sample 1)

-- no check of a text by itself has number 22
NotShort : Result (Unit {0}) RefusedText → Type 0
NotShort (Ok fine) = Unit {0}
NotShort (Err r) = text_number r.refusal < 22

AllBelow : List (Check RefusedText) → Type 0
AllBelow [] = Unit {0}
AllBelow (c ∷ cs) = (text_number c.answer.refusal < 22) × AllBelow cs

below_first : (cs : List (Check RefusedText)) → AllBelow cs → NotShort (first_ruling cs)
unfolding NotShort AllBelow
below_first [] a = tt
below_first (c ∷ cs) a =
    by_test c.applies (λ t. NotShort (cond t (Err c.answer) (first_ruling cs))) (λ e. a.0) (λ e. below_first cs a.1)

lines_below : (week sample line : ℕ) (ls : List (Option ValueLine)) → AllBelow (lines_checks week sample line ls)
unfolding AllBelow
lines_below week sample line [] = tt
lines_below week sample line (None ∷ ls) = (omega arith, tt)
lines_below week sample line (Some v ∷ ls) = (omega arith, (omega arith, (omega arith, lines_below v.week v.sample (line + 1) ls)))

text_below : (text : List ℕ) → AllBelow (text_checks text)
unfolding AllBelow
text_below text = (omega arith, (omega arith, lines_below 0 0 2 (value_lines text)))

-- the output of a text that isn't refused by itself
short_enough : (text : List ℕ) → first_ruling (text_checks text) ≡ Ok tt → length (output_of text) ≤ program_room
unfolding output_of
short_enough text e =
    let g = (fine_text text e).lines in
    let f = few 0 0 (value_lines text) (omega arith) g in
    omega (arith, length-append output_names (text_lines text), text_short text, text_count text g)

-- the two ways of a text in the program's buffer
text_cases : (text : List ℕ) (P : Result ℕ RefusedText → Type 0) → ((r : RefusedText) → text_number r.refusal < 22 → P (Err r))
    → P (Ok (length (output_of text))) → P (answer_of text program_room)
unfolding judged NotShort
text_cases text P bad good = go (first_ruling (text_checks text)) refl (below_first (text_checks text) (text_below text))
  where
    go : (x : Result (Unit {0}) RefusedText) → first_ruling (text_checks text) ≡ x → NotShort x → P (answer_of text program_room)
    go (Ok fine) e n =
        let g = (fine_text text e).lines in
        let j : judged text ≡ Ok (starts (value_lines text)) = ap (λ (y : Result (Unit {0}) RefusedText). verdict y (starts (value_lines text))) e in
        let f = few 0 0 (value_lines text) (omega arith) g in
        subst P (sym (full_answer text program_room (starts (value_lines text)) j (omega arith))) good
    go (Err r) e n =
        let j : judged text ≡ Err r = ap (λ (y : Result (Unit {0}) RefusedText). verdict y (starts (value_lines text))) e in
        subst P (sym (refused_answer text program_room r j)) (bad r n)

pub program_fits : ProgramFits
program_fits = record {
  never_short = λ text.
      text_cases text (λ a. (text_says a).number ≡ Some 22 → ⊥)
      (λ r h e. let same : text_number r.refusal ≡ 22 = cc in omega arith)
      (λ e. absurd cc);
  fits = λ text room n e. omega (arith, written_length text room n e, short_enough text (written_fine text room n e));
}

-- A chart text and its numbers determine each other: over the lines of the text, from what `lines` says of each.
use mathlib.Core.Path.{◌≡◌, refl, sym, ap, ◌∙◌}
use mathlib.Core.Logic.{⊎_elim}
use mathlib.Core.Bool.{true}
use mathlib.Core.List.{List, [], ◌∷◌, ◌++◌}
use Prim.Native.Nat.{ℕ, zero, suc, ◌+◌, ◌≤◌, ◌<◌}
use native.Mathlib.Omega.{arith}
use lib.ListN.{length, drop, length-append, length-drop, drop_of_length-le}
use lib.Seq.{drop-append_seam}
use Rattle.std.proofs.lemmas.Bool.{cases_lt}
use Rattle.std.proofs.lemmas.Slice.Eq.{starts_is}
use Rattle.std.proofs.lemmas.Bool.Decides.{Decides-eqb}
use Rattle.chart_rules.specs.TextLines.{LineRead, line_at, value_line, names_line, starts_with}
use Rattle.chart_rules.specs.Judging.{lines_at, value_lines}
use Rattle.chart_rules.specs.Fine.{GoodLines}
use Rattle.chart_rules.specs.Output.{answer_of}
use Rattle.chart_rules.specs.Laws.{lines_text, text_of, lines_read, AllFive, TextExact}
use Rattle.chart_rules.specs.declared.ValueLine.{ValueLine}
use Rattle.chart_rules.proofs.Canonical.{behind, lines_exact, some_bytes}
use Rattle.chart_rules.proofs.TextLines.{lines_end, lines_bad, lines_more}
use Rattle.chart_rules.proofs.Judging.{fine_text}
use Rattle.chart_rules.proofs.Answering.{written_fine}
use Rattle.std.specs.Prelude.{Some, None, Ok}

-- ---- what is written is read
-- a position where something stands lies inside the text
inside_at : (text : List ℕ) (at : ℕ) (rest : List ℕ) → drop at text ≡ rest → 0 < length rest → at < length text
inside_at text at rest e h = omega (arith, length-drop at text, ap length e)

end_at : (text : List ℕ) (at : ℕ) → drop at text ≡ [] → length text ≤ at
end_at text at e = omega (arith, length-drop at text, ap length e)

read_from : (text : List ℕ) (at : ℕ) (vs : List ValueLine) → drop at text ≡ lines_text vs → AllFive vs → lines_read (lines_at text at) ≡ vs
unfolding lines_text lines_read AllFive
read_from text at [] e f = ap lines_read (lines_end text at (end_at text at e))
read_from text at (v ∷ vs) e f =
    let next = at + length (value_line v) in
    let here = lines_exact.written_read text at v (lines_text vs) e f.0 in
    let in-text = inside_at text at (value_line v ++ lines_text vs) e (omega (arith, some_bytes v, length-append (value_line v) (lines_text vs))) in
    ap lines_read (lines_more text at v next in-text here)
    ∙ ap (λ (l : List ValueLine). v ∷ l) (read_from text next vs (behind text at (value_line v) (lines_text vs) e) f.1)

text_read : (vs : List ValueLine) → AllFive vs → lines_read (value_lines (text_of vs)) ≡ vs
unfolding text_of
text_read vs f = read_from (names_line ++ lines_text vs) (length names_line) vs (drop-append_seam names_line (lines_text vs)) f

-- ---- what is read was written
-- behind the end nothing is left
written_end : (text : List ℕ) (at : ℕ) → length text ≤ at → lines_text (lines_read (lines_at text at)) ≡ drop at text
unfolding lines_text lines_read
written_end text at h = rw (lines_end text at h, drop_of_length-le text h)

written_from : (k : ℕ) (text : List ℕ) (at week sample : ℕ) → length text ≤ at + k → GoodLines week sample (lines_at text at) → lines_text (lines_read (lines_at text at)) ≡ drop at text
unfolding lines_text lines_read GoodLines
written_from zero text at week sample h g = written_end text at (omega arith)
written_from (suc k) text at week sample h g = ⊎_elim (λ i. line_from i (line_at text at) refl (λ next w s. written_from k text next w s)) (λ e. written_end text at e) (cases_lt at (length text))
  where
    line_from : at < length text → (x : LineRead) → line_at text at ≡ x
        → ((next w s : ℕ) → length text ≤ next + k → GoodLines w s (lines_at text next) → lines_text (lines_read (lines_at text next)) ≡ drop next text)
        → lines_text (lines_read (lines_at text at)) ≡ drop at text
    line_from i None e again = absurd (rw (lines_bad text at i e) at g)
    line_from i (Some (v, next)) e again =
        let p = lines_exact.read_written text at next v e in
        let more = lines_more text at v next i e in
        let rest = rw more at g in
        rw more (ap (λ (l : List ℕ). value_line v ++ l) (again next v.week v.sample (omega (arith, p.1, some_bytes v)) rest.1) ∙ sym p.2)

begins : (hs cs : List ℕ) → starts_with hs cs ≡ true → hs ++ drop (length hs) cs ≡ cs
begins hs cs e = sym ((starts_is Decides-eqb cs hs true (sym e)).0 refl)

text_written : (text : List ℕ) (room n : ℕ) → answer_of text room ≡ Ok n → text_of (lines_read (value_lines text)) ≡ text
unfolding text_of
text_written text room n e =
    let f = fine_text text (written_fine text room n e) in
    ap (λ (l : List ℕ). names_line ++ l) (written_from (length text) text (length names_line) 0 0 (omega arith) f.lines)
    ∙ begins names_line text f.names

pub text_exact : TextExact
text_exact = record { written_read = text_read; read_written = text_written }

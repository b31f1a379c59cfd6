-- A text call's answer and buffer, by the way that the code went.
use mathlib.Core.Path.{◌≡◌, refl, sym, ap, ◌∙◌}
use mathlib.Core.Bool.{cond}
use mathlib.Core.List.{List, [], ◌∷◌}
use Prim.Native.Nat.{ℕ, ◌+◌, ◌*◌, ◌≤◌, ◌<◌}
use native.Mathlib.Omega.{arith}
use lib.ListN.{length, length-append}
use lib.Dec.{ltb}
use borrow.Author.Tests.{lt-ltb, le-ltb, ltb-false}
use Rattle.decimal.specs.Put.{overwritten}
use Rattle.chart_rules.specs.Judging.{first_ruling, value_lines, text_checks, starts, verdict, judged}
use Rattle.chart_rules.specs.Output.{output_names, text_sets, text_lines, output_of, room_check, call_checks, answer_of, text_bytes, TextCharted, chart_text_of, text_says}
use Rattle.chart_rules.specs.Laws.{TextUntouched}
use Rattle.chart_rules.specs.declared.TextRefusal.TheVariants.{ShortBuffer}
use Rattle.chart_rules.proofs.Rulings.{otherwise, first_append, fine_both}
use Rattle.chart_rules.proofs.Fine.{fine_head}
use Rattle.chart_rules.proofs.Judging.{good_checks, good_fine, good_starts, fine_text}
use Rattle.chart_rules.proofs.Output.{text_count, text_short}
use Rattle.std.specs.Prelude.{Some, Result, Ok, Err}
use Rattle.chart_rules.specs.declared.RefusedText.{RefusedText}

-- the buffer is too short, which names no text line
abbrev pub no_room : RefusedText
no_room = record { refusal = ShortBuffer; line = 0 }

-- ---- the answer, from the verdict
first_is : (text : List ℕ) (room : ℕ) → first_ruling (call_checks text room) ≡ otherwise (first_ruling (text_checks text)) (first_ruling (room_check text room ∷ []))
first_is text room = first_append (text_checks text) (room_check text room ∷ [])

refused_verdict : (x : Result (Unit {0}) RefusedText) (sets : ℕ) (r : RefusedText) → verdict x sets ≡ Err r → x ≡ Err r
refused_verdict (Ok fine) sets r e = absurd cc
refused_verdict (Err q) sets r e = cc

pub refused_answer : (text : List ℕ) (room : ℕ) (r : RefusedText) → judged text ≡ Err r → answer_of text room ≡ Err r
unfolding judged answer_of otherwise
refused_answer text room r e =
    let x = refused_verdict (first_ruling (text_checks text)) (starts (value_lines text)) r e in
    let y : first_ruling (call_checks text room) ≡ Err r = first_is text room ∙ ap (λ (q : Result (Unit {0}) RefusedText). otherwise q (first_ruling (room_check text room ∷ []))) x in
    ap (λ (q : Result (Unit {0}) RefusedText). verdict q (length (output_of text))) y

module _ (text : List ℕ) (room n : ℕ) (e : judged text ≡ Ok n) where
  -- the number of sets that was counted
  pub good_count : n ≡ length (text_sets text)
  good_count = sym (good_starts text n e) ∙ text_count text (fine_text text (good_fine text n e)).lines

  room_first : first_ruling (call_checks text room) ≡ cond (ltb room (40 * (n + 1))) (Err no_room) (Ok tt)
  unfolding otherwise
  room_first =
      first_is text room
      ∙ ap (λ (q : Result (Unit {0}) RefusedText). otherwise q (first_ruling (room_check text room ∷ []))) (good_fine text n e)
      ∙ ap (λ (k : ℕ). cond (ltb room (40 * (k + 1))) (Err no_room) (Ok tt)) (sym good_count)

  pub short_answer : room < 40 * (n + 1) → answer_of text room ≡ Err no_room
  unfolding answer_of
  short_answer h = rw (room_first, lt-ltb room (40 * (n + 1)) h)

  pub full_answer : 40 * (n + 1) ≤ room → answer_of text room ≡ Ok (length (output_of text))
  unfolding answer_of
  full_answer h = rw (room_first, le-ltb room (40 * (n + 1)) h)

-- a text that is written is fine
module _ (text : List ℕ) (room n : ℕ) (e : answer_of text room ≡ Ok n) where
  pub written_fine : first_ruling (text_checks text) ≡ Ok tt
  unfolding answer_of
  written_fine = (fine_both _ _ (sym (first_is text room) ∙ (good_checks (first_ruling (call_checks text room)) (length (output_of text)) n e).0)).0

  pub written_length : n ≡ length (output_of text)
  unfolding answer_of
  written_length = sym (good_checks (first_ruling (call_checks text room)) (length (output_of text)) n e).1

  -- a buffer that isn't refused holds the output
  pub written_fits : n ≤ room
  unfolding answer_of output_of
  written_fits =
      let w = good_checks (first_ruling (call_checks text room)) (length (output_of text)) n e in
      let b = fine_both _ _ (sym (first_is text room) ∙ w.0) in
      let wide = ltb-false room (40 * (length (text_sets text) + 1)) (fine_head _ _ _ b.1).0 in
      omega (arith, w.1, wide, text_short text, length-append output_names (text_lines text))

-- ---- the call's contract, from its answer and what was written
pub text_is : (text old new : List ℕ) (r : Result ℕ RefusedText)
    → r ≡ answer_of text (length old) → new ≡ overwritten (text_bytes r (output_of text)) old → ◌≡◌ {A = TextCharted} (chart_text_of text old) (record { answer = r; buffer = new })
unfolding chart_text_of
text_is text old new r is bytes =
    let all = ap (λ (a : Result ℕ RefusedText). overwritten (text_bytes a (output_of text)) old) (sym is) ∙ sym bytes in
    λ i. record { answer = sym is i; buffer = all i }

pub text_refused : (text old : List ℕ) (r : RefusedText) → answer_of text (length old) ≡ Err r
    → ◌≡◌ {A = TextCharted} (chart_text_of text old) (record { answer = Err r; buffer = old })
unfolding text_bytes
text_refused text old r e = text_is text old old (Err r) (sym e) refl

-- a refused text writes nothing
untouched : (a : Result ℕ RefusedText) (output old : List ℕ) (n : ℕ) → (text_says a).number ≡ Some n → overwritten (text_bytes a output) old ≡ old
unfolding text_bytes
untouched (Ok k) output old n e = absurd cc
untouched (Err r) output old n e = refl

pub text_untouched : TextUntouched
unfolding chart_text_of
text_untouched text buffer n e = untouched (answer_of text (length buffer)) (output_of text) buffer n e

-- What is printed, by the way that the code went.
use mathlib.Core.Path.{◌≡◌, refl, sym, ap, ◌∙◌}
use mathlib.Core.List.{List, []}
use Prim.Native.Nat.{ℕ, ◌≤◌, ◌<◌}
use lib.ListN.{length}
use borrow.Author.Tests.{lt-ltb, le-ltb}
use Rattle.decimal.specs.Put.{overwritten}
use Rattle.chart_rules.specs.Judging.{text_number}
use Rattle.chart_rules.specs.Output.{output_of, answer_of, text_bytes, TextCharted, chart_text_of}
use Rattle.chart_rules.specs.Printing.{refusal_bytes, spoken, printed, Printed, printed_of}
use Rattle.chart_rules.proofs.Answering.{written_length, written_fits}
use Rattle.std.specs.Prelude.{Result, Ok, Err}
use Rattle.chart_rules.specs.declared.RefusedText.{RefusedText}

printed_is : (text old new bytes : List ℕ) (k : ℕ) → printed text (length old) ≡ bytes → k ≡ length bytes → new ≡ overwritten bytes old
    → ◌≡◌ {A = Printed} (printed_of text old) (record { length = k; buffer = new })
unfolding printed_of
printed_is text old new bytes k e l x =
    let n = ap length e ∙ sym l in
    let b = ap (λ (y : List ℕ). overwritten y old) e ∙ sym x in
    λ i. record { length = n i; buffer = b i }

pub printed_short : (text old : List ℕ) → length old < 40 → ◌≡◌ {A = Printed} (printed_of text old) (record { length = 0; buffer = old })
unfolding printed
printed_short text old h = printed_is text old old [] 0 (rw (lt-ltb (length old) 40 h)) refl refl

module _ (text old mid : List ℕ) (h : 40 ≤ length old) (r : Result ℕ RefusedText) (e : ◌≡◌ {A = TextCharted} (chart_text_of text old) (record { answer = r; buffer = mid })) where
  answer_is : answer_of text (length old) ≡ r
  unfolding chart_text_of
  answer_is = ap (λ (x : TextCharted). x.answer) e

  buffer_is : mid ≡ overwritten (text_bytes r (output_of text)) old
  unfolding chart_text_of
  buffer_is = sym (ap (λ (x : TextCharted). x.buffer) e) ∙ ap (λ (a : Result ℕ RefusedText). overwritten (text_bytes a (output_of text)) old) answer_is

  spoken_is : printed text (length old) ≡ spoken r (output_of text)
  unfolding printed
  spoken_is = rw (le-ltb (length old) 40 h) (ap (λ (a : Result ℕ RefusedText). spoken a (output_of text)) answer_is)

  pub printed_written : (k : ℕ) → r ≡ Ok k → ◌≡◌ {A = Printed} (printed_of text old) (record { length = k; buffer = mid })
  unfolding text_bytes spoken
  printed_written k w =
      printed_is text old mid (output_of text) k
      (spoken_is ∙ ap (λ (a : Result ℕ RefusedText). spoken a (output_of text)) w)
      (written_length text (length old) k (answer_is ∙ w))
      (buffer_is ∙ ap (λ (a : Result ℕ RefusedText). overwritten (text_bytes a (output_of text)) old) w)

  pub written_room : (k : ℕ) → r ≡ Ok k → k ≤ length old
  written_room k w = written_fits text (length old) k (answer_is ∙ w)

  module _ (q : RefusedText) (w : r ≡ Err q) where
    -- a refusal has written nothing
    pub same_bytes : mid ≡ old
    unfolding text_bytes
    same_bytes = buffer_is ∙ ap (λ (a : Result ℕ RefusedText). overwritten (text_bytes a (output_of text)) old) w

    pub printed_refused : (n k : ℕ) (new : List ℕ) → n ≡ text_number q.refusal → k ≡ length (refusal_bytes n q.line) → new ≡ overwritten (refusal_bytes n q.line) mid
        → ◌≡◌ {A = Printed} (printed_of text old) (record { length = k; buffer = new })
    unfolding spoken
    printed_refused n k new e l x =
        printed_is text old new (refusal_bytes n q.line) k
        (spoken_is ∙ ap (λ (a : Result ℕ RefusedText). spoken a (output_of text)) w ∙ ap (λ (m : ℕ). refusal_bytes m q.line) (sym e))
        l
        (x ∙ ap (overwritten (refusal_bytes n q.line)) same_bytes)

-- What was printed stands at the buffer's front; and the definitions by their numbers.
use mathlib.Core.Path.{◌≡◌, refl, sym, ap, subst, ◌∙◌}
use mathlib.Core.List.{List}
use Prim.Native.Nat.{ℕ}
use lib.ListN.{length, take, drop}
use Rattle.std.proofs.Math.Seq.{take-append_seam}
use Rattle.std.specs.Prelude.{Option, Some, None, IfSome, Result, Ok, Err, IfOk, Vec}
use Rattle.chart_rules.specs.Printing.{printed, Printed, printed_of}
use Rattle.text_print.specs.Refusing.{refused_of}
use Rattle.text_stream.specs.Streams.{text_of, written_of, refusal_in}

pub front_is : (text old new : List ℕ) (n : ℕ) → ◌≡◌ {A = Printed} (printed_of text old) (record { length = n; buffer = new })
    → take n new ≡ printed text (length old)
unfolding printed_of
front_is text old new n e =
    let bytes = printed text (length old) in
    ap (λ (k : ℕ). take k new) (sym (ap (λ (p : Printed). p.length) e))
    ∙ ap (take (length bytes)) (sym (ap (λ (p : Printed). p.buffer) e))
    ∙ take-append_seam bytes (drop (length bytes) old)

pub text_is : (held : Option (List ℕ)) (items : List ℕ) → IfSome held (λ bytes. items ≡ take 65537 bytes) → IfSome held (λ bytes. items ≡ text_of bytes)
unfolding text_of
text_is None items h = h
text_is (Some bytes) items h = h

pub read_is : {A E : Type 0} (held : Option (List ℕ)) (r : Result (Vec ℕ A) E) → IfOk r (λ text. IfSome held (λ bytes. text.items ≡ take 65537 bytes))
    → IfOk r (λ text. IfSome held (λ bytes. text.items ≡ text_of bytes))
read_is held (Ok text) h = text_is held text.items h
read_is held (Err e) h = h

pub refusal_is : (text : List ℕ) → refusal_in text ≡ refused_of text 400000
unfolding refusal_in
refusal_is text = refl

pub written_is : (text : List ℕ) → written_of text ≡ printed text 400000
unfolding written_of
written_is text = refl

-- what is known of the text that was read holds of the one that the reader held
pub of_held : (P : List ℕ → Type 0) (held : Option (List ℕ)) (items : List ℕ) → IfSome held (λ bytes. items ≡ text_of bytes) → P items → IfSome held (λ bytes. P (text_of bytes))
of_held P None items h p = h
of_held P (Some bytes) items h p = subst P h p

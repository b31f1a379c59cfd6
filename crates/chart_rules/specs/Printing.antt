-- docs/SPECIFICATION.md, "Control charts": what the program prints, the output of a text or the line of its refusal.
use Rattle.std.specs.Prelude.{ℕ, cond, List, [], ◌∷◌, ◌++◌, length, Result, Ok, Err}
use Rattle.decimal.specs.Bytes.{bytes, space, line_feed}
use Rattle.decimal.specs.Show.{show}
use Rattle.decimal.specs.Put.{overwritten}
use Rattle.chart_rules.specs.Refusals.{short_buffer}
use Rattle.chart_rules.specs.Judging.{text_number}
use Rattle.chart_rules.specs.Output.{output_of, answer_of}
use Rattle.chart_rules.specs.declared.RefusedText.{RefusedText}

-- `refused`, the number and the text line, single spaces, a line feed
unfoldable pub refusal_bytes : ℕ → ℕ → List ℕ
refusal_bytes number line = bytes "refused" ++ (space ∷ show number) ++ (space ∷ show line) ++ (line_feed ∷ [])

-- the output, or on refusal only the refusal's line
unfoldable pub spoken : Result ℕ RefusedText → List ℕ → List ℕ
spoken (Ok n) output = output
spoken (Err r) output = refusal_bytes (text_number r.refusal) r.line

-- what is printed of a text, with a buffer of this many bytes; nothing where it is too short for a line
unfoldable pub printed : List ℕ → ℕ → List ℕ
printed text room = cond (short_buffer room) [] (spoken (answer_of text room) (output_of text))

-- the printed length, and the buffer afterwards
pub record Printed : Type 0 where
  pub length : ℕ
  pub buffer : List ℕ

-- the call: what is printed stands at the buffer's start, and no later byte is touched
unfoldable pub printed_of : List ℕ → List ℕ → Printed
printed_of text buffer =
    let out = printed text (length buffer) in
    record { length = length out; buffer = overwritten out buffer }

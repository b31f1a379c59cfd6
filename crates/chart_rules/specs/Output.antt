-- docs/SPECIFICATION.md, "Control charts": the output for a whole text, its sets charted in turn, which is the chart call's own rule over them.
use Rattle.std.specs.Prelude.{ℕ, ◌+◌, ◌*◌, List, [], ◌∷◌, ◌++◌, pos, length, ltb, Some, None, Result, Ok, Err}
use Rattle.whole.specs.Lists.{Check}
use Rattle.whole.specs.Says.{Says}
use Rattle.decimal.specs.Bytes.{bytes}
use Rattle.decimal.specs.Put.{overwritten}
use Rattle.chart_rules.specs.Charts.{fresh_chart}
use Rattle.chart_rules.specs.Calls.{result_of, bytes_of}
use Rattle.chart_rules.specs.Judging.{check, text_number, first_ruling, verdict, text_checks, value_lines}
use Rattle.chart_rules.specs.Gathering.{Gathered, none, sets_of}
use Rattle.chart_rules.specs.declared.Chart.{Chart}
use Rattle.chart_rules.specs.declared.TextRefusal.TheVariants.{ShortBuffer}
use Rattle.chart_rules.specs.declared.RefusedText.{RefusedText}

-- ---- some sets charted in turn

-- the output lines of some sets on a chart, one call after another, each with a buffer of 40 bytes
unfoldable pub chart_all : Chart → List Gathered → List ℕ
chart_all c [] = []
chart_all c (s ∷ sets) =
    let r = result_of c s.week s.numbers 40 in
    bytes_of r.answer ++ chart_all r.chart sets

-- the chart after those calls
unfoldable pub chart_after : Chart → List Gathered → Chart
chart_after c [] = c
chart_after c (s ∷ sets) = chart_after (result_of c s.week s.numbers 40).chart sets

-- ---- a text's output

-- the output's names line, its line feed included
abbrev pub output_names : List ℕ
output_names = bytes "week n plot range al tl run ral rtl\n"

-- a text's sets
unfoldable pub text_sets : List ℕ → List Gathered
text_sets text = sets_of none (value_lines text)

-- their lines, on a fresh chart of wheat
unfoldable pub text_lines : List ℕ → List ℕ
text_lines text = chart_all (fresh_chart 0) (text_sets text)

-- the names line, and a line for each set
unfoldable pub output_of : List ℕ → List ℕ
output_of text = output_names ++ text_lines text

-- ---- the call

-- 22: the buffer is shorter than 40 bytes for each line to be written, the names line and one for each set (text line 0)
abbrev pub room_check : List ℕ → ℕ → Check RefusedText
room_check text room = check (ltb room (40 * (length (text_sets text) + 1))) ShortBuffer 0

-- the checks of a text call whose buffer has this many bytes, in their order
abbrev pub call_checks : List ℕ → ℕ → List (Check RefusedText)
call_checks text room = text_checks text ++ (room_check text room ∷ [])

-- the answer of a text call whose buffer has this many bytes: the length of what is written, or a refusal with its text line
unfoldable pub answer_of : List ℕ → ℕ → Result ℕ RefusedText
answer_of text room = verdict (first_ruling (call_checks text room)) (length (output_of text))

-- what an answer writes: the whole output, or nothing
unfoldable pub text_bytes : Result ℕ RefusedText → List ℕ → List ℕ
text_bytes (Ok n) output = output
text_bytes (Err r) output = []

-- a text call's answer and its buffer afterwards
pub record TextCharted : Type 0 where
  pub answer : Result ℕ RefusedText
  pub buffer : List ℕ

-- the call: the output stands at the buffer's start, and no later byte is touched
unfoldable pub chart_text_of : List ℕ → List ℕ → TextCharted
chart_text_of text buffer =
    let a = answer_of text (length buffer) in
    record { answer = a; buffer = overwritten (text_bytes a (output_of text)) buffer }

-- the written length; or the refusal's number, and the text line
abbrev pub text_says : Result ℕ RefusedText → Says
text_says (Ok n) = record { number = None; values = pos n ∷ [] }
text_says (Err r) = record { number = Some (text_number r.refusal); values = pos r.line ∷ [] }

-- Which refusal the program prints of a text, with a buffer of this many bytes: none where the text is charted, nor
-- where the buffer is too short for a line and nothing is printed.
use Rattle.std.specs.Prelude.{ℕ, cond, List, Option, None}
use Rattle.std.specs.Result.{result_err}
use Rattle.chart_rules.specs.Refusals.{short_buffer}
use Rattle.chart_rules.specs.Output.{answer_of}
use Rattle.chart_rules.specs.declared.RefusedText.{RefusedText}

unfoldable pub refused_of : List ℕ → ℕ → Option RefusedText
refused_of text room = cond (short_buffer room) None (result_err (answer_of text room))

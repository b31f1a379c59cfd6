-- docs/SPECIFICATION.md, "Control charts": what the chart program takes of its input, and what it writes of it.
use Rattle.std.specs.Prelude.{ℕ, List, Option, take, ⊤}
use Rattle.chart_rules.specs.Printing.{printed}
use Rattle.chart_rules.specs.declared.RefusedText.{RefusedText}
use Rattle.text_print.specs.Refusing.{refused_of}
use Rattle.text_stream.specs.declared.StreamError.{StreamError}
use Rattle.text_stream.specs.declared.StreamError.TheVariants.{NotRead, NotWritten}

-- the text: a byte more than a text may have, so that a longer one is seen and refused
unfoldable pub text_of : List ℕ → List ℕ
text_of held = take 65537 held

-- what is written of a text: what is printed of it, in a buffer that holds every text's output
unfoldable pub written_of : List ℕ → List ℕ
written_of text = printed text 400000

-- which refusal that tells, if it is one
unfoldable pub refusal_in : List ℕ → Option RefusedText
refusal_in text = refused_of text 400000

-- the work ended at the input
abbrev pub IsNotRead : StreamError → Type 0
IsNotRead (NotRead e) = ⊤
IsNotRead (NotWritten e) = ⊥

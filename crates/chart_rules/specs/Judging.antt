-- docs/SPECIFICATION.md, "Control charts" and "Refused calls": a chart text's lines judged in turn, numbers 15 to 19 and 21 with the text line.
use Rattle.std.specs.Prelude.{ℕ, zero, suc, ◌+◌, Bool, true, not, ◌&&◌, ◌||◌, cond, List, [], ◌∷◌, ◌++◌, ℤ, pos, length, leb, ltb, eqb, Option, Some, None, Result, Ok, Err}
use Rattle.whole.specs.Lists.{Check, first_applying}
use Rattle.chart_rules.specs.Refusals.{bad_result, bad_week}
use Rattle.chart_rules.specs.TextLines.{names_line, starts_with, LineRead, line_at}
use Rattle.chart_rules.specs.declared.ValueLine.{ValueLine}
use Rattle.chart_rules.specs.declared.TextRefusal.{TextRefusal}
use Rattle.chart_rules.specs.declared.TextRefusal.TheVariants.{TooLong, BadNames, BadLine, BadSample, BadWeek, BadResult, ShortBuffer}
use Rattle.chart_rules.specs.declared.RefusedText.{RefusedText}

-- ---- refusals of a text

-- the refusal's number
abbrev pub text_number : TextRefusal → ℕ
text_number TooLong = 15
text_number BadNames = 16
text_number BadLine = 17
text_number BadSample = 18
text_number BadWeek = 19
text_number BadResult = 21
text_number ShortBuffer = 22

-- the first that applies: a refusal with its text line
abbrev pub first_ruling : List (Check RefusedText) → Result (Unit {0}) RefusedText
first_ruling = first_applying (Ok tt) Err

-- the check of a text line
abbrev pub check : Bool → TextRefusal → ℕ → Check RefusedText
check applies refusal line = record { applies = applies; answer = record { refusal = refusal; line = line } }

-- ---- a line after the line before it, which has this week and this sample number (both 0 where there is none)

-- the week before it and the next sample number up to 5
unfoldable pub is_next : ℕ → ℕ → ValueLine → Bool
is_next week sample v = (not (eqb sample 0) && eqb v.week week) && (eqb v.sample (sample + 1) && leb v.sample 5)

-- another week and sample 1
unfoldable pub is_start : ℕ → ℕ → ValueLine → Bool
is_start week sample v = (eqb sample 0 || not (eqb v.week week)) && eqb v.sample 1

-- a line's pair
abbrev pub pair : ValueLine → List ℤ
pair v = pos v.original ∷ pos v.monitor ∷ []

-- 18: the sample number is neither the next nor a start; 19: a starting week isn't above the last or is above 9999; 21: a result is outside
abbrev pub line_checks : ℕ → ℕ → ℕ → ValueLine → List (Check RefusedText)
line_checks week sample line v =
    check (not (is_next week sample v || is_start week sample v)) BadSample line
    ∷ check (is_start week sample v && bad_week week v.week) BadWeek line
    ∷ check (bad_result (pair v)) BadResult line
    ∷ []

-- a line's ruling
unfoldable pub ruling : ℕ → ℕ → ℕ → ValueLine → Result (Unit {0}) RefusedText
ruling week sample line v = first_ruling (line_checks week sample line v)

-- ---- the lines of a text

-- a line, and those after it; a line that can't be read is the last, and stands as None
abbrev pub and_then : LineRead → (ℕ → List (Option ValueLine)) → List (Option ValueLine)
and_then (Some (v, next)) rest = Some v ∷ rest next
and_then None rest = None ∷ []

-- the value lines from position at on, at most k of them
unfoldable pub lines_from : ℕ → List ℕ → ℕ → List (Option ValueLine)
lines_from zero text at = []
lines_from (suc k) text at = cond (ltb at (length text)) (and_then (line_at text at) (λ next. lines_from k text next)) []

-- the value lines from position at on: a text has fewer lines than bytes
unfoldable pub lines_at : List ℕ → ℕ → List (Option ValueLine)
lines_at text at = lines_from (length text) text at

-- the value lines of a text, behind its names line
abbrev pub value_lines : List ℕ → List (Option ValueLine)
value_lines text = lines_at text (length names_line)

-- the lines' checks in turn, from this text line on; 17: a value line isn't as described
abbrev pub lines_checks : ℕ → ℕ → ℕ → List (Option ValueLine) → List (Check RefusedText)
lines_checks week sample line [] = []
lines_checks week sample line (None ∷ ls) = check true BadLine line ∷ []
lines_checks week sample line (Some v ∷ ls) = line_checks week sample line v ++ lines_checks v.week v.sample (line + 1) ls

-- ---- a text

-- 15: the text exceeds 65536 bytes (text line 0); 16: the names line is wrong or lacks its line feed (text line 1); then the value lines
abbrev pub text_checks : List ℕ → List (Check RefusedText)
text_checks text =
    check (ltb 65536 (length text)) TooLong 0
    ∷ check (not (starts_with names_line text)) BadNames 1
    ∷ lines_checks 0 0 2 (value_lines text)

-- how many lines start a set
unfoldable pub starts : List (Option ValueLine) → ℕ
starts [] = 0
starts (None ∷ ls) = starts ls
starts (Some v ∷ ls) = cond (eqb v.sample 1) 1 0 + starts ls

-- a number that a good text has, or its refusal
abbrev pub verdict : Result (Unit {0}) RefusedText → ℕ → Result ℕ RefusedText
verdict (Ok fine) n = Ok n
verdict (Err r) n = Err r

-- a text's verdict: the first check that applies, or the count of its sets
unfoldable pub judged : List ℕ → Result ℕ RefusedText
judged text = verdict (first_ruling (text_checks text)) (starts (value_lines text))

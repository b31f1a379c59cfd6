-- What the chart's rules and calls promise besides the calls' contracts.
use Rattle.std.specs.Prelude.{ℕ, ◌+◌, ◌≤◌, ◌<◌, ◌≡◌, true, false, List, [], ◌∷◌, ◌++◌, map, ℤ, pos, nat_abs, ◌+ℤ◌, ◌-ℤ◌, ◌*ℤ◌, ◌≤ℤ◌, ◌<ℤ◌, length, take, drop, Option, Some, None, Ok}
use Rattle.whole.specs.Lists.{total}
use Rattle.chart_rules.specs.Rows.{row_exists}
use Rattle.chart_rules.specs.Sets.{pairs_of, originals, monitors, differences, mean_of, set_of}
use Rattle.chart_rules.specs.Charts.{past_of, sound, fresh_chart, next_chart}
use Rattle.chart_rules.specs.Refusals.{number_of, bad_size, bad_result, checks_of}
use Rattle.chart_rules.specs.Calls.{open_of, result_of, bytes_of, chart_set_of, open_says, chart_says}
use Rattle.chart_rules.specs.Places.{chart_at, fresh_places, next_places}
use Rattle.chart_rules.specs.InPlace.{open_in, chart_set_in}
use Rattle.chart_rules.specs.TextLines.{names_line, line_at, value_line, FiveDigits}
use Rattle.chart_rules.specs.Judging.{pair, value_lines}
use Rattle.chart_rules.specs.Gathering.{Gathered}
use Rattle.chart_rules.specs.Output.{text_sets, answer_of, chart_text_of, text_says}
use Rattle.chart_rules.specs.declared.ChartSet.{ChartSet}
use Rattle.chart_rules.specs.declared.Chart.{Chart}
use Rattle.chart_rules.specs.declared.ValueLine.{ValueLine}

-- ---- a chart

-- a mean is at most half a hundredth from the exact one, and a half goes up
abbrev pub MeanNear : List ℤ → Type 0
MeanNear results =
    let n = pos (length results) in
    let rounded = pos 2 *ℤ (mean_of results *ℤ n) in
    let exact = pos 2 *ℤ total results in
    (rounded ≤ℤ (exact +ℤ n)) × (exact <ℤ (rounded +ℤ n))

-- how far rounding moves a set's two means and its plot, the count multiplied out; and the plot's bound
pub record PlotNear : Type 0 where
  pub means : (numbers : List ℤ) → bad_size (length numbers) ≡ false → bad_result numbers ≡ false
      → MeanNear (originals (pairs_of numbers)) × MeanNear (monitors (pairs_of numbers))
  -- a plot is less than a hundredth from the set's exact average, the sum of its differences over the count
  pub plot : (numbers : List ℤ) → bad_size (length numbers) ≡ false → bad_result numbers ≡ false
      → let s = set_of numbers in nat_abs (s.plot *ℤ pos s.count -ℤ total (differences (pairs_of numbers))) < s.count
  pub most : (numbers : List ℤ) → bad_size (length numbers) ≡ false → bad_result numbers ≡ false → nat_abs (set_of numbers).plot ≤ 10000

-- after a set the newest four are held
abbrev pub NewestFour : Type 0
NewestFour = (c : Chart) (week : ℕ) (s : ChartSet) → past_of (next_chart c week s) ≡ take 4 (s ∷ past_of c)

-- after four sets nothing is left of the chart that they came to but its row: charted on a fresh chart, they make the same one
abbrev pub FourSets : Type 0
FourSets = (c : Chart) (k l m n : ℕ) (p q r s : ChartSet)
    → next_chart (next_chart (next_chart (next_chart c k p) l q) m r) n s ≡ record { row = c.row; week = n; held = 4; sets = s ∷ r ∷ q ∷ p ∷ [] }

-- ---- its calls

-- an opened chart is sound, and a sound chart stays sound
pub record StaysSound : Type 0 where
  pub opened : (row : ℕ) → sound (open_of row).chart ≡ true
  pub charted : (c : Chart) (week : ℕ) (numbers : List ℤ) (room : ℕ) → sound c ≡ true → sound (result_of c week numbers room).chart ≡ true

-- an opening answers 1 exactly where the row doesn't exist
pub record OpenedExactly : Type 0 where
  pub opened : (row : ℕ) → row_exists row ≡ true → (open_says (open_of row).answer).number ≡ None
  pub refused : (row : ℕ) → row_exists row ≡ false → (open_says (open_of row).answer).number ≡ Some 1

-- a refused call writes nothing and hands back the chart
pub record RefusedUntouched : Type 0 where
  pub chart : (c : Chart) (week : ℕ) (numbers : List ℤ) (buffer : List ℕ) (n : ℕ)
      → (chart_says (chart_set_of c week numbers buffer).result.answer).number ≡ Some n → (chart_set_of c week numbers buffer).result.chart ≡ c
  pub buffer : (c : Chart) (week : ℕ) (numbers : List ℤ) (buffer : List ℕ) (n : ℕ)
      → (chart_says (chart_set_of c week numbers buffer).result.answer).number ≡ Some n → (chart_set_of c week numbers buffer).buffer ≡ buffer

-- a line has at most 40 bytes, so a buffer that isn't refused holds it
pub record LineFits : Type 0 where
  pub forty : (c : Chart) (week : ℕ) (numbers : List ℤ) (room : ℕ) → length (bytes_of (result_of c week numbers room).answer) ≤ 40
  pub inside : (c : Chart) (week : ℕ) (numbers : List ℤ) (room : ℕ) → length (bytes_of (result_of c week numbers room).answer) ≤ room

-- the checks stand in the order of their numbers, so the first that applies has the lowest applying number
abbrev pub Rising : List ℕ → Type 0
Rising [] = Unit {0}
Rising (n ∷ []) = Unit {0}
Rising (m ∷ n ∷ ns) = (m < n) × Rising (n ∷ ns)

abbrev pub LowestNumber : Type 0
LowestNumber = (c : Chart) (week : ℕ) (numbers : List ℤ) (room : ℕ) → Rising (map (λ check. number_of check.answer) (checks_of c week numbers room))

-- ---- a chart in its caller's places

-- what is written is read back: a fresh chart, and the chart after a set
pub record ReadBack : Type 0 where
  pub fresh : (row : ℕ) → chart_at (fresh_places row) ≡ fresh_chart row
  pub next : (words : List ℤ) (week : ℕ) (s : ChartSet) → length words ≡ 15 → chart_at (next_places words week s) ≡ next_chart (chart_at words) week s

-- the chart that is read from the places after a call is the definition's, and a refused call leaves every place
pub record HeldInPlace : Type 0 where
  pub opened : (row : ℕ) → chart_at (open_in row).places ≡ (open_of row).chart
  pub charted : (words : List ℤ) (week : ℕ) (numbers : List ℤ) (buffer : List ℕ)
      → chart_at (chart_set_in words week numbers buffer).places ≡ (result_of (chart_at words) week numbers (length buffer)).chart
  pub refused : (words : List ℤ) (week : ℕ) (numbers : List ℤ) (buffer : List ℕ) (n : ℕ)
      → (chart_says (chart_set_in words week numbers buffer).answer).number ≡ Some n → (chart_set_in words week numbers buffer).places ≡ words

-- ---- a chart text: what is read is what was written

-- a value line's bytes and its numbers determine each other, up to five digits
pub record LinesExact : Type 0 where
  -- where the text has the line of v at position at, the reader finds v and the position behind the line
  pub written_read :
      (text : List ℕ) (at : ℕ) (v : ValueLine) (rest : List ℕ)
      → drop at text ≡ value_line v ++ rest → FiveDigits v → line_at text at ≡ Some (v, at + length (value_line v))
  -- where the reader finds v and a position behind it, the text has the line of v there, with no number of more than five digits
  pub read_written :
      (text : List ℕ) (at next : ℕ) (v : ValueLine)
      → line_at text at ≡ Some (v, next) → FiveDigits v × (next ≡ at + length (value_line v)) × (drop at text ≡ value_line v ++ drop next text)

-- value lines as they are written, one after another
unfoldable pub lines_text : List ValueLine → List ℕ
lines_text [] = []
lines_text (v ∷ vs) = value_line v ++ lines_text vs

-- a chart text of these lines
unfoldable pub text_of : List ValueLine → List ℕ
text_of vs = names_line ++ lines_text vs

-- the numbers of the lines that were read
unfoldable pub lines_read : List (Option ValueLine) → List ValueLine
lines_read [] = []
lines_read (None ∷ ls) = []
lines_read (Some v ∷ ls) = v ∷ lines_read ls

-- no number of more than five digits
unfoldable pub AllFive : List ValueLine → Type 0
AllFive [] = Unit {0}
AllFive (v ∷ vs) = FiveDigits v × AllFive vs

-- a text and its numbers determine each other
pub record TextExact : Type 0 where
  pub written_read : (vs : List ValueLine) → AllFive vs → lines_read (value_lines (text_of vs)) ≡ vs
  pub read_written : (text : List ℕ) (room n : ℕ) → answer_of text room ≡ Ok n → text_of (lines_read (value_lines text)) ≡ text

-- ---- a good text's sets are the ones charted

-- every set's call is accepted, one after another
unfoldable pub AllCharted : Chart → List Gathered → Type 0
AllCharted c [] = Unit {0}
AllCharted c (s ∷ sets) =
    let r = result_of c s.week s.numbers 40 in
    ((chart_says r.answer).number ≡ None) × AllCharted r.chart sets

-- the results of some sets, and of some lines, in their order
unfoldable pub set_results : List Gathered → List ℤ
set_results [] = []
set_results (s ∷ sets) = s.numbers ++ set_results sets

unfoldable pub line_results : List ValueLine → List ℤ
line_results [] = []
line_results (v ∷ vs) = pair v ++ line_results vs

-- no set is refused, and the sets have all the lines' results in order
pub record GoodCharted : Type 0 where
  pub accepted : (text : List ℕ) (room n : ℕ) → answer_of text room ≡ Ok n → AllCharted (fresh_chart 0) (text_sets text)
  pub complete : (text : List ℕ) → set_results (text_sets text) ≡ line_results (lines_read (value_lines text))

-- ---- a refused text writes nothing
abbrev pub TextUntouched : Type 0
TextUntouched = (text buffer : List ℕ) (n : ℕ) → (text_says (chart_text_of text buffer).answer).number ≡ Some n → (chart_text_of text buffer).buffer ≡ buffer

-- ---- the program's buffer

-- weeks rise and are at most 9999, so a good text has at most 9999 sets: 40 bytes for each, and for the names line
abbrev pub program_room : ℕ
program_room = 400000

-- the program never answers 22, and no output is longer than its buffer, whatever buffer it was written to
pub record ProgramFits : Type 0 where
  pub never_short : (text : List ℕ) → (text_says (answer_of text program_room)).number ≡ Some 22 → ⊥
  pub fits : (text : List ℕ) (room n : ℕ) → answer_of text room ≡ Ok n → n ≤ program_room

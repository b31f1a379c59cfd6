-- Where a value line stops being one. A line is the text from the line's first byte on: positions count from there,
-- columns from 1.
use Rattle.std.specs.Prelude.{ℕ, ◌+◌, ◌≡◌, ◌&&◌, cond, List, ◌++◌, length, drop, take, ltb, false, Result, Ok, Err, is_ok, is_some}
use Rattle.std.specs.List.{prefix_len}
use Rattle.decimal.specs.Bytes.{space, line_feed}
use Rattle.chart_rules.specs.TextLines.{is_digit, begins, line_at}
use Rattle.text_fault.specs.Kinds.{kind_at}
use Rattle.text_fault.specs.declared.fields.Field.{Field}
use Rattle.text_fault.specs.declared.fields.Field.TheVariants.{Week, Sample, Original, Monitor}
use Rattle.text_fault.specs.declared.fields.Fault.{Fault}
use Rattle.text_fault.specs.declared.fields.Columns.{Columns}

-- how many bytes at the front can stand in a number: a lone 0, or up to five digits
unfoldable pub number_length : List ℕ → ℕ
number_length bytes = cond (begins 48 bytes) 1 (prefix_len is_digit (take 5 bytes))

-- the position behind the number that begins at start and the byte e; or the fault at the first byte that neither goes
-- on with the number nor ends it
unfoldable pub behind : List ℕ → Field → ℕ → ℕ → Result ℕ Fault
behind line field start e =
    let n = number_length (drop start line) in
    cond (ltb 0 n && begins e (drop (start + n) line)) (Ok (start + n + 1))
    (Err (record { field = field; start = start; column = start + n + 1; kind = kind_at line field start (start + n) }))

-- go on from a position, or keep the fault
unfoldable pub go_on : Result ℕ Fault → (ℕ → Result Columns Fault) → Result Columns Fault
go_on (Ok next) rest = rest next
go_on (Err fault) rest = Err fault

-- the columns at which a value line's numbers begin, or its fault
unfoldable pub fields : List ℕ → Result Columns Fault
fields line =
    go_on (behind line Week 0 space) (λ sample.
    go_on (behind line Sample sample space) (λ original.
    go_on (behind line Original original space) (λ monitor.
    go_on (behind line Monitor monitor line_feed) (λ next.
    Ok (record { sample = sample + 1; original = original + 1; monitor = monitor + 1 })))))

-- a line has no fault exactly where the rules read a value line
abbrev pub FaultExact : Type 0
FaultExact = (text : List ℕ) (at : ℕ) → is_ok (fields (drop at text)) ≡ is_some (line_at text at)

-- no value line goes on at the column: each line with the same bytes up to and with the one there has a fault as well
abbrev pub FirstByte : Type 0
FirstByte =
    (front more other : List ℕ) (fault : Fault)
    → fields (front ++ more) ≡ Err fault → fault.column ≡ length front → is_ok (fields (front ++ other)) ≡ false

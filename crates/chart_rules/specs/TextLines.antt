-- docs/SPECIFICATION.md, "Control charts": the lines of a chart text. The names line; then value lines of week, sample, original and monitor, with single spaces, each
-- ended by a line feed.
use Rattle.std.specs.Prelude.{ℕ, ◌+◌, ◌-◌, ◌*◌, ◌<◌, Bool, false, cond, List, [], ◌∷◌, ◌++◌, drop, ltb, eqb, nat_eq, Option, Some, None}
use Rattle.std.specs.List.{starts_with as begins_with}
-- an ASCII digit
pub use Rattle.std.specs.Char.{is_ascii_digit as is_digit}
use Rattle.decimal.specs.Bytes.{bytes, space, line_feed}
use Rattle.decimal.specs.Show.{show}
use Rattle.chart_rules.specs.declared.ValueLine.{ValueLine}

-- ---- the names line

-- the names line, its line feed included
abbrev pub names_line : List ℕ
names_line = bytes "week sample original monitor\n"

-- cs begins with all of hs
abbrev pub starts_with : List ℕ → List ℕ → Bool
starts_with hs cs = begins_with nat_eq cs hs

-- ---- a number: a lone 0, or a digit 1 to 9 and more digits, five at most

-- a number that is read, if there is one, and the position behind it
abbrev pub Number : Type 0
Number = Option (ℕ × ℕ)

-- the digits at the front of what stands at position i, after those that made n: the whole number and the position behind it.
-- There is no leading zero, so a number has five digits once it is 10000 or more, and a sixth is bad
unfoldable pub digits : ℕ → ℕ → List ℕ → Number
digits n i [] = Some (n, i)
digits n i (c ∷ cs) = cond (is_digit c) (cond (ltb n 10000) (digits (10 * n + (c - 48)) (i + 1) cs) None) (Some (n, i))

-- the number at the front of what stands at position i
unfoldable pub number : ℕ → List ℕ → Number
number i [] = None
number i (c ∷ cs) = cond (eqb c 48) (Some (0, i + 1)) (cond (is_digit c) (digits (c - 48) (i + 1) cs) None)

-- the number at position i of a text
unfoldable pub number_at : List ℕ → ℕ → Number
number_at text i = number i (drop i text)

-- ---- a value line

-- a value line that is read, if there is one, and the position of the next line
abbrev pub LineRead : Type 0
LineRead = Option (ValueLine × ℕ)

-- the bytes begin with e
abbrev pub begins : ℕ → List ℕ → Bool
begins e [] = false
begins e (c ∷ cs) = eqb c e

-- a number with the byte e behind it: the position moves past e
unfoldable pub ended : List ℕ → ℕ → Number → Number
ended text e (Some (n, i)) = cond (begins e (drop i text)) (Some (n, i + 1)) None
ended text e None = None

-- the number at position i, with the byte e behind it
unfoldable pub field : List ℕ → ℕ → ℕ → Number
field text e i = ended text e (number_at text i)

-- go on from a number that was read
unfoldable pub then : Number → (ℕ → ℕ → LineRead) → LineRead
then (Some (n, i)) next = next n i
then None next = None

-- the value line at position at, and the position of the next line
unfoldable pub line_at : List ℕ → ℕ → LineRead
line_at text at =
    then (field text space at) (λ week i.
    then (field text space i) (λ sample j.
    then (field text space j) (λ original k.
    then (field text line_feed k) (λ monitor next.
    Some ((record { week = week; sample = sample; original = original; monitor = monitor }), next)))))

-- ---- as it is written

-- a value line as it is written
unfoldable pub value_line : ValueLine → List ℕ
value_line v = show v.week ++ (space ∷ show v.sample ++ (space ∷ show v.original ++ (space ∷ show v.monitor ++ (line_feed ∷ []))))

-- no number of more than five digits
unfoldable pub FiveDigits : ValueLine → Type 0
FiveDigits v = (v.week < 100000) × (v.sample < 100000) × (v.original < 100000) × (v.monitor < 100000)

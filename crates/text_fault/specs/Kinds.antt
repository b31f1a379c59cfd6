-- What is wrong at a fault, by the byte that stands there.
use Rattle.std.specs.Prelude.{ℕ, Bool, true, false, ◌||◌, cond, List, [], ◌∷◌, drop, ltb, eqb}
use Rattle.chart_rules.specs.TextLines.{is_digit, begins}
use Rattle.text_fault.specs.declared.fields.Field.{Field}
use Rattle.text_fault.specs.declared.fields.Field.TheVariants.{Week, Sample, Original, Monitor}
use Rattle.text_fault.specs.declared.kinds.Before.{Before}
use Rattle.text_fault.specs.declared.kinds.Kind.{Kind}
use Rattle.text_fault.specs.declared.kinds.Kind.TheVariants.{NoLineFeed, CutShort, CarriageReturn, EmptyLine, SpaceInFront, Spacing, SpaceAtEnd, TooFew, TooMany, Point, Comma, Minus, LeadingZero, SixDigits, OtherSign}

-- a space or a tab
abbrev pub is_gap : ℕ → Bool
is_gap c = eqb c 32 || eqb c 9

-- nothing but spaces and tabs up to the line's end
unfoldable pub is_blank : List ℕ → Bool
is_blank [] = true
is_blank (c ∷ cs) = cond (is_gap c) (is_blank cs) (eqb c 13 || eqb c 10)

-- a space or a tab: whether nothing else comes, whether it is the first byte, whether four numbers stand before it
abbrev pub gap_kind : Bool → Bool → Bool → Kind
gap_kind true true done = EmptyLine
gap_kind false true done = SpaceInFront
gap_kind true false true = SpaceAtEnd
gap_kind true false false = TooFew
gap_kind false false true = TooMany
gap_kind false false false = Spacing

-- a comma stands between the whole numbers of a line, or in a decimal
abbrev pub comma_kind : Field → Kind
comma_kind Week = Spacing
comma_kind Sample = Spacing
comma_kind Original = Comma
comma_kind Monitor = Comma

-- all four numbers stand before a position, where the one under way begins at start
abbrev pub all_stand : Field → ℕ → ℕ → Bool
all_stand Week start at = false
all_stand Sample start at = false
all_stand Original start at = false
all_stand Monitor start at = ltb start at

-- the kind by the byte c, which stands first of these, behind what stands before it
unfoldable pub byte_kind : ℕ → List ℕ → Before → Kind
byte_kind c bytes before =
    cond (eqb c 13) CarriageReturn
    (cond (eqb c 10) (cond before.nothing EmptyLine TooFew)
    (cond (is_gap c) (gap_kind (is_blank bytes) before.nothing before.all)
    (cond (eqb c 44) (comma_kind before.field)
    (cond (eqb c 46) Point
    (cond (eqb c 45) Minus
    (cond (is_digit c) (cond before.zero LeadingZero SixDigits)
    OtherSign))))))

-- the kind of what stands there
unfoldable pub bytes_kind : List ℕ → Before → Kind
bytes_kind [] before = cond before.all NoLineFeed CutShort
bytes_kind (c ∷ cs) before = byte_kind c (c ∷ cs) before

-- the kind of what stands at a position of a line, in the number that begins at start
unfoldable pub kind_at : List ℕ → Field → ℕ → ℕ → Kind
kind_at line field start at =
    bytes_kind (drop at line)
    (record { field = field; zero = begins 48 (drop start line); nothing = eqb at 0; all = all_stand field start at })

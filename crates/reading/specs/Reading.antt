-- docs/SPECIFICATION.md, "Analyser readings" and number 9: what a float in percent reads as.
use Rattle.std.specs.Prelude.{Some, None, Option, Bool, false, not, ◌&&◌, ◌||◌, cond, ℕ, ◌+◌, ◌*◌, ◌/◌, ◌^◌, leb, eqb, Float}
use Rattle.std.specs.Float.{nan, inf, fin}
use Rattle.std.specs.Float.Ieee.{up, down}

-- a unit is 2^−149: so many make 1
abbrev pub unit : ℕ
unit = 2 ^ 149

-- "A finite float's exact value is a whole number of units of 2^−149": the magnitude of `fin s m e` is m * up e / down e, so this many units
unfoldable pub units_of : Float → ℕ
units_of nan = 0
units_of (inf s) = 0
units_of (fin s m e) = m * up e * unit / down e

-- number 9 doesn't apply: the float is a number, not below zero and not above 100. "Minus zero is zero."
unfoldable pub in_range : Float → Bool
in_range nan = false
in_range (inf s) = false
in_range (fin s m e) = (not s || eqb m 0) && leb (m * up e) (100 * down e)

-- "the whole hundredth nearest to 100 times the float's exact value, an exact half going up": 100 * units / unit + 1/2, cut to a whole number
unfoldable pub reading_of : Float → ℕ
unfolding units_of
reading_of x = (200 * units_of x + unit) / (2 * unit)

-- what is answered, for every float
unfoldable pub answer_of : Float → Option ℕ
unfolding in_range reading_of
answer_of x = cond (in_range x) (Some (reading_of x)) None

-- what an answer says in the rules' words: a reading in hundredths, or the number of a refusal
pub data Said : Type 0 where
  hundredths : ℕ → Said
  refused_by : ℕ → Said

abbrev pub said_by : Option ℕ → Said
said_by (Some n) = hundredths n
said_by None = refused_by 9

-- p / 2^s + 1/2, cut to a whole number
unfoldable pub rounded_of : ℕ → ℕ → ℕ
rounded_of p s = (2 * p + 2 ^ s) / (2 * 2 ^ s)

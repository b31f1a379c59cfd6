-- For the proofs of the code, no rule: a pair of results as an array of two numbers (docs/SPECIFICATION.md, "The reference sheet", rule 1).
use Rattle.std.specs.Prelude.{List, ℤ, pos, get_or}
use Rattle.whole.specs.Bounds.{Within}
use Rattle.station_rules.specs.Sheets.{Pair, pair}

-- the pair of two numbers
abbrev pub pair_of : List ℤ → Pair
pair_of p = pair (get_or p 0 (pos 0)) (get_or p 1 (pos 0))

-- both are −1 or of 0..10000
abbrev pub Small : List ℤ → Type 0
Small p = Within 1 10000 (get_or p 0 (pos 0)) × Within 1 10000 (get_or p 1 (pos 0))

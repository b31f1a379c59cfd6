-- Numbers in the places (int32_t) of a caller's state.
use Rattle.std.specs.Prelude.{ℕ, suc, ◌+◌, ◌-◌, ◌*◌, min, List, ◌∷◌, ◌++◌, ℤ, pos, negsuc, get_or, take, drop}

-- what stands at a place
abbrev pub place : List ℤ → ℕ → ℤ
place words i = get_or words i (pos 0)

-- as a number that is never negative; a negative one reads as its 32 bits without sign, 2147483648 or more, which no sound state has
abbrev pub natural : ℤ → ℕ
natural (pos n) = n
natural (negsuc n) = 2147483648 + (2147483647 - n)

-- held sets in their places: how many, then three places each, newest first. A set joins in front: one more is held, `most` at most, and what stands in the
-- places of the sets before it moves on by a set, whatever it is
abbrev pub joined_sets : (most : ℕ) → (part set : List ℤ) → List ℤ
joined_sets most part set = pos (min most (suc (natural (place part 0)))) ∷ set ++ take (3 * most - 3) (drop 1 part)

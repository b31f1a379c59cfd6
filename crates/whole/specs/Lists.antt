-- Tests over a list, checks in order and the first that applies, sides of zero, and the sum, the largest and the smallest of a list of whole numbers.
use Rattle.std.specs.Prelude.{Bool, not, cond, List, [], ◌∷◌, ℤ, pos, ◌+ℤ◌}
use Rattle.std.specs.Bool.{beq}
use Rattle.std.specs.Int.Signed.{le_z, lt_z}
-- some element passes a test; every element passes it
pub use Rattle.std.specs.List.{list_any as any, list_all as all}

-- the two tests give different answers
abbrev pub differ : Bool → Bool → Bool
differ a b = not (beq a b)

-- a test, and what is answered where it applies
pub record Check (A : Type 0) : Type 0 where
  pub applies : Bool
  pub answer : A

module _ {A B : Type 0} where
  -- what is made of the answer of the first check that applies; this one where none does
  abbrev pub first_applying : B → (A → B) → List (Check A) → B
  first_applying fine refused [] = fine
  first_applying fine refused (c ∷ cs) = cond c.applies (refused c.answer) (first_applying fine refused cs)

-- above zero, below zero
abbrev pub above : ℤ → Bool
above z = lt_z (pos 0) z

abbrev pub below : ℤ → Bool
below z = lt_z z (pos 0)

-- the sum of a list
abbrev pub total : List ℤ → ℤ
total [] = pos 0
total (x ∷ xs) = x +ℤ total xs

-- the larger of two, and the smaller
abbrev pub larger_of : ℤ → ℤ → ℤ
larger_of a b = cond (le_z a b) b a

abbrev pub smaller_of : ℤ → ℤ → ℤ
smaller_of a b = cond (le_z a b) a b

-- the largest of a list that isn't empty
abbrev pub largest : List ℤ → ℤ
largest [] = pos 0
largest (x ∷ []) = x
largest (x ∷ y ∷ ys) = larger_of x (largest (y ∷ ys))

-- the smallest of a list that isn't empty
abbrev pub smallest : List ℤ → ℤ
smallest [] = pos 0
smallest (x ∷ []) = x
smallest (x ∷ y ∷ ys) = smaller_of x (smallest (y ∷ ys))

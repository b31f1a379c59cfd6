-- Parts of a list by a test.
use Rattle.std.specs.Prelude.{Bool, cond, List, [], ◌∷◌}
-- the elements that pass the test, in order
pub use Rattle.std.specs.List.{filter as keep}

module _ {A : Type 0} where
  -- the elements before the first that passes the test
  abbrev pub up_to : (A → Bool) → List A → List A
  up_to p [] = []
  up_to p (x ∷ xs) = cond (p x) [] (x ∷ up_to p xs)

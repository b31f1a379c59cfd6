-- What an answer says, in the rules' own terms.
use Rattle.std.specs.Prelude.{ℕ, List, ℤ, Option}

-- the number of a refusal, if it is one, and the values that are answered
pub record Says : Type 0 where
  pub number : Option ℕ
  pub values : List ℤ

-- The bounds of a whole number.
use Rattle.std.specs.Prelude.{ℕ, ℤ, pos, neg_ℤ, ◌≤ℤ◌}

-- z lies in -low..=high
pub record Within (low high : ℕ) (z : ℤ) : Type 0 where
  pub over : neg_ℤ (pos low) ≤ℤ z
  pub under : z ≤ℤ pos high

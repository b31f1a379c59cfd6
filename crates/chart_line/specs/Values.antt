-- For the proofs of the code, no rule: what it needs of an output line's values, and how it goes about them.
use Rattle.std.specs.Prelude.{ℕ, ◌<◌, List, [], ◌∷◌, nat_abs}
use Rattle.decimal.specs.Bytes.{space}
use Rattle.decimal.specs.Show.{bit}
use Rattle.chart_rules.specs.declared.Values.{Values}

-- no number has more than five digits
pub record SmallValues (v : Values) : Type 0 where
  pub week : v.week < 100000
  pub count : v.count < 100000
  pub plot : nat_abs v.plot < 100000
  pub range : v.range < 100000

-- the flags, 1 or 0, each after a space
unfoldable pub flag_bytes : Values → List ℕ
flag_bytes v = space ∷ bit v.al ∷ space ∷ bit v.tl ∷ space ∷ bit v.run ∷ space ∷ bit v.ral ∷ space ∷ bit v.rtl ∷ []

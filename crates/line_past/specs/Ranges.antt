-- For the proofs of the code, no rule: the ranges of S and N in which nothing wraps (docs/SPECIFICATION.md, "Refused calls": N is at most twice six samples, |S| at most 11000 times N).
use Rattle.std.specs.Prelude.{List, ℕ, ◌*◌, ◌≤◌, ◌<◌, ℤ, get_or}
use Rattle.whole.specs.Bounds.{Within}
use Rattle.station_rules.specs.Held.{no_set}
use Rattle.station_rules.specs.declared.PastSet.{PastSet}

-- S and N of at most k sets together
pub record SetsOf (k : ℕ) (sum : ℤ) (count : ℕ) : Type 0 where
  pub within : Within (k * 132000) (k * 132000) sum
  pub few : count ≤ k * 12

pub record PastFits (p : PastSet) : Type 0 where
  pub set : SetsOf 1 p.sum p.count
  pub day : p.day ≤ 99999

-- the first k past sets
pub record Held (k : ℕ) (past : List PastSet) : Type 0 where
  pub each : (j : ℕ) → j < k → PastFits (get_or past j no_set)

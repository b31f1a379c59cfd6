-- For the proofs of the code, no rule: the tests and sums in whose ranges nothing wraps.
use Rattle.std.specs.Prelude.{Some, None, Option, List, ℕ, ◌≤◌, length}
use Rattle.station_rules.specs.declared.Limits.{Limits}
use Rattle.station_rules.specs.declared.Set.{Set}
use Rattle.station_rules.specs.declared.Test.{Test}
use Rattle.station_rules.specs.declared.PastSet.{PastSet}
use Rattle.line_past.specs.Ranges.{SetsOf, Held}

-- S and N of at most k sets together, of which N is above 0
pub record Together (k : ℕ) (set : Set) : Type 0 where
  pub sets : SetsOf k set.sum set.count
  pub some : 1 ≤ set.count

-- a test of at most five sets
pub record TestFits (t : Test) : Type 0 where
  pub sets : SetsOf 5 t.sum t.count
  pub some : 1 ≤ t.count

abbrev pub FoundFits : Option Test → Type 0
FoundFits (Some t) = TestFits t
FoundFits None = Unit {0}

-- the limits of the averages and of the check, at most 1000 as in every row
pub record Limited (l : Limits) : Type 0 where
  pub one : l.one ≤ 1000
  pub two : l.two ≤ 1000
  pub three : l.three ≤ 1000
  pub five : l.five ≤ 1000
  pub check : l.check ≤ 1000

-- and that of the test found
abbrev pub FoundLimited : Option Test → Type 0
FoundLimited (Some t) = t.limit ≤ 1000
FoundLimited None = Unit {0}

-- what the tests due of a set are made with: its S and N, and the valid sets of one kind
pub record Due (set : Set) (valid : List PastSet) : Type 0 where
  pub one : Together 1 set
  pub few : length valid ≤ 4
  pub held : Held (length valid) valid

-- For proofs, no rule: no limit of a row is large.
use Rattle.std.specs.Prelude.{◌≤◌}
use Rattle.chart_rules.specs.declared.Limits.{Limits}

pub record SmallLimits (l : Limits) : Type 0 where
  pub al : l.al ≤ 1000
  pub tl : l.tl ≤ 1000
  pub run : l.run ≤ 1000

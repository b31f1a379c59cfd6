-- For the proofs of the code, no rule: what the set under way and the code's progress stand for.
use Rattle.std.specs.Prelude.{ℕ, ◌+◌, ◌*◌, ◌≡◌, take}
use Rattle.chart_rules.specs.Charts.{fresh_chart}
use Rattle.chart_rules.specs.Places.{chart_at}
use Rattle.chart_rules.specs.Gathering.{Gathered, none, joined, finished, closed, kept}
use Rattle.chart_rules.specs.Output.{chart_after}
use Rattle.chart_rules.specs.declared.ValueLine.{ValueLine}
use Rattle.text_gather.specs.declared.TextSet.{TextSet}
use Rattle.text_gather.specs.declared.Progress.{Progress}

-- the set under way
unfoldable pub seen : TextSet → Gathered
seen s = record { week = s.week; numbers = take (2 * s.count) s.numbers }

-- no set
pub record Empty (s : TextSet) : Type 0 where
  pub is : seen s ≡ none
  pub count : s.count ≡ 0
  pub week : s.week ≡ 0

-- a line's pair joined
pub record Grown (s : TextSet) (v : ValueLine) (r : TextSet) : Type 0 where
  pub is : seen r ≡ joined (seen s) v
  pub count : r.count ≡ s.count + 1
  pub week : r.week ≡ v.week

-- before the first line
pub record Begun (start : ℕ) (r : Progress) : Type 0 where
  pub chart : chart_at r.chart ≡ fresh_chart 0
  pub set : Empty r.set
  pub end : r.end ≡ start

-- the set under way charted
pub record Flushed (p r : Progress) : Type 0 where
  pub after : chart_at r.chart ≡ chart_after (chart_at p.chart) (finished (seen p.set))
  pub set : Empty r.set

-- a line taken
pub record Stepped (p : Progress) (v : ValueLine) (r : Progress) : Type 0 where
  pub after : chart_at r.chart ≡ chart_after (chart_at p.chart) (closed (seen p.set) v)
  pub set : seen r.set ≡ joined (kept (seen p.set) v) v
  pub count : r.set.count ≡ v.sample
  pub week : r.set.week ≡ v.week

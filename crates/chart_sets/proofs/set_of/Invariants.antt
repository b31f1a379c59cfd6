use mathlib.Core.Path.{◌≡◌}
use Rattle.chart_sets.proofs.Pairs.{Tallied}
use Rattle.chart_sets.proofs.set_of.Given as goal

abbrev pub invariant-loop-pair : goal.invariant-loop-pair
invariant-loop-pair l = (l.pair-iterator.size ≡ 2) × Tallied l.numbers l.pair-iterator.rest.now l.originals l.monitors l.largest l.smallest

use Rattle.sheet_numbers.specs.Left.{samples_left}
use Rattle.sheet_again.proofs.TotalLaws.{Counting}
use Rattle.sheet_again.proofs.counted.Given as goal

abbrev pub invariant-loop-sample : goal.invariant-loop-sample
invariant-loop-sample l = Counting l.terms.limits l.terms.intercept l.terms.small l.numbers (samples_left l.sample-iterator) l.t

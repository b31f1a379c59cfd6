use Rattle.sheet_numbers.specs.Left.{samples_left}
use Rattle.sheet_pass.proofs.PassLaws.{Passing}
use Rattle.sheet_pass.proofs.pass.Given as goal

abbrev pub invariant-loop-s : goal.invariant-loop-s
invariant-loop-s l = Passing l.terms.limits l.terms.intercept l.terms.small l.numbers (samples_left l.s-iterator) l.t

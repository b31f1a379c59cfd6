-- An exported call's answer that has no values: whether it is accepted (1 or 0), and the refusal's number, 0 where accepted.
use Rattle.std.specs.Prelude.{ℕ, Result, Ok, Err}
use Rattle.abi_answers.specs.declared.GrainAnswer.{GrainAnswer}

abbrev pub accepted : GrainAnswer
accepted = record { accepted = 1; number = 0 }

abbrev pub refused : ℕ → GrainAnswer
refused number = record { accepted = 0; number = number }

-- of a call that is refused by a number
abbrev pub given : Result Unit ℕ → GrainAnswer
given (Ok tt) = accepted
given (Err number) = refused number

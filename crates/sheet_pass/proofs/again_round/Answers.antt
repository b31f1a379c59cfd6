use Rattle.std.proofs.Common.{arith}
use Rattle.std.proofs.lemmas.Grind.{common_steps}
use Rattle.sheet_pass.proofs.again_round.Goals as goal

pub returns-then-s : goal.returns-then-s
returns-then-s c = grind (arith, common_steps)

use Rattle.std.proofs.Common.{arith}
use Rattle.std.proofs.lemmas.Int.{to_z-of_z}
use Rattle.sheet_numbers.proofs.in_ranges.Goals as goal

pub returns-then-is_allowed-2 : goal.returns-then-is_allowed-2
returns-then-is_allowed-2 c = grind (arith, to_z-of_z)

pub returns-else-is_allowed-2 : goal.returns-else-is_allowed-2
returns-else-is_allowed-2 c = grind (arith, to_z-of_z)

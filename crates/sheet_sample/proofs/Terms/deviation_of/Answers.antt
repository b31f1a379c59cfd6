use Rattle.std.proofs.Common.{arith}
use Rattle.std.proofs.lemmas.Int.{ints}
use Rattle.sheet_sample.proofs.Terms.deviation_of.Goals as goal

pub returns : goal.returns
returns c =
    (omega (arith, ints, c.pair_sum.ensures), record { over = omega (arith, ints, c.pair_sum.ensures); under = omega (arith, ints, c.pair_sum.ensures) })

-- What the exported function for ship lots hands back; all values are 0 where refused.
use Rattle.std.specs.Prelude.{pos, Result, Ok, Err}
use Rattle.lot_rules.specs.Lots.{number_of}
use Rattle.lot_rules.specs.declared.Statement.{Statement}
use Rattle.lot_rules.specs.declared.Refusal.{Refusal}
use Rattle.abi_lot.specs.declared.GrainLot.{GrainLot}

-- basis, lowest, highest and mean, the tonnes and the sum of figure times tonnes
abbrev pub lot_given : Result Statement Refusal → GrainLot
lot_given (Ok s) =
    record {
      accepted = 1;
      number = 0;
      basis = s.basis;
      lowest = s.lowest;
      highest = s.highest;
      mean = s.mean;
      tonnes = s.tonnes;
      weighted_sum = s.weighted_sum;
    }
lot_given (Err r) =
    record { accepted = 0; number = number_of r; basis = pos 0; lowest = 0; highest = 0; mean = 0; tonnes = 0; weighted_sum = 0 }

use Rattle.sheet_numbers.proofs.SampleLaws.{measured}
use Rattle.sheet_numbers.proofs.MeasuredSampleTryFromSample.try_from.Goals as goal

pub invariant_of-result : goal.invariant_of-result
invariant_of-result c = record { fine = measured c.args.s (cc) }

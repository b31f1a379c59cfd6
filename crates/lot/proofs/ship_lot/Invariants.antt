use Rattle.lot.proofs.TallyLaws.{Tallying}
use Rattle.lot.proofs.ship_lot.Given as goal

abbrev pub invariant-loop-record : goal.invariant-loop-record
invariant-loop-record l = Tallying l.records l.record-index l.tally

-- `text_gather::Progress::take_line` meets its contract.
use native.Mathlib.Omega.{arith}
use mathlib.Core.Path.{ap}
use lib.ListN.{length}
use Rattle.chart_rules.proofs.Gathering.{closed_start}
use Rattle.chart_rules.proofs.Rulings.{fine_results, fine_sample}
use Rattle.text_gather.specs.Progress.{seen}
use Rattle.text_gather.proofs.UnderWay.{Ready, ready_start, ready_next, stepped}
use Rattle.text_gather.proofs.Progress.take_line.Goals as goal
use Rattle.text_gather.proofs.Progress.take_line.Goals.{then-v-eq1, else-v-eq1}

pub flush-requires : goal.flush-requires
flush-requires c =
    let e = ap length (closed_start (seen c.args.self.now.set) c.args.v c.if-v-eq1.true) in
    omega (arith, c.requires.room)

pub join-requires : goal.join-requires
join-requires c =
    let p = c.args.self.now in
    let r : Ready p c.args.v c.args.out.now c.if-v-eq1.self c.if-v-eq1.out = elim c.if-v-eq1.branch [
      | then-v-eq1 w ↦ rw (w.self-is, w.out-is) (ready_start p c.args.v _ _ _ w.if-v-eq1.true w.flush.ensures.0 w.flush.ensures.1)
      | else-v-eq1 w ↦ rw (w.self-is, w.out-is) (ready_next p c.args.v _ w.if-v-eq1.false c.requires.fine_line)
    ] in
    (omega (arith, r.count, fine_sample _ _ c.args.v c.requires.fine_line), fine_results _ _ c.args.v c.requires.fine_line)

pub returns : goal.returns
returns c =
    let p = c.args.self.now in
    let r : Ready p c.args.v c.args.out.now c.if-v-eq1.self c.if-v-eq1.out = elim c.if-v-eq1.branch [
      | then-v-eq1 w ↦ rw (w.self-is, w.out-is) (ready_start p c.args.v _ _ _ w.if-v-eq1.true w.flush.ensures.0 w.flush.ensures.1)
      | else-v-eq1 w ↦ rw (w.self-is, w.out-is) (ready_next p c.args.v _ w.if-v-eq1.false c.requires.fine_line)
    ] in
    (stepped p c.args.v _ _ _ _ r c.join.ensures, r.put)

-- `text::write_sets` meets its contract.
use mathlib.Core.Path.{subst}
use Rattle.text.proofs.Left.{Left, left_next, left_start, left_bad, left_fine, left_room, left_step, left_last, left_done}
use Rattle.text.proofs.write_sets.Goals as goal

pub loop-read-init : goal.loop-read-init
loop-read-init c =
    let start = left_start _ _ _ c.begin-p.result c.begin-p.ensures c.requires.good_lines c.requires.text_in_bounds in
    rw (c.into_iter-read-iterator.ensures.into_iter_gives, c.value_lines-read-items.ensures) start

pub returns-in_default : goal.returns-in_default
returns-in_default c =
    absurd (left_bad (left_next c.loop-read.invariant c.in-Some.ensures.steps c.in_default.is))

pub take_line-requires-clause-fine_line : goal.take_line-requires-clause-fine_line
take_line-requires-clause-fine_line c =
    left_fine _ _ (left_next c.loop-read.invariant c.in-Some.ensures.steps c.in-Some-read.is)

pub take_line-requires-clause-room : goal.take_line-requires-clause-room
take_line-requires-clause-room c =
    left_room _ _ (left_next c.loop-read.invariant c.in-Some.ensures.steps c.in-Some-read.is)

pub loop-read-preserved : goal.loop-read-preserved
loop-read-preserved c =
    left_step _ _ (left_next c.loop-read.invariant c.in-Some.ensures.steps c.in-Some-read.is)
    _ _ c.take_line.ensures.0 c.take_line.ensures.1

pub flush-requires : goal.flush-requires
flush-requires c =
    left_last (subst (Left _ _ _ _ _) c.in-None.ensures.steps.0 c.loop-read.invariant)

pub returns : goal.returns
returns c = left_done (subst (Left _ _ _ _ _) c.in-None.ensures.steps.0 c.loop-read.invariant) _ _ c.flush.ensures.1

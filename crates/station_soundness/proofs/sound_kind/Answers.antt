use mathlib.Core.Path.{sym, ◌∙◌}
use Rattle.station_soundness.proofs.SoundLaws.{past_goes_on, past_ends, past_done}
use Rattle.station_soundness.proofs.sound_kind.Goals as goal

pub returns-then-not-next_set : goal.returns-then-not-next_set
returns-then-not-next_set c =
    let l = c.loop-set in
    past_ends c.args.zeros c.args.n l.last l.set-index c.args.sets.now c.loop-set-test.true c.set_at-p.result c.set_at-p.ensures (sym c.if-not-next_set.ensures) ∙ l.invariant

pub loop-set-preserved : goal.loop-set-preserved
loop-set-preserved c =
    let l = c.loop-set in
    past_goes_on c.args.zeros c.args.n l.last l.set-index c.args.sets.now c.loop-set-test.true c.set_at-p.result c.set_at-p.ensures (sym c.if-not-next_set.ensures) ∙ l.invariant

pub returns : goal.returns
returns c = past_done c.args.zeros c.args.n c.loop-set.last c.loop-set.set-index c.args.sets.now c.loop-set-test.false ∙ c.loop-set.invariant

use Rattle.std.proofs.Common.{arith, ap, sym, ◌∙◌, ◌∷◌, [], get_or}
use Rattle.line_past.proofs.SideLaws.{four_sides}
use Rattle.station_rules.specs.Lines.{test_of, plus, first_exceeded}
use Rattle.station_rules.specs.Held.{no_set}
use Rattle.station_rules.specs.declared.Set.{Set}
use Rattle.line_averages.proofs.DueLaws.{no_five, five_by}
use Rattle.line_averages.proofs.meet_five.Goals as goal

pub returns-in_default : goal.returns-in_default
returns-in_default c = (no_five c.args.limits c.args.set c.args.nonzero.now c.in_default.len_below, tt)

pub returns-then-not-on_one_side : goal.returns-then-not-on_one_side
returns-then-not-on_one_side c =
    let s = c.args in
    let side = sym c.if-not-on_one_side.true ∙ c.on_one_side.ensures ∙ sym (four_sides s.set.sum s.nonzero.now (omega arith)) in
    (ap first_exceeded (five_by s.limits s.set s.nonzero.now (omega arith) side), tt)

pub returns : goal.returns
returns c =
    let s = c.args in
    let e = c.meet.ensures in
    let side = sym c.if-not-on_one_side.false ∙ c.on_one_side.ensures ∙ sym (four_sides s.set.sum s.nonzero.now (omega arith)) in
    let p = λ (n : _) (x : Set). plus x (get_or s.nonzero.now n no_set) in
    let five = c.plus-3.ensures ∙ ap (p 3) (c.plus-2.ensures ∙ ap (p 2) (c.plus-three.ensures ∙ ap (p 1) c.plus.ensures)) in
    (e.0 ∙ ap (λ (x : Set). first_exceeded (test_of s.limits.five x ∷ [])) five ∙ ap first_exceeded (five_by s.limits s.set s.nonzero.now (omega arith) side), e.1)

use Rattle.std.proofs.Common.{rules, sym}
use mathlib.Core.Path.{ap, ◌∙◌}
use mir.Syntax.{w32}
use mir.Val.{SFits}
use Rattle.std.proofs.lemmas.Int.{to_z-of_z}
use borrow.Author.Tests.{tests}
use Rattle.std.proofs.lemmas.Iterator.{YieldsList-from_slice}
use Rattle.std.proofs.lemmas.Iterator.Search.{all_from_yields_List}
use Rattle.whole.specs.Lists.{above, below}
use Rattle.station_rules.specs.declared.PastSet.{PastSet}
use Rattle.line_past.proofs.SideLaws.{when_above, when_below}
use Rattle.line_past.proofs.on_one_side.Goals.{then-is_above, else-is_above}
use Rattle.line_past.proofs.on_one_side.Goals as goal

pub returns-then-all : goal.returns-then-all
returns-then-all c = elim c.if-is_above.branch [
  | then-is_above w ↦
      let f : SFits w32 c.args.set.sum = search rules in
      let up = all_from_yields_List (λ (p : PastSet). above p.sum) _ _ w.all.result w.all.ensures.ran (YieldsList-from_slice c.args.past.now w.iter.ensures.rest) (λ x b q k. search (rules, tests)) in
      w.value-is ∙ up ∙ sym (when_above c.args.set.sum _ _ (sym (ap above (to_z-of_z w32 c.args.set.sum f)) ∙ sym c.is_above.ensures ∙ w.if-is_above.true))
  | else-is_above w ↦ absurd cc
]

pub returns-then-is_below : goal.returns-then-is_below
returns-then-is_below c =
    let f : SFits w32 c.args.set.sum = search rules in
    let down = all_from_yields_List (λ (p : PastSet). below p.sum) _ _ c.all-then-is_below.result c.all-then-is_below.ensures.ran (YieldsList-from_slice c.args.past.now c.iter-then-is_below.ensures.rest) (λ x b q k. search (rules, tests)) in
    down ∙ sym (when_below c.args.set.sum _ _ (sym (ap below (to_z-of_z w32 c.args.set.sum f)) ∙ sym c.is_below.ensures ∙ c.if-is_below.true))

use mathlib.Core.Path.{refl, ◌∙◌, ap}
use mathlib.Core.List.{List}
use native.Mathlib.Omega.{arith}
use lib.IntN.{ℤ, pos}
use lib.ListN.{get_or}
use mir.Syntax.{w32}
use mir.Val.{SFits}
use borrow.Author.Rules.{rules}
use Rattle.whole.proofs.PlaceLaws.{natural_read}
use Rattle.station_rules.specs.Lines.{LinePhase}
use Rattle.station_rules.specs.Places.{line_in}
use Rattle.station_rules.specs.InPlace.{joined_places, opened_places}
use Rattle.station_rules.proofs.Phases.{early, late}
use Rattle.line.proofs.open.Goals as goal
use Rattle.line.proofs.open.Goals.{then-cast_unsigned-ge-ADJUSTED_LINE, else-cast_unsigned-ge-ADJUSTED_LINE}

pub returns : goal.returns
unfolding line_in
returns c =
    let w = c.args.part.now in
    let p = c.args.p.set in
    let phase : SFits w32 (get_or w 1 (pos 0)) = search rules in
    let code = c.cast_unsigned.ensures ∙ natural_read phase in
    c.join.ensures
    ∙ elim c.if-cast_unsigned-ge-ADJUSTED_LINE.branch [
      | then-cast_unsigned-ge-ADJUSTED_LINE v ↦
          let h = v.if-cast_unsigned-ge-ADJUSTED_LINE.true in
          ap (λ (x : List ℤ). joined_places x p) (v.part-is ∙ v.empty.ensures) ∙ late (λ (x : LinePhase). opened_places x w p) refl (line_in w).phase (omega arith)
      | else-cast_unsigned-ge-ADJUSTED_LINE v ↦
          let h = v.if-cast_unsigned-ge-ADJUSTED_LINE.false in
          ap (λ (x : List ℤ). joined_places x p) v.part-is ∙ early (λ (x : LinePhase). opened_places x w p) refl (line_in w).phase (omega arith)
    ]

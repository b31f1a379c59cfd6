use mathlib.Core.Path.{◌∙◌, ap}
use mathlib.Core.List.{List}
use native.Mathlib.Omega.{arith}
use lib.IntN.{ℤ, pos}
use lib.ListN.{get_or}
use mir.Syntax.{w32}
use mir.Val.{SFits}
use borrow.Author.Rules.{rules}
use borrow.Author.Tests.{lt-ltb, le-ltb}
use Rattle.whole.specs.Places.{place, natural}
use Rattle.whole.proofs.PlaceLaws.{natural_read}
use Rattle.station_rules.specs.InPlace.{emptied_places, repaired_places}
use Rattle.station_rules.specs.Places.{line_in}
use Rattle.line.proofs.Written.{repairs}
use Rattle.line.proofs.repair.Goals as goal
use Rattle.line.proofs.repair.Goals.{then-cast_unsigned-lt-ADJUSTED_LINE, else-cast_unsigned-lt-ADJUSTED_LINE}

pub returns : goal.returns
unfolding repaired_places line_in
returns c =
    let w = c.args.part.now in
    let f : SFits w32 (get_or w 1 (pos 0)) = search rules in
    let n = c.cast_unsigned.ensures ∙ natural_read f in
    let emptied = λ (x : List ℤ). emptied_places (place x 0) (place x 1) in
    c.empty.ensures
    ∙ elim c.if-cast_unsigned-lt-ADJUSTED_LINE.branch [
      | then-cast_unsigned-lt-ADJUSTED_LINE v ↦ let h = v.if-cast_unsigned-lt-ADJUSTED_LINE.true in ap emptied v.part-is ∙ repairs w c.requires (pos 0) ∙ simp (lt-ltb (natural (place w 1)) 2 (omega arith))
      | else-cast_unsigned-lt-ADJUSTED_LINE v ↦ let h = v.if-cast_unsigned-lt-ADJUSTED_LINE.false in ap emptied v.part-is ∙ simp (le-ltb (natural (place w 1)) 2 (omega arith))
    ]

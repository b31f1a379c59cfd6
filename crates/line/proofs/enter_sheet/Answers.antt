use mathlib.Core.Path.{sym, ◌∙◌, ap}
use mir.Syntax.{w32}
use mir.Val.{SFits}
use borrow.Author.Rules.{rules}
use lib.IntN.{ℤ, pos, ◌+ℤ◌}
use Rattle.std.proofs.lemmas.Int.{to_z-of_z}
use Rattle.whole.specs.Places.{place}
use Rattle.station_rules.specs.InPlace.{emptied_places, sheet_line}
use Rattle.line.proofs.enter_sheet.Goals as goal

pub returns-in-Met : goal.returns-in-Met
unfolding sheet_line
returns-in-Met c = c.«open».ensures ∙ sym (ap (sheet_line c.args.part.now c.args.p.set) c.in-Met.is)

pub returns-in-Adjusted : goal.returns-in-Adjusted
unfolding sheet_line
returns-in-Adjusted c =
    let w = c.args.part.now in
    let f : SFits w32 c.in-Adjusted.change = search rules in
    c.close.ensures ∙ ap (λ (z : ℤ). emptied_places (place w 0 +ℤ z) (pos 2)) (to_z-of_z w32 c.in-Adjusted.change f) ∙ sym (ap (sheet_line w c.args.p.set) c.in-Adjusted.is)

pub returns-in-Shut : goal.returns-in-Shut
unfolding sheet_line
returns-in-Shut c = c.close-in-Shut.ensures ∙ sym (ap (sheet_line c.args.part.now c.args.p.set) c.in-Shut.is)

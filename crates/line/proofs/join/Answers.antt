use mathlib.Core.Path.{◌≡◌, ap, sym, ◌∙◌}
use mathlib.Core.Bool.{Bool, true, false, cond}
use mathlib.Core.List.{List, [], ◌∷◌, ◌++◌}
use lib.IntN.{ℤ, pos}
use lib.ListN.{set}
use mir.Syntax.{w32}
use mir.Val.{SFits, to_z, of_z}
use borrow.Author.Rules.{rules}
use borrow.Rule.Slice.PartMut.{mid_of, put_mid}
use Rattle.std.proofs.lemmas.Int.{to_z_pos, to_z-of_z}
use Rattle.whole.specs.Places.{place, joined_sets}
use Rattle.station_rules.specs.Lines.{is_nonzero}
use Rattle.station_rules.specs.InPlace.{set_places, newest_places, nonzero_places}
use Rattle.station_rules.specs.declared.PastSet.{PastSet}
use Rattle.line.specs.Ranges.{SetFits}
use Rattle.line.proofs.Written.{newest_joined, joins_newest, joins_both}
use Rattle.line.proofs.join.Goals as goal

-- what is written of a set
written : (p : PastSet) → SetFits p → SFits w32 p.sum → to_z w32 p.day ∷ to_z w32 (of_z w32 p.sum) ∷ to_z w32 p.count ∷ [] ≡ set_places p
written p fits g = λ i. to_z_pos w32 p.day fits.day i ∷ to_z-of_z w32 p.sum g i ∷ to_z_pos w32 p.count fits.count i ∷ []

-- the places by whether the set isn't zero
abbrev by_zero : (line joining : List ℤ) → Bool → List ℤ
by_zero line joining b = place line 0 ∷ pos 1 ∷ joined_sets 2 (newest_places line) joining ++ cond b (joined_sets 4 (nonzero_places line) joining) (nonzero_places line)

pub returns-then-is_nonzero : goal.returns-then-is_nonzero
returns-then-is_nonzero c =
    let w = c.args.part.now in
    let p = c.args.p.set in
    let fits = c.args.p.fits in
    let g : SFits w32 p.sum = search rules in
    let there = written p fits g in
    let is : is_nonzero p ≡ true = sym c.is_nonzero.ensures ∙ c.if-is_nonzero.true in
    let old = set w 1 (pos 1) in
    let first = c.join.ensures ∙ ap (joined_sets 2 (mid_of 2 7 old)) there in
    let now = put_mid 2 7 old in
    (λ i. put_mid 9 13 (now (first i)) ((c.join-then-is_nonzero.ensures ∙ (λ j. joined_sets 4 (mid_of 9 13 (now (first j))) (there j))) i))
    ∙ joins_both w c.requires (pos p.day) p.sum (pos p.count)
    ∙ sym (ap (by_zero w (set_places p)) is)

pub returns-else-is_nonzero : goal.returns-else-is_nonzero
returns-else-is_nonzero c =
    let w = c.args.part.now in
    let p = c.args.p.set in
    let fits = c.args.p.fits in
    let g : SFits w32 p.sum = search rules in
    let is : is_nonzero p ≡ false = sym c.is_nonzero.ensures ∙ c.if-is_nonzero.false in
    ap (put_mid 2 7 (set w 1 (pos 1))) c.join.ensures
    ∙ ap (newest_joined w) (written p fits g)
    ∙ joins_newest w c.requires (pos p.day) p.sum (pos p.count)
    ∙ sym (ap (by_zero w (set_places p)) is)

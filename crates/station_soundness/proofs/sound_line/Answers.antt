use mathlib.Core.Path.{ap, sym, ◌∙◌}
use mathlib.Core.Bool.{◌&&◌, true≢false}
use native.Mathlib.Omega.{arith}
use lib.IntN.{pos, nat_abs}
use lib.ListN.{take, get_or}
use mir.Syntax.{w32}
use mir.Val.{SFits}
use borrow.Author.Rules.{rules}
use borrow.Author.Tests.{le-leb, lt-leb}
use Rattle.std.proofs.lemmas.Int.{to_z-of_z}
use Rattle.whole.proofs.PlaceLaws.{natural_read}
use Rattle.station_rules.specs.Soundness.{sound_sets, sound_nonzero, sound_held}
use Rattle.station_rules.specs.Places.{line_in}
use Rattle.station_soundness.proofs.SoundLaws.{by_kinds}
use Rattle.station_soundness.proofs.sound_line.Goals.{then-unsigned_abs-le-INTERCEPT_BOUND, else-unsigned_abs-le-INTERCEPT_BOUND}
use Rattle.station_soundness.proofs.sound_line.Goals as goal

pub returns-then-sound_held : goal.returns-then-sound_held
unfolding line_in
returns-then-sound_held c =
    let s = c.args in
    let w = s.part.now in
    let l = line_in w in
    let f0 : SFits w32 (get_or w 0 (pos 0)) = search rules in
    let f1 : SFits w32 (get_or w 1 (pos 0)) = search rules in
    let f2 : SFits w32 (get_or w 2 (pos 0)) = search rules in
    let f9 : SFits w32 (get_or w 9 (pos 0)) = search rules in
    let newest = c.cast_unsigned-newest.ensures ∙ natural_read f2 in
    let nonzero = c.cast_unsigned-nonzero.ensures ∙ natural_read f9 in
    let size = c.unsigned_abs.ensures.value ∙ ap nat_abs (to_z-of_z w32 (get_or w 0 (pos 0)) f0) in
    elim c.if-unsigned_abs-le-INTERCEPT_BOUND.branch [
      | then-unsigned_abs-le-INTERCEPT_BOUND v ↦
          let h = v.if-unsigned_abs-le-INTERCEPT_BOUND.true in
          let phase = v.cast_unsigned.ensures ∙ natural_read f1 in
          let held = sym v.sound_held.ensures ∙ sym v.value-is ∙ c.if-sound_held.true in
          c.sound_kinds.ensures
          ∙ (λ i. sound_sets s.n s.day (take (newest i) l.newest) && sound_nonzero s.n s.day (take (nonzero i) l.nonzero))
          ∙ by_kinds s.n s.day l (le-leb (nat_abs l.intercept) 1000 (omega arith)) ((λ i. sound_held (sym phase i) (sym newest i) (sym nonzero i)) ∙ held)
      | else-unsigned_abs-le-INTERCEPT_BOUND v ↦ let h = v.if-unsigned_abs-le-INTERCEPT_BOUND.false in absurd (true≢false (sym c.if-sound_held.true ∙ v.value-is ∙ lt-leb c.unsigned_abs.result 1000 (omega arith)))
    ]

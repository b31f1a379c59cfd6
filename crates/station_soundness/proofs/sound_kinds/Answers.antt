use mathlib.Core.Path.{◌≡◌, ap, sym, ◌∙◌}
use mathlib.Core.Bool.{Bool, true, false, ◌&&◌}
use mathlib.Core.List.{List}
use Prim.Native.Nat.{ℕ}
use lib.ListN.{take}
use Rattle.station_rules.specs.Soundness.{sound_sets, sound_nonzero}
use Rattle.station_rules.specs.Places.{line_in}
use Rattle.station_rules.specs.declared.PastSet.{PastSet}
use Rattle.station_soundness.specs.Past.{sound_kind}
use Rattle.station_soundness.proofs.SoundLaws.{kind_sets, kind_nonzero, newest_cut, nonzero_cut}
use Rattle.station_soundness.proofs.sound_kinds.Goals as goal

-- what the pass over the newest sets says
by_newest : (n day : ℕ) {past newest : List PastSet} {b : Bool} → b ≡ sound_kind true n day past → past ≡ newest → b ≡ sound_sets n day newest
by_newest n day {newest = newest} e same = e ∙ ap (sound_kind true n day) same ∙ kind_sets n day newest

pub returns-then-sound_kind : goal.returns-then-sound_kind
returns-then-sound_kind c =
    let s = c.args in
    let l = line_in s.part.now in
    let newest = by_newest s.n s.day c.sound_kind.ensures (newest_cut s.part.now c.told-part _ s.newest c.as_chunks.ensures.front) in
    c.sound_kind-then-sound_kind.ensures
    ∙ ap (sound_kind false s.n s.day) (nonzero_cut s.part.now c.told-part _ s.nonzero c.as_chunks-2.ensures.front)
    ∙ kind_nonzero s.n s.day (take s.nonzero l.nonzero)
    ∙ ap (λ (b : Bool). b && sound_nonzero s.n s.day (take s.nonzero l.nonzero)) (sym c.if-sound_kind.true ∙ newest)

pub returns-else-sound_kind : goal.returns-else-sound_kind
returns-else-sound_kind c =
    let s = c.args in
    let l = line_in s.part.now in
    let newest = by_newest s.n s.day c.sound_kind.ensures (newest_cut s.part.now c.told-part _ s.newest c.as_chunks.ensures.front) in
    c.if-sound_kind.false ∙ ap (λ (b : Bool). b && sound_nonzero s.n s.day (take s.nonzero l.nonzero)) (sym c.if-sound_kind.false ∙ newest)

use Rattle.std.proofs.Common.{◌≡◌, ap, ◌∙◌, arith, ◌+◌, ◌∷◌, take, drop, set, pos}
use Rattle.std.specs.Prelude.{suc, min}
use borrow.Rule.Slice.PartMut.{put_mid}
use Rattle.std.proofs.lemmas.Int.{ints}
use Rattle.whole.specs.Places.{place, natural}
use Rattle.whole.proofs.Read.{rd}
use Rattle.chart_rules.specs.Places.{next_places}
use Rattle.chart_state.proofs.Joined.{joined}
use Rattle.chart_state.proofs.put_next.Goals as goal

pub returns : goal.returns
unfolding next_places
returns c =
    let words = c.args.state.now in
    let s = c.args.s in
    let week : rd c.cast_signed-3.result ≡ pos c.args.week = omega (arith, ints) in
    let held : suc (natural (place words 2)) ≡ natural (place words 2) + 1 = omega arith in
    let count : rd c.cast_signed.result ≡ pos s.count = omega (arith, ints) in
    let plot : rd s.plot ≡ s.plot = omega (arith, ints) in
    let range : rd c.cast_signed-2.result ≡ pos s.range = omega (arith, ints) in
    ap (put_mid 2 13 (set words 1 (rd c.cast_signed-3.result))) c.join.ensures
    ∙ joined words _ _ _ _ c.requires.state_len
    ∙ (λ i. place words 0 ∷ week i ∷ pos (min 4 (held i)) ∷ count i ∷ plot i ∷ range i ∷ take 9 (drop 3 words))

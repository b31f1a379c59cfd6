-- What is known of a sound chart; a fresh one is sound, and the chart after a good set.
use mathlib.Core.Path.{◌≡◌, sym, ap, ◌∙◌}
use mathlib.Core.Bool.{true, false, ◌&&◌}
use mathlib.Core.List.{List, [], ◌∷◌}
use Prim.Native.Nat.{ℕ, suc, ◌+◌, ◌≤◌, min}
use native.Mathlib.Omega.{arith}
use lib.ListN.{take}
use lib.Dec.{leb}
use borrow.Author.Tests.{le-leb, leb-true}
use Rattle.whole.specs.Lists.{all}
use Rattle.whole.proofs.Tests.{and_both, to_true, of_true}
use Rattle.whole.proofs.Elements.{take_min, all_take}
use Rattle.chart_rules.specs.Refusals.{bad_week}
use Rattle.chart_rules.specs.Charts.{sound_set, sound, past_of, fresh_chart, next_chart}
use Rattle.chart_rules.specs.Rows.{row_exists}
use Rattle.chart_rules.specs.Laws.{NewestFour, FourSets}
use Rattle.chart_rules.specs.declared.ChartSet.{ChartSet}
use Rattle.chart_rules.specs.declared.Chart.{Chart}
use Rattle.chart_rules.proofs.Bounds.{week_facts}

pub record SoundChart (c : Chart) : Type 0 where
  pub row : row_exists c.row ≡ true
  pub week : c.week ≤ 9999
  pub held : c.held ≤ 4
  pub sets : all sound_set (past_of c) ≡ true

pub sound_chart : (c : Chart) → sound c ≡ true → SoundChart c
unfolding sound
sound_chart c e =
    let a = and_both _ (all sound_set (past_of c)) e in
    let b = and_both _ (leb c.held 4) a.0 in
    let d = and_both (row_exists c.row) (leb c.week 9999) b.0 in
    record { row = d.0; week = leb-true c.week 9999 d.1; held = leb-true c.held 4 b.1; sets = a.1 }

pub newest_four_lem : NewestFour
unfolding next_chart
newest_four_lem c week s =
    let n = c.held in
    let l = c.sets in
    let e : min 4 (n + 1) ≡ suc (min 3 n) = omega arith in
    let f : min (min 3 n) 3 ≡ min 3 n = omega arith in
    ap (λ (k : ℕ). take k (s ∷ take 3 l)) e
    ∙ ap (λ (r : List ChartSet). s ∷ r) (take_min (min 3 n) 3 l ∙ ap (λ (k : ℕ). take k l) f ∙ sym (take_min 3 n l))

pub four_sets_lem : FourSets
unfolding next_chart
four_sets_lem c k l m n p q r s =
    let held : min 4 (min 4 (min 4 (min 4 (c.held + 1) + 1) + 1) + 1) ≡ 4 = omega arith in
    λ i. record { row = c.row; week = n; held = held i; sets = s ∷ r ∷ q ∷ p ∷ [] }

next_parts : (c : Chart) (week : ℕ) (s : ChartSet) → SoundChart c → bad_week c.week week ≡ false → sound_set s ≡ true
    → row_exists (next_chart c week s).row && leb (next_chart c week s).week 9999 && leb (next_chart c week s).held 4 && all sound_set (take 4 (s ∷ past_of c)) ≡ true
unfolding next_chart
next_parts c week s p f g =
    rw (p.row, le-leb week 9999 (week_facts c.week week f).1, le-leb (min 4 (c.held + 1)) 4 (omega arith), g, to_true (all sound_set (take 3 (past_of c))) (all_take sound_set 3 (past_of c) (of_true (all sound_set (past_of c)) p.sets)))

pub next_sound : (c : Chart) (week : ℕ) (s : ChartSet) → sound c ≡ true → bad_week c.week week ≡ false → sound_set s ≡ true → sound (next_chart c week s) ≡ true
unfolding sound
next_sound c week s e f g = rw (newest_four_lem c week s) (next_parts c week s (sound_chart c e) f g)

pub fresh_sound : (row : ℕ) → row_exists row ≡ true → sound (fresh_chart row) ≡ true
unfolding sound
fresh_sound row e = rw e

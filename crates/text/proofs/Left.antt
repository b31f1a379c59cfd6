-- What is left to be written of a good text: one law for each way that the code goes.
use mathlib.Core.Path.{◌≡◌, refl, sym, ap, ◌∙◌, subst}
use mathlib.Core.List.{List, [], ◌∷◌, ◌++◌}
use Prim.Native.Nat.{ℕ, ◌+◌, ◌*◌, ◌≤◌}
use native.Mathlib.Omega.{arith}
use lib.ListN.{length, length-append}
use lib.Seq.{sets}
use Rattle.decimal.specs.Put.{Put}
use Rattle.decimal.proofs.Put.{sets_append, put_length}
use Rattle.chart_rules.specs.Places.{chart_at}
use Rattle.chart_rules.specs.Fine.{FineLine, GoodLines}
use Rattle.chart_rules.specs.Judging.{value_lines}
use Rattle.chart_rules.specs.Gathering.{Gathered, joined, finished, closed, kept, sets_of}
use Rattle.text_gather.specs.Progress.{seen, Begun, Stepped}
use Rattle.chart_rules.specs.Output.{chart_all, chart_after, text_sets, text_lines}
use Rattle.std.specs.Prelude.{Option, Some, None}
use Rattle.chart_rules.specs.declared.ValueLine.{ValueLine}
use Rattle.text_gather.specs.declared.Progress.{Progress}
use Rattle.chart_rules.proofs.Output.{chart_append, chart_short}

-- ---- what is left to be written, of these lines: written from here, it gives the whole
pub record Left (text old : List ℕ) (start : ℕ) (out : List ℕ) (p : Progress) (ls : List (Option ValueLine)) : Type 0 where
  pub bytes : sets out p.end (chart_all (chart_at p.chart) (sets_of (seen p.set) ls)) ≡ sets old start (text_lines text)
  pub behind : p.end + length (chart_all (chart_at p.chart) (sets_of (seen p.set) ls)) ≡ start + length (text_lines text)
  pub room : p.end + 40 * length (sets_of (seen p.set) ls) ≤ length old
  pub long : length out ≡ length old
  pub good : GoodLines p.set.week p.set.count ls

-- the same, where the lines begin with this one
pub left_next : {text old : List ℕ} {start : ℕ} {out : List ℕ} {p : Progress} {ls more : List (Option ValueLine)} {x y : Option ValueLine} → Left text old start out p ls
    → ls ≡ x ∷ more → x ≡ y → Left text old start out p (y ∷ more)
left_next {text} {old} {start} {out} {p} {ls} {more} l e f = subst (Left text old start out p) (e ∙ ap (λ (z : Option ValueLine). z ∷ more) f) l

-- the line that comes next
module _ {text old : List ℕ} {start : ℕ} {out : List ℕ} {p : Progress} (v : ValueLine) (ls : List (Option ValueLine)) (l : Left text old start out p (Some v ∷ ls)) where
  pub left_fine : FineLine p.set.week p.set.count v
  unfolding GoodLines
  left_fine = l.good.0

  sets_are : sets_of (seen p.set) (Some v ∷ ls) ≡ closed (seen p.set) v ++ sets_of (joined (kept (seen p.set) v) v) ls
  unfolding sets_of
  sets_are = refl

  pub left_room : p.end + 40 * length (closed (seen p.set) v) ≤ length out
  left_room = omega (arith, l.room, l.long, ap length sets_are, length-append (closed (seen p.set) v) (sets_of (joined (kept (seen p.set) v) v) ls))

  pub left_step : (r : Progress) (new : List ℕ) → Stepped p v r → Put out p.end (chart_all (chart_at p.chart) (closed (seen p.set) v)) new r.end → Left text old start new r ls
  unfolding GoodLines
  left_step r new s put =
      let c = chart_at p.chart in
      let done = closed (seen p.set) v in
      let more = sets_of (joined (kept (seen p.set) v) v) ls in
      let a = chart_all c done in
      let b = chart_all (chart_after c done) more in
      let more_is = ap (λ (g : Gathered). sets_of g ls) s.set in
      let rest_is : chart_all (chart_at r.chart) (sets_of (seen r.set) ls) ≡ b = λ i. chart_all (s.after i) (more_is i) in
      let whole : chart_all c (sets_of (seen p.set) (Some v ∷ ls)) ≡ a ++ b = ap (chart_all c) sets_are ∙ chart_append c done more in
      record {
        bytes = (λ i. sets (put.written i) (put.behind i) (rest_is i)) ∙ sets_append a b out p.end ∙ ap (sets out p.end) (sym whole) ∙ l.bytes;
        behind = omega (arith, put.behind, ap length rest_is, ap length whole, length-append a b, l.behind);
        room = omega (arith, put.behind, chart_short c done, ap length more_is, ap length sets_are, length-append done more, l.room);
        long = put_length put ∙ l.long;
        good = rw (s.week, s.count) l.good.1;
      }

-- the last set
module _ {text old : List ℕ} {start : ℕ} {out : List ℕ} {p : Progress} (l : Left text old start out p []) where
  pub left_last : p.end + 40 * length (finished (seen p.set)) ≤ length out
  unfolding sets_of
  left_last = omega (arith, l.room, l.long)

  pub left_done : (new : List ℕ) (next : ℕ) → Put out p.end (chart_all (chart_at p.chart) (finished (seen p.set))) new next → Put old start (text_lines text) new next
  unfolding sets_of
  left_done new next put = record { written = put.written ∙ l.bytes; behind = omega (arith, put.behind, l.behind) }

pub left_start : (text old : List ℕ) (start : ℕ) (p : Progress) → Begun start p → GoodLines 0 0 (value_lines text) → start + 40 * length (text_sets text) ≤ length old
    → Left text old start old p (value_lines text)
unfolding text_lines text_sets
left_start text old start p b g h =
    let sets_is = ap (λ (t : Gathered). sets_of t (value_lines text)) b.set.is in
    let all : chart_all (chart_at p.chart) (sets_of (seen p.set) (value_lines text)) ≡ text_lines text = λ i. chart_all (b.chart i) (sets_is i) in
    record {
      bytes = λ i. sets old (b.end i) (all i);
      behind = omega (arith, b.end, ap length all);
      room = omega (arith, b.end, ap length sets_is);
      long = refl;
      good = rw (b.set.count, b.set.week) g;
    }

-- no line of a good text is bad
pub left_bad : {text old : List ℕ} {start : ℕ} {out : List ℕ} {p : Progress} {ls : List (Option ValueLine)} → Left text old start out p (None ∷ ls) → ⊥
unfolding GoodLines
left_bad l = l.good

-- The set under way, charted.
use mathlib.Core.Path.{◌≡◌, sym, ap, ◌∙◌}
use mathlib.Core.List.{List, [], ◌∷◌, append-nil}
use Prim.Native.Nat.{ℕ, ◌*◌, ◌+◌, ◌-◌, ◌≤◌}
use lib.IntN.{ℤ}
use lib.ListN.{length, take}
use Rattle.chart_rules.specs.Calls.{result_of, bytes_of}
use Rattle.chart_rules.specs.Places.{chart_at}
use Rattle.chart_rules.specs.InPlace.{left_by}
use Rattle.chart_rules.specs.Gathering.{Gathered, joined, finished, closed, kept}
use Rattle.chart_rules.specs.Fine.{FineLine}
use Rattle.chart_rules.specs.declared.ValueLine.{ValueLine}
use Rattle.chart_rules.proofs.Gathering.{closed_start, closed_next, kept_start, kept_next}
use Rattle.chart_rules.proofs.Rulings.{fine_next}
use Rattle.decimal.specs.Put.{Put}
use Rattle.decimal.proofs.Put.{put_is, put_none}
use native.Mathlib.Omega.{arith}
use Rattle.text_gather.specs.declared.Progress.{Progress}
use Rattle.text_gather.specs.Progress.{seen, Empty, Grown, Flushed, Stepped}
use Rattle.chart_rules.specs.Output.{chart_all, chart_after}
use Rattle.std.specs.Prelude.{Result, Ok}
use Rattle.chart_rules.specs.declared.Refusal.{Refusal}
use Rattle.chart_rules.specs.declared.Charted.{Charted}
use Rattle.text_gather.specs.declared.TextSet.{TextSet}
use Rattle.chart_rules.proofs.InPlace.{left_holds}
use Rattle.chart_rules.proofs.Results.{charted_length, enough_room}
use Rattle.chart_rules.proofs.Output.{chart_short}
use Rattle.text_gather.proofs.Seen.{seen_some}

-- a set that has a line, charted in a buffer that has room for its output line: as in one of 40 bytes
module _ (p : Progress) (some : p.set.count ≡ 0 → ⊥) (ten : length p.set.numbers ≡ 10) {n : ℕ} (room : p.end + 40 * length (finished (seen p.set)) ≤ n)
    {numbers : List ℤ} (held : numbers ≡ take (2 * p.set.count) p.set.numbers) {a : Result Charted Refusal} (e : a ≡ (result_of (chart_at p.chart) p.set.week numbers (n - p.end)).answer) where
  fin : finished (seen p.set) ≡ seen p.set ∷ []
  fin = seen_some p.set some ten

  in_40 : result_of (chart_at p.chart) p.set.week numbers (n - p.end) ≡ result_of (chart_at p.chart) p.set.week numbers 40
  in_40 = enough_room (chart_at p.chart) p.set.week numbers (n - p.end) (omega (arith, ap length fin))

  flush_is : a ≡ (result_of (chart_at p.chart) p.set.week (seen p.set).numbers 40).answer
  unfolding seen
  flush_is = rw held at (rw in_40 at e)

  pub flush_chart : (left : List ℤ) → left ≡ left_by a p.chart p.set.week numbers
      → chart_at left ≡ chart_after (chart_at p.chart) (finished (seen p.set))
  unfolding chart_after seen
  flush_chart left l =
      ap chart_at (l ∙ (λ i. left_by (flush_is i) p.chart p.set.week (held i)))
      ∙ left_holds p.chart p.set.week (seen p.set).numbers 40 ∙ sym (ap (chart_after (chart_at p.chart)) fin)

  pub flush_bytes : bytes_of a ≡ chart_all (chart_at p.chart) (finished (seen p.set))
  unfolding chart_all seen
  flush_bytes = ap bytes_of flush_is ∙ sym (append-nil _) ∙ sym (ap (chart_all (chart_at p.chart)) fin)

  pub flush_length : (charted : Charted) → a ≡ Ok charted → charted.length ≡ length (bytes_of a)
  unfolding bytes_of
  flush_length charted ok =
      charted_length (chart_at p.chart) p.set.week (seen p.set).numbers 40 charted (sym flush_is ∙ ok)
      ∙ sym (ap (λ (x : Result Charted Refusal). length (bytes_of x)) ok)

  pub flush_end : p.end + length (bytes_of a) ≤ n
  flush_end = omega (arith, ap length flush_bytes, chart_short (chart_at p.chart) (finished (seen p.set)), room)

  pub flush_done : (q : Progress) (old new : List ℕ) → q.chart ≡ left_by a p.chart p.set.week numbers → Empty q.set → q.end ≡ p.end + length (bytes_of a)
      → Put old p.end (bytes_of a) new (p.end + length (bytes_of a)) → Flushed p q × Put old p.end (chart_all (chart_at p.chart) (finished (seen p.set))) new q.end
  flush_done q old new left none end put =
      (record { after = flush_chart q.chart left; set = none }, put_is (record { written = put.written; behind = end }) flush_bytes)

-- the set under way closed where the line starts one: what then joins the line
pub record Ready (p : Progress) (v : ValueLine) (old : List ℕ) (q : Progress) (new : List ℕ) : Type 0 where
  pub after : chart_at q.chart ≡ chart_after (chart_at p.chart) (closed (seen p.set) v)
  pub set : seen q.set ≡ kept (seen p.set) v
  pub count : q.set.count + 1 ≡ v.sample
  pub put : Put old p.end (chart_all (chart_at p.chart) (closed (seen p.set) v)) new q.end

pub ready_start : (p : Progress) (v : ValueLine) (old : List ℕ) (q : Progress) (new : List ℕ) → v.sample ≡ 1 → Flushed p q
    → Put old p.end (chart_all (chart_at p.chart) (finished (seen p.set))) new q.end → Ready p v old q new
ready_start p v old q new one f put =
    let shut = sym (closed_start (seen p.set) v one) in
    record {
      after = f.after ∙ ap (chart_after (chart_at p.chart)) shut;
      set = f.set.is ∙ sym (kept_start (seen p.set) v one);
      count = omega (arith, f.set.count, one);
      put = put_is put (ap (chart_all (chart_at p.chart)) shut);
    }

pub ready_next : (p : Progress) (v : ValueLine) (old : List ℕ) → (v.sample ≡ 1 → ⊥) → FineLine p.set.week p.set.count v → Ready p v old p old
unfolding chart_all chart_after
ready_next p v old other fine =
    let shut = sym (closed_next (seen p.set) v other) in
    record {
      after = ap (chart_after (chart_at p.chart)) shut;
      set = sym (kept_next (seen p.set) v other);
      count = omega (arith, (fine_next _ _ v fine other).1);
      put = put_is (put_none old p.end) (ap (chart_all (chart_at p.chart)) shut);
    }

pub stepped : (p : Progress) (v : ValueLine) (old : List ℕ) (q : Progress) (new : List ℕ) (s : TextSet) → Ready p v old q new → Grown q.set v s
    → Stepped p v (record { chart = q.chart; set = s; end = q.end })
stepped p v old q new s r g =
    record { after = r.after; set = g.is ∙ ap (λ (x : Gathered). joined x v) r.set; count = omega (arith, g.count, r.count); week = g.week }

-- What the code has at hand of a call that is not refused.
use mathlib.Core.Path.{◌≡◌, sym, ap, ◌∙◌}
use mathlib.Core.Bool.{false}
use mathlib.Core.List.{List}
use Prim.Native.Nat.{ℕ, ◌≤◌}
use lib.IntN.{ℤ}
use lib.ListN.{length}
use Rattle.std.specs.Prelude.{Ok}
use Rattle.chart_rules.specs.Sets.{set_of}
use Rattle.chart_rules.specs.Refusals.{refusal_of, bad_size, bad_result}
use Rattle.chart_rules.specs.Places.{chart_at}
use Rattle.chart_rules.specs.declared.Chart.{Chart}
use Rattle.chart_rules.proofs.Bounds.{week_facts}
use Rattle.chart_rules.proofs.Calls.{fine_sound}
use Rattle.chart_rules.proofs.Fine.{fine_call}
use Rattle.chart_rules.proofs.InPlace.{in_15}
use Rattle.chart_rules.proofs.Sets.{SoundSet, sound_set_lem}

pub record Ready (words : List ℤ) (week : ℕ) (numbers : List ℤ) (room : ℕ) : Type 0 where
  pub full : length words ≡ 15
  pub time : week ≤ 9999
  pub size : bad_size (length numbers) ≡ false
  pub results : bad_result numbers ≡ false
  pub place : 40 ≤ room
  pub made : SoundSet (set_of numbers)

pub ready : {words : List ℤ} {week : ℕ} {numbers : List ℤ} {room : ℕ} {chart : Chart}
    → chart ≡ chart_at words → Ok tt ≡ refusal_of chart week numbers room → Ready words week numbers room
ready {words} {week} {numbers} {room} e a =
    let f = fine_call (chart_at words) week numbers room (ap (λ (c : Chart). refusal_of c week numbers room) (sym e) ∙ sym a) in
    record {
      full = in_15 words week numbers room f;
      time = (week_facts (chart_at words).week week f.time).1;
      size = f.size;
      results = f.results;
      place = f.place;
      made = sound_set_lem (set_of numbers) (fine_sound (chart_at words) week numbers room f);
    }

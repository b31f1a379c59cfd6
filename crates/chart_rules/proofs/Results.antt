-- The output line's length, and what a refused call leaves.
use mathlib.Core.Path.{◌≡◌, refl}
use mathlib.Core.List.{List}
use Prim.Native.Nat.{ℕ, ◌≤◌}
use native.Mathlib.Omega.{arith}
use lib.IntN.{ℤ}
use lib.ListN.{length}
use borrow.Author.Tests.{le-ltb}
use Rattle.decimal.specs.Put.{overwritten}
use Rattle.std.specs.Prelude.{Some, Ok}
use Rattle.chart_rules.specs.Sets.{set_of}
use Rattle.chart_rules.specs.Lines.{values_of, line_of}
use Rattle.chart_rules.specs.Refusals.{refusal_of}
use Rattle.chart_rules.specs.Calls.{ChartResult, accepted, result_of, bytes_of, chart_set_of, chart_says}
use Rattle.chart_rules.specs.Laws.{RefusedUntouched, LineFits}
use Rattle.chart_rules.specs.declared.Chart.{Chart}
use Rattle.chart_rules.specs.declared.Charted.{Charted}
use Rattle.chart_rules.proofs.Lines.{sound_short}
use Rattle.chart_rules.proofs.Fine.{FineCall}
use Rattle.chart_rules.proofs.Calls.{call_cases, fine_sound}
use Rattle.chart_rules.proofs.Sets.{sound_set_lem}
use Rattle.chart_rules.proofs.Bounds.{week_facts}

-- a buffer of 40 bytes is as good as any longer one
pub enough_room : (c : Chart) (week : ℕ) (numbers : List ℤ) (room : ℕ) → 40 ≤ room → result_of c week numbers room ≡ result_of c week numbers 40
unfolding result_of refusal_of
enough_room c week numbers room h = rw (le-ltb room 40 h)

-- ---- lines
fine_short : (c : Chart) (week : ℕ) (numbers : List ℤ) (room : ℕ) → FineCall c week numbers room → length (line_of (values_of c week (set_of numbers))) ≤ 40
fine_short c week numbers room f =
    sound_short c week (set_of numbers) (week_facts c.week week f.time).1 (sound_set_lem (set_of numbers) (fine_sound c week numbers room f))

line_40 : (c : Chart) (week : ℕ) (numbers : List ℤ) (room : ℕ) → length (bytes_of (result_of c week numbers room).answer) ≤ 40
unfolding accepted bytes_of
line_40 c week numbers room =
    call_cases c week numbers room (λ r. length (bytes_of r.answer) ≤ 40) (λ r. omega arith) (λ f. fine_short c week numbers room f)

line_room : (c : Chart) (week : ℕ) (numbers : List ℤ) (room : ℕ) → length (bytes_of (result_of c week numbers room).answer) ≤ room
unfolding accepted bytes_of
line_room c week numbers room =
    call_cases c week numbers room (λ r. length (bytes_of r.answer) ≤ room) (λ r. omega arith)
    (λ f. omega (arith, fine_short c week numbers room f, f.place))

pub line_fits : LineFits
line_fits = record { forty = line_40; inside = line_room }

-- the length that is answered is the line's
pub charted_length : (c : Chart) (week : ℕ) (numbers : List ℤ) (room : ℕ) (a : Charted) → (result_of c week numbers room).answer ≡ Ok a → a.length ≡ length (line_of a.values)
unfolding accepted
charted_length c week numbers room a =
    call_cases c week numbers room (λ r. r.answer ≡ Ok a → a.length ≡ length (line_of a.values))
    (λ r e. absurd cc)
    (λ f e. cc)

pub charted_short : (c : Chart) (week : ℕ) (numbers : List ℤ) (room : ℕ) (a : Charted) → (result_of c week numbers room).answer ≡ Ok a → a.length ≤ 40
unfolding bytes_of
charted_short c week numbers room a e =
    let forty : length (line_of a.values) ≤ 40 = rw e at (line_fits.forty c week numbers room) in
    omega (arith, charted_length c week numbers room a e)

-- ---- a refused call
-- what is to be shown of a call's result
Untouched : Chart → List ℕ → ChartResult → Type 0
Untouched c buffer r = (n : ℕ) → (chart_says r.answer).number ≡ Some n → (r.chart ≡ c) × (overwritten (bytes_of r.answer) buffer ≡ buffer)

untouched : (c : Chart) (week : ℕ) (numbers : List ℤ) (room : ℕ) (buffer : List ℕ) → Untouched c buffer (result_of c week numbers room)
unfolding Untouched accepted bytes_of
untouched c week numbers room buffer =
    call_cases c week numbers room (Untouched c buffer) (λ r n e. (refl, refl))
    (λ f n e. absurd cc)

pub refused_untouched : RefusedUntouched
unfolding chart_set_of Untouched
refused_untouched = record {
  chart = λ c week numbers buffer n e. (untouched c week numbers (length buffer) buffer n e).0;
  buffer = λ c week numbers buffer n e. (untouched c week numbers (length buffer) buffer n e).1;
}

-- The two ways of a call; a sound chart stays sound.
use mathlib.Core.Path.{◌≡◌, refl}
use mathlib.Core.Bool.{true, cond, not}
use mathlib.Core.List.{List}
use Prim.Native.Nat.{ℕ}
use native.Mathlib.Omega.{arith}
use lib.IntN.{ℤ}
use Rattle.whole.proofs.ListLaws.{by_test}
use Rattle.std.specs.Prelude.{Result, Ok, Err}
use Rattle.chart_rules.specs.Sets.{set_of}
use Rattle.chart_rules.specs.Rows.{row_exists}
use Rattle.chart_rules.specs.Calls.{opening, open_of, ChartResult, decided, accepted, result_of}
use Rattle.chart_rules.specs.Charts.{sound_set, sound}
use Rattle.chart_rules.specs.Refusals.{refusal_of}
use Rattle.chart_rules.specs.Laws.{StaysSound, OpenedExactly, LowestNumber}
use Rattle.chart_rules.specs.declared.Chart.{Chart}
use Rattle.chart_rules.specs.declared.Refusal.TheVariants.{UnknownRow}
use Rattle.chart_rules.specs.declared.Refusal.{Refusal}
use Rattle.chart_rules.proofs.Sets.{set_sound}
use Rattle.chart_rules.proofs.Fine.{FineCall, fine_call}
use Rattle.chart_rules.proofs.Charts.{next_sound, fresh_sound}

-- the two ways of a call
pub call_cases : (c : Chart) (week : ℕ) (numbers : List ℤ) (room : ℕ) (P : ChartResult → Type 0)
    → ((r : Refusal) → P (record { chart = c; answer = Err r })) → (FineCall c week numbers room → P (accepted c week numbers)) → P (result_of c week numbers room)
unfolding result_of decided
call_cases c week numbers room P bad good = go (refusal_of c week numbers room) refl
  where
    go : (j : Result (Unit {0}) Refusal) → refusal_of c week numbers room ≡ j → P (decided j c (accepted c week numbers))
    go (Ok fine) e = good (fine_call c week numbers room e)
    go (Err r) e = bad r

-- the set of a call that is not refused is sound
pub fine_sound : (c : Chart) (week : ℕ) (numbers : List ℤ) (room : ℕ) → FineCall c week numbers room → sound_set (set_of numbers) ≡ true
fine_sound c week numbers room f = set_sound numbers f.size f.results

-- ---- charts
charted_sound : (c : Chart) (week : ℕ) (numbers : List ℤ) (room : ℕ) → sound c ≡ true → sound (result_of c week numbers room).chart ≡ true
unfolding accepted
charted_sound c week numbers room e =
    call_cases c week numbers room (λ r. sound r.chart ≡ true) (λ r. e)
    (λ f. next_sound c week (set_of numbers) e f.time (fine_sound c week numbers room f))

opened_sound : (row : ℕ) → sound (open_of row).chart ≡ true
unfolding open_of opening
opened_sound row =
    by_test (row_exists row) (λ b. sound (opening (cond (not b) (Err UnknownRow) (Ok tt)) row).chart ≡ true)
    (λ e. fresh_sound row e) (λ e. fresh_sound 0 refl)

pub stays_sound : StaysSound
stays_sound = record { opened = opened_sound; charted = charted_sound }

pub lowest_number : LowestNumber
lowest_number c week numbers room = (omega arith, (omega arith, (omega arith, (omega arith, tt))))

pub opened_exactly : OpenedExactly
unfolding open_of opening
opened_exactly = record { opened = λ row e. rw e; refused = λ row e. rw e }

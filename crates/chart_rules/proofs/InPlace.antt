-- The calls over a chart in its caller's places: the chart that the places hold afterwards.
use mathlib.Core.Path.{◌≡◌, refl, ◌∙◌}
use mathlib.Core.Bool.{cond, not}
use mathlib.Core.List.{List}
use Prim.Native.Nat.{ℕ}
use lib.IntN.{ℤ}
use lib.ListN.{length}
use Rattle.whole.proofs.ListLaws.{by_test}
use Rattle.std.specs.Prelude.{Some, Ok, Err}
use Rattle.chart_rules.specs.Sets.{set_of}
use Rattle.chart_rules.specs.Rows.{row_exists}
use Rattle.chart_rules.specs.Charts.{fresh_chart}
use Rattle.chart_rules.specs.Places.{chart_at}
use Rattle.chart_rules.specs.Calls.{opening, open_of, accepted, result_of, chart_set_of, chart_says}
use Rattle.chart_rules.specs.InPlace.{open_in, left_by, chart_set_in}
use Rattle.chart_rules.specs.Laws.{HeldInPlace}
use Rattle.chart_rules.specs.declared.Refusal.TheVariants.{UnknownRow}
use Rattle.chart_rules.proofs.Charts.{sound_chart}
use Rattle.chart_rules.proofs.Places.{read_back, fifteen}
use Rattle.chart_rules.proofs.Fine.{FineCall}
use Rattle.chart_rules.proofs.Calls.{call_cases}

module _ (words : List ℤ) (week : ℕ) (numbers : List ℤ) where
  pub in_15 : (room : ℕ) → FineCall (chart_at words) week numbers room → length words ≡ 15
  in_15 room f = fifteen words (sound_chart (chart_at words) f.whole).row

  -- the places that a call leaves hold the chart that it leaves
  pub left_holds : (room : ℕ) → chart_at (left_by (result_of (chart_at words) week numbers room).answer words week numbers) ≡ (result_of (chart_at words) week numbers room).chart
  unfolding accepted
  left_holds room =
      call_cases (chart_at words) week numbers room (λ x. chart_at (left_by x.answer words week numbers) ≡ x.chart) (λ r. refl)
      (λ f. read_back.next words week (set_of numbers) (in_15 room f))

  charted : (buffer : List ℕ) → chart_at (chart_set_in words week numbers buffer).places ≡ (result_of (chart_at words) week numbers (length buffer)).chart
  unfolding chart_set_in chart_set_of
  charted buffer = left_holds (length buffer)

  untouched : (buffer : List ℕ) (n : ℕ) → (chart_says (chart_set_in words week numbers buffer).answer).number ≡ Some n → (chart_set_in words week numbers buffer).places ≡ words
  unfolding chart_set_in chart_set_of accepted
  untouched buffer =
      call_cases (chart_at words) week numbers (length buffer)
      (λ x. (n : ℕ) → (chart_says x.answer).number ≡ Some n → left_by x.answer words week numbers ≡ words)
      (λ r n e. refl)
      (λ f n e. absurd cc)

fresh : (row : ℕ) → fresh_chart (open_of row).chart.row ≡ (open_of row).chart
unfolding open_of opening
fresh row =
    by_test (row_exists row)
    (λ b. fresh_chart (opening (cond (not b) (Err UnknownRow) (Ok tt)) row).chart.row ≡ (opening (cond (not b) (Err UnknownRow) (Ok tt)) row).chart)
    (λ e. refl) (λ e. refl)

opened : (row : ℕ) → chart_at (open_in row).places ≡ (open_of row).chart
unfolding open_in
opened row = read_back.fresh (open_of row).chart.row ∙ fresh row

pub held_in_place : HeldInPlace
held_in_place = record { opened = opened; charted = charted; refused = untouched }

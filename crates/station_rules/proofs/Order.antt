-- The same samples in another order give the same checks, S and N, so a sheet call gives the same answer and leaves the same station and places.
use mathlib.Core.Path.{◌≡◌, refl, sym, ◌∙◌, ap, ap₂}
use mathlib.Core.Bool.{Bool, true, false, not, ◌&&◌, cond}
use mathlib.Core.List.{List, [], ◌∷◌, map, Permᴰ}
use Prim.Native.Nat.{ℕ, suc, ◌*◌}
use native.Mathlib.Omega.{arith}
use lib.Dec.{eqb}
use lib.ListN.{length}
use lib.IntN.{ℤ, pos, ◌+ℤ◌, ◌-ℤ◌, +ℤ_idl}
use lib.Signed.{lt_z}
use Rattle.std.proofs.lemmas.Int.{ints}
use Rattle.whole.specs.Lists.{total}
use Rattle.whole.proofs.ListLaws.{any_map}
use Rattle.whole.proofs.OrderLaws.{fold_order, any_order, length_order, largest_order, smallest_order}
use Rattle.station_rules.specs.Lists.{keep}
use Rattle.station_rules.specs.Rows.{limits_of, samples}
use Rattle.station_rules.specs.Sheets.{samples_of, numbers_of, wrong_number, wrong_third, wrong_again, deviates, first_deviation, final_deviation, again_round, kept, kept_samples, set_of, sheet_checks}
use Rattle.station_rules.specs.declared.Sample.{Sample}
use Rattle.station_rules.specs.Judging.{sheet_numbers, sheet_set, sheet_verdict}
use Rattle.station_rules.specs.Held.{Station}
use Rattle.station_rules.specs.Stations.{SheetResult, sheet_of, sheet_station, outcome_of, values_of}
use Rattle.station_rules.specs.Places.{station_in}
use Rattle.station_rules.specs.InPlace.{sheet_left, sheet_places, sheet_in}
use Rattle.station_rules.specs.Laws.{OrderFree}
use Rattle.station_rules.specs.declared.Limits.{Limits}

-- ---- over the samples that pass a test

module _ {A : Type 0} where
  count_order : (p : A → Bool) {l k : List A} → Permᴰ l k → length (keep p l) ≡ length (keep p k)
  count_order p d = fold_order p step swaps (λ l. length (keep p l)) (λ a l. cons (p a) a l) d
    where
      step : Bool → ℕ → ℕ
      step t n = cond t (suc n) n

      swaps : (x y : Bool) (n : ℕ) → step x (step y n) ≡ step y (step x n)
      swaps true true n = refl
      swaps true false n = refl
      swaps false true n = refl
      swaps false false n = refl

      cons : (t : Bool) (a : A) (l : List A) → length (cond t (a ∷ keep p l) (keep p l)) ≡ step t (length (keep p l))
      cons true a l = refl
      cons false a l = refl

  sum_order : (f : A → ℤ) (p : A → Bool) {l k : List A} → Permᴰ l k → total (map f (keep p l)) ≡ total (map f (keep p k))
  sum_order f p d =
      fold_order (λ (a : A). cond (p a) (f a) (pos 0)) ◌+ℤ◌ swaps (λ l. total (map f (keep p l))) (λ a l. cons (p a) a l) d
    where
      swaps : (x y z : ℤ) → x +ℤ (y +ℤ z) ≡ y +ℤ (x +ℤ z)
      swaps x y z = omega (arith, ints)

      cons : (t : Bool) (a : A) (l : List A) → total (map f (cond t (a ∷ keep p l) (keep p l))) ≡ cond t (f a) (pos 0) +ℤ total (map f (keep p l))
      cons true a l = refl
      cons false a l = sym (+ℤ_idl (total (map f (keep p l))))

-- ---- a sheet

samples_back : (ss : List Sample) → samples_of (numbers_of ss) ≡ ss
unfolding samples_of
samples_back [] = refl
samples_back (s ∷ ss) = ap (λ (r : List Sample). s ∷ r) (samples_back ss)

length_numbers : (ss : List Sample) → length (numbers_of ss) ≡ 6 * length ss
length_numbers [] = refl
length_numbers (s ∷ ss) = omega (arith, length_numbers ss)

-- what a sheet is judged by: how many numbers, and which samples
module _ (l k : List ℤ) (same : length l ≡ length k) (d : Permᴰ (samples_of l) (samples_of k)) where
  module _ (limits : Limits) (i : ℤ) where
    round_order : again_round limits i (samples_of l) ≡ again_round limits i (samples_of k)
    unfolding again_round
    round_order =
        ap₂ ◌&&◌
        (sym (any_map (deviates limits) (first_deviation limits i) (samples_of l)) ∙ any_order (λ s. deviates limits (first_deviation limits i s)) d
        ∙ any_map (deviates limits) (first_deviation limits i) (samples_of k))
        (ap₂ (λ (x y : ℤ). lt_z (pos (2 * limits.range)) (x -ℤ y)) (largest_order (first_deviation limits i) d) (smallest_order (first_deviation limits i) d))

    set_order : set_of limits i l ≡ set_of limits i k
    unfolding set_of kept_samples
    set_order =
        rw round_order
        (λ j. record {
          sum = sum_order (final_deviation limits i (again_round limits i (samples_of k))) (kept limits i (again_round limits i (samples_of k))) d j;
          count = 2 * count_order (kept limits i (again_round limits i (samples_of k))) d j;
        })

    checks_order : (n : ℕ) → sheet_checks limits i n l ≡ sheet_checks limits i n k
    unfolding sheet_checks
    checks_order n =
        rw round_order
        (λ j.
        record { answer = 4; applies = not (eqb (same j) (6 * n)) }
        ∷ record { answer = 5; applies = any_order wrong_number d j }
        ∷ record { answer = 6; applies = any_order (wrong_third limits) d j }
        ∷ record { answer = 7; applies = any_order (wrong_again limits i (again_round limits i (samples_of k))) d j }
        ∷ [])

  sheet_order : (s : Station) (day line : ℕ) → sheet_of s day line l ≡ sheet_of s day line k
  unfolding sheet_of sheet_numbers sheet_station sheet_set sheet_verdict outcome_of
  sheet_order s day line =
      let v = values_of s line in
      rw (checks_order (limits_of s.row line) v.intercept (samples s.row), set_order (limits_of s.row line) v.intercept)

  written_order : (words : List ℤ) (day line : ℕ) → sheet_places words day line l ≡ sheet_places words day line k
  unfolding sheet_places sheet_set sheet_verdict
  written_order words day line =
      let s = station_in words in
      rw (set_order (limits_of s.row line) (values_of s line).intercept)

  places_order : (words : List ℤ) (day line : ℕ) → sheet_in words day line l ≡ sheet_in words day line k
  unfolding sheet_in
  places_order words day line =
      ap₂ (λ (r : SheetResult) (written : List ℤ). record { answer = r.answer; places = sheet_left r.answer words written })
      (sheet_order (station_in words) day line) (written_order words day line)

-- ---- the samples moved

module _ (ss ts : List Sample) (d : Permᴰ ss ts) where
  as_many : length (numbers_of ss) ≡ length (numbers_of ts)
  as_many = length_numbers ss ∙ ap (λ (n : ℕ). 6 * n) (length_order d) ∙ sym (length_numbers ts)

  moved : Permᴰ (samples_of (numbers_of ss)) (samples_of (numbers_of ts))
  moved = rw (samples_back ss, samples_back ts) d

pub order_free : OrderFree
order_free =
    record {
      station = λ s day line ss ts d. sheet_order (numbers_of ss) (numbers_of ts) (as_many ss ts d) (moved ss ts d) s day line;
      places = λ words day line ss ts d. places_order (numbers_of ss) (numbers_of ts) (as_many ss ts d) (moved ss ts d) words day line;
      numbers = λ words day line l k same d. places_order l k same d words day line;
    }

-- Which answer a sheet call gets, by its tests in the order of their numbers.
use mathlib.Core.Path.{◌≡◌, refl, sym, ap, ◌∙◌, subst}
use mathlib.Core.List.{List, ◌++◌}
use Rattle.std.specs.Prelude.{Result, Ok, Err, Option, None, Some}
use Prim.Native.Nat.{ℕ, ◌≤◌}
use native.Mathlib.Omega.{arith}
use lib.IntN.{ℤ, nat_abs}
use Rattle.std.proofs.lemmas.Int.{ints}
use Rattle.whole.specs.Lists.{Check}
use Rattle.station_rules.specs.Rows.{samples, limits_of}
use Rattle.station_rules.specs.Refusals.{first_number}
use Rattle.station_rules.specs.Sheets.{sheet_checks, set_of}
use Rattle.station_rules.specs.Judging.{sheet_numbers, sheet_set, sheet_verdict}
use Rattle.station_rules.specs.Places.{station_in}
use Rattle.station_rules.specs.InPlace.{Left, sheet_places, sheet_left, sheet_in}
use Rattle.station_rules.specs.Stations.{values_of, sheet_station, outcome_of, sheet_result, sheet_of}
use Rattle.station_rules.proofs.SheetBounds.{set_bounded}
use Rattle.station_rules.proofs.RowFacts.{row_facts}
use Rattle.station_rules.specs.declared.Limits.{Limits}
use Rattle.station_rules.specs.declared.Set.{Set}
use Rattle.station_rules.specs.Held.{Station}
use Rattle.station_refusals.specs.declared.Refusal.{Refusal}
use Rattle.sheet.specs.Judged.{judged_by, judged_of}
use Rattle.line_past.specs.Ranges.{SetsOf}
use Rattle.station_soundness.proofs.FitsLaws.{size_within, line_fits}
use Rattle.station_entry.specs.Entries.{line_checks, refused_or, footing}
use Rattle.station_entry.proofs.EntryLaws.{refused_by, none_before, some_before, stands}
use Rattle.station.specs.Accepted.{accepted_in, sheet_by, Ruled}
use Rattle.station_rules.specs.declared.Outcome.{Outcome}

module _ (words : List ℤ) (day line : ℕ) (numbers : List ℤ) where
  abbrev s : Station
  s = station_in words

  -- numbers 0, 2 and 3, and those behind them
  abbrev first : List (Check ℕ)
  first = line_checks s day line

  abbrev more : List (Check ℕ)
  more = sheet_checks (limits_of s.row line) (values_of s line).intercept (samples s.row) numbers

  left_by : Option ℕ → Left (Result Outcome Refusal)
  left_by o =
      let answer = (sheet_result o s (sheet_station s day line numbers) (outcome_of s day line numbers)).answer in
      record { answer = answer; places = sheet_left answer words (sheet_places words day line numbers) }

  left_is : left_by (first_number (first ++ more)) ≡ sheet_in words day line numbers
  unfolding sheet_in sheet_of sheet_numbers left_by
  left_is = refl

  pub sheet_refused : (r : Refusal) → Err r ≡ refused_or (footing s line) (first_number first) → sheet_by words day line (Err r) ≡ sheet_in words day line numbers
  unfolding left_by
  sheet_refused r e =
      let p = refused_by (footing s line) (first_number first) e in
      ap (λ (r : Refusal). sheet_by words day line (Err r)) p.2 ∙ sym (ap left_by (some_before more first p.0 p.1)) ∙ left_is

  pub sheet_by_lem : first_number first ≡ None → (j : (Result Set Refusal)) → j ≡ judged_of (limits_of s.row line) (values_of s line).intercept (samples s.row) numbers
      → sheet_by words day line j ≡ sheet_in words day line numbers
  unfolding sheet_places outcome_of sheet_verdict sheet_set judged_of accepted_in left_by
  sheet_by_lem none j e =
      ap (sheet_by words day line) e ∙ go (first_number more) ∙ sym (ap left_by (none_before more first none)) ∙ left_is
    where
      go : (o : Option ℕ) → sheet_by words day line (judged_by o (set_of (limits_of s.row line) (values_of s line).intercept numbers)) ≡ left_by o
      go None = refl
      go (Some number) = refl

-- the set that a sheet's numbers come to is in its range
pub counted_fits : (limits : Limits) (i : ℤ) (n : ℕ) (numbers : List ℤ) (counted : Set) → nat_abs i ≤ 1000 → n ≤ 6 → Ok counted ≡ judged_of limits i n numbers
    → SetsOf 1 counted.sum counted.count
unfolding judged_of
counted_fits limits i n numbers counted hi hn e = go (first_number (sheet_checks limits i n numbers)) refl e
  where
    go : (o : Option ℕ) → first_number (sheet_checks limits i n numbers) ≡ o → Ok counted ≡ judged_by o (set_of limits i numbers)
        → SetsOf 1 counted.sum counted.count
    go None r e =
        let q : counted ≡ set_of limits i numbers = cc in
        let b = set_bounded limits i n numbers hi r in
        subst (λ (x : Set). SetsOf 1 x.sum x.count) (sym q)
        (record { within = size_within 132000 (set_of limits i numbers).sum (omega arith); few = omega arith })
    go (Some number) x e = let z : ◌≡◌ {A = ℕ} 0 1 = cc in absurd (omega arith)

-- what the numbers of a call on a sound station's line come to
pub ruled_by : (words : List ℤ) (day line : ℕ) (numbers : List ℤ) → let s = station_in words in
    first_number (line_checks s day line) ≡ None → (j : (Result Set Refusal))
    → j ≡ judged_of (limits_of s.row line) (values_of s line).intercept (samples s.row) numbers → Ruled words day line numbers j
ruled_by words day line numbers none (Err r) e = sheet_by_lem words day line numbers none (Err r) e
ruled_by words day line numbers none (Ok set) e =
    let s = station_in words in
    let known = stands words day line none in
    let small = (line_fits s line known.serves.right known.here).small in (
      record {
        right = known.serves.right;
        today = known.serves.today;
        here = known.here;
        fits = counted_fits (limits_of s.row line) (values_of s line).intercept (samples s.row) numbers set (omega (arith, ints)) (row_facts s.row).six_samples e;
      },
      sheet_by_lem words day line numbers none (Ok set) e,
    )

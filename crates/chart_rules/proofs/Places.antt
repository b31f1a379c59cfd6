-- A chart of a row that there is stands in 15 places; what is written is read back: the places are spelled out, and the rest is computed.
use mathlib.Core.Path.{◌≡◌, refl, subst}
use mathlib.Core.List.{List}
use mathlib.Core.Bool.{Bool, true, false, cond}
use Prim.Native.Nat.{ℕ}
use lib.IntN.{ℤ, pos}
use lib.ListN.{length}
use lib.Dec.{eqb}
use borrow.Author.Tests.{eqb-true}
use Rattle.whole.proofs.Spelled.{elements, spelled}
use Rattle.chart_rules.specs.Charts.{fresh_chart, next_chart}
use Rattle.chart_rules.specs.Places.{chart_set_at, chart_in, chart_at, fresh_places, next_places}
use Rattle.chart_rules.specs.Laws.{ReadBack}
use Rattle.chart_rules.specs.Rows.{row_exists}
use Rattle.chart_rules.specs.declared.ChartSet.{ChartSet}

pub fifteen : (words : List ℤ) → row_exists (chart_at words).row ≡ true → length words ≡ 15
unfolding chart_at
fifteen words = go (eqb (length words) 15) refl
  where
    go : (b : Bool) → eqb (length words) 15 ≡ b → row_exists (cond b (chart_in words) (fresh_chart 4294967295)).row ≡ true → length words ≡ 15
    go true e h = eqb-true (length words) 15 e
    go false e h = absurd cc

fresh_back : (row : ℕ) → chart_at (fresh_places row) ≡ fresh_chart row
unfolding chart_set_at chart_in chart_at fresh_places
fresh_back row = refl

next_back : (words : List ℤ) (week : ℕ) (s : ChartSet) → length words ≡ 15 → chart_at (next_places words week s) ≡ next_chart (chart_at words) week s
unfolding chart_set_at chart_in chart_at next_places next_chart elements
next_back words week s full =
    subst (λ (w : List ℤ). chart_at (next_places w week s) ≡ next_chart (chart_at w) week s) (spelled (pos 0) words 15 full) refl

pub read_back : ReadBack
read_back = record { fresh = fresh_back; next = next_back }

-- What proofs need of a line that is not refused and of a good text's lines; no rule cites it.
use Rattle.std.specs.Prelude.{ℕ, ◌≡◌, true, false, ◌&&◌, ◌||◌, List, [], ◌∷◌, Option, Some, None}
use Rattle.chart_rules.specs.Refusals.{bad_result, bad_week}
use Rattle.chart_rules.specs.Judging.{is_next, is_start, pair}
use Rattle.chart_rules.specs.declared.ValueLine.{ValueLine}

-- none of 18, 19 and 21 applies to the line
pub record FineLine (week sample : ℕ) (v : ValueLine) : Type 0 where
  pub place : is_next week sample v || is_start week sample v ≡ true
  pub time : is_start week sample v && bad_week week v.week ≡ false
  pub results : bad_result (pair v) ≡ false

-- every line is fine after the one before it
unfoldable pub GoodLines : ℕ → ℕ → List (Option ValueLine) → Type 0
GoodLines week sample [] = Unit {0}
GoodLines week sample (None ∷ ls) = ⊥
GoodLines week sample (Some v ∷ ls) = FineLine week sample v × GoodLines v.week v.sample ls

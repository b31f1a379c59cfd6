-- The sets of some lines: a line with sample 1, and any other.
use mathlib.Core.Path.{◌≡◌}
use mathlib.Core.List.{[], ◌∷◌}
use Prim.Native.Nat.{◌<◌}
use native.Mathlib.Omega.{arith}
use lib.ListN.{length}
use borrow.Author.Tests.{eq-eqb, ne_eqb}
use Rattle.chart_rules.specs.Gathering.{Gathered, none, finished, closed, kept}
use Rattle.chart_rules.specs.declared.ValueLine.{ValueLine}

pub finished_some : (s : Gathered) → 0 < length s.numbers → finished s ≡ s ∷ []
unfolding finished
finished_some s h = rw (ne_eqb (length s.numbers) 0 (omega arith))

module _ (s : Gathered) (v : ValueLine) where
  pub closed_start : v.sample ≡ 1 → closed s v ≡ finished s
  unfolding closed
  closed_start e = rw (eq-eqb _ 1 e)

  pub closed_next : (v.sample ≡ 1 → ⊥) → closed s v ≡ []
  unfolding closed
  closed_next ne = rw (ne_eqb _ 1 ne)

  pub kept_start : v.sample ≡ 1 → kept s v ≡ none
  unfolding kept
  kept_start e = rw (eq-eqb _ 1 e)

  pub kept_next : (v.sample ≡ 1 → ⊥) → kept s v ≡ s
  unfolding kept
  kept_next ne = rw (ne_eqb _ 1 ne)

-- The table's rows by tests of their numbers.
use mathlib.Core.Path.{◌≡◌, refl, ◌∙◌}
use mathlib.Core.List.{List}
use Prim.Native.Nat.{ℕ, zero, suc}
use Rattle.station_rules.specs.Rows.{wheat, corn, row_of}
use Rattle.station_rules.specs.declared.Limits.{Limits}

pub row_wheat : (lines : List Limits) → lines ≡ wheat.lines → record { samples = 6; basis = 1200; lines = lines } ≡ row_of 0
unfolding row_of
row_wheat lines e = λ i. record { samples = 6; basis = 1200; lines = e i }

corn_of : (row : ℕ) → (row ≡ 0 → ⊥) → corn ≡ row_of row
unfolding row_of
corn_of zero h = absurd (h refl)
corn_of (suc zero) h = refl
corn_of (suc (suc row)) h = refl

pub row_corn : (row : ℕ) (lines : List Limits) → lines ≡ corn.lines → (row ≡ 0 → ⊥) → record { samples = 4; basis = 0; lines = lines } ≡ row_of row
row_corn row lines e h = (λ i. record { samples = 4; basis = 0; lines = e i }) ∙ corn_of row h

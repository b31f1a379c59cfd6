-- The table of rows: what proofs may need of every row, tested once over the table.
use mathlib.Core.Path.{◌≡◌, refl}
use mathlib.Core.Bool.{Bool, true, ◌&&◌}
use mathlib.Core.List.{List, [], ◌∷◌}
use Prim.Native.Nat.{ℕ, zero, suc}
use lib.Dec.{leb}
use lib.ListN.{get_or}
use Rattle.std.specs.List.{list_all as all}
use Rattle.std.proofs.lemmas.Bool.{leb-true, and_parts}
use Rattle.chart_rules.specs.Rows.{limits, rows, limits_of}
use Rattle.chart_rules.specs.declared.Limits.{Limits}
use Rattle.chart_limits.specs.Small.{SmallLimits}

-- what passes of every element and of the default passes of any place
all_at : {A : Type 0} (p : A → Bool) (d : A) (l : List A) (i : ℕ) → p d ≡ true → all p l ≡ true
    → p (get_or l i d) ≡ true
all_at p d [] i e a = e
all_at p d (x ∷ l) zero e a = (and_parts (p x) (all p l) a).0
all_at p d (x ∷ l) (suc i) e a = all_at p d l i e (and_parts (p x) (all p l) a).1

small : Limits → Bool
small l = leb l.al 1000 && (leb l.tl 1000 && leb l.run 1000)

-- the test over the table
rows_small : all small rows ≡ true
unfolding small
rows_small = refl

none_small : small (limits 0 0 0 0 0) ≡ true
unfolding small
none_small = refl

small_limits : (l : Limits) → small l ≡ true → SmallLimits l
unfolding small
small_limits l e =
    let p = and_parts (leb l.al 1000) _ e in
    let q = and_parts (leb l.tl 1000) _ p.1 in
    record { al = leb-true l.al 1000 p.0; tl = leb-true l.tl 1000 q.0; run = leb-true l.run 1000 q.1 }

-- every row's limits are small
pub row_small : (row : ℕ) → SmallLimits (limits_of row)
unfolding limits_of
row_small row = small_limits _ (all_at small _ rows row none_small rows_small)

-- a row behind the table's end
pub no_row : (row : ℕ) → (row ≡ 0 → ⊥) → (row ≡ 1 → ⊥) → (row ≡ 2 → ⊥) → (row ≡ 3 → ⊥)
    → limits 0 0 0 0 0 ≡ limits_of row
unfolding limits_of
no_row zero a b c d = absurd (a refl)
no_row (suc zero) a b c d = absurd (b refl)
no_row (suc (suc zero)) a b c d = absurd (c refl)
no_row (suc (suc (suc zero))) a b c d = absurd (d refl)
no_row (suc (suc (suc (suc row)))) a b c d = refl

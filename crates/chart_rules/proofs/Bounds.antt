-- What is known where none of numbers 19 to 21 applies.
use mathlib.Core.Path.{◌≡◌}
use mathlib.Core.Bool.{false, ◌||◌}
use mathlib.Core.List.{List, [], ◌∷◌}
use Prim.Native.Nat.{ℕ, ◌%◌, ◌≤◌, ◌<◌}
use native.Mathlib.Omega.{arith}
use lib.IntN.{ℤ, pos}
use lib.Signed.{lt_z}
use lib.Dec.{eqb, leb, ltb}
use Rattle.std.specs.List.{All}
use Rattle.std.proofs.lemmas.Bool.{leb-false, ltb-false, eqb-false, or_parts}
use Rattle.std.proofs.lemmas.Int.{ints}
use Rattle.std.proofs.lemmas.List.Elements.{All-nil, All-cons}
use Rattle.whole.specs.Bounds.{Within}
use Rattle.chart_rules.specs.Refusals.{bad_week, bad_size, outside, bad_result}

-- number 19 does not apply
pub week_facts : (last week : ℕ) → bad_week last week ≡ false → (last < week) × (week ≤ 9999)
unfolding bad_week
week_facts last week e = let p = or_parts (leb week last) (ltb 9999 week) e in (leb-false week last p.0, ltb-false 9999 week p.1)

-- number 20 does not apply
pub size_facts : (n : ℕ) → bad_size n ≡ false → (2 ≤ n) × (n ≤ 10) × (n % 2 ≡ 0)
unfolding bad_size
size_facts n e =
    let p = or_parts (eqb n 0 || ltb 10 n) (eqb (n % 2) 1) e in
    let q = or_parts (eqb n 0) (ltb 10 n) p.0 in
    let zero : n ≡ 0 → ⊥ = eqb-false n 0 q.0 in
    let odd : n % 2 ≡ 1 → ⊥ = eqb-false (n % 2) 1 p.1 in
    (omega arith, ltb-false 10 n q.1, omega arith)

-- number 21 does not apply
pub inside : (z : ℤ) → outside z ≡ false → Within 0 10000 z
unfolding outside
inside z e =
    let p = or_parts (lt_z z (pos 0)) (lt_z (pos 10000) z) e in
    record { over = omega (arith, ints, p.0); under = omega (arith, ints, p.1) }

pub results_inside : (l : List ℤ) → bad_result l ≡ false → All (Within 0 10000) l
unfolding bad_result
results_inside [] e = All-nil (Within 0 10000)
results_inside (z ∷ l) e =
    let p = or_parts (outside z) (bad_result l) e in
    All-cons (Within 0 10000) z l (inside z p.0) (results_inside l p.1)

-- Sets within their ranges.
use mathlib.Core.List.{List}
use Prim.Native.Nat.{ℕ, ◌≤◌}
use native.Mathlib.Nat.{mul-le-mul_right}
use native.Mathlib.Omega.{arith}
use lib.Dec.{T, leb, leb→le}
use lib.IntN.{ℤ}
use Rattle.std.proofs.lemmas.Int.{ints}
use Rattle.station_rules.specs.declared.PastSet.{PastSet}
use Rattle.line_past.specs.Ranges.{SetsOf, Held}

-- fewer sets are in the range of more
pub of_more : (j k : ℕ) {sum : ℤ} {count : ℕ} → T (leb j k) → SetsOf j sum count → SetsOf k sum count
of_more j k t s =
    let h = leb→le j k t in
    let a = mul-le-mul_right 132000 h in
    let b = mul-le-mul_right 12 h in
    record { within = record { over = omega (arith, ints); under = omega (arith, ints) }; few = omega arith }

pub held_less : {j k : ℕ} {past : List PastSet} → j ≤ k → Held k past → Held j past
held_less {j} {k} h e = record { each = λ i l. e.each i (omega arith) }

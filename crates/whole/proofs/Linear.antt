-- The ring laws that the library lacks: the product over a sum and a difference, from either side, over a negation,
-- and its associativity.
use mathlib.Core.Path.{◌≡◌, ap, ◌∙◌}
use Prim.Native.Nat.{ℕ, ◌+◌, ◌*◌}
use native.Mathlib.Omega.{arith}
use lib.IntN.{ℤ, neg_ℤ, ◌+ℤ◌, ◌-ℤ◌, ◌*ℤ◌, *ℤ_comm}
use borrow.Author.Differences.{up, down, product_is, same_in}
use Rattle.std.proofs.lemmas.Int.{ints}

-- the parts of a sum, times a number
times_sum : (k : ℕ) (a b : ℤ) → k * (up (a +ℤ b) + down a + down b) ≡ k * (down (a +ℤ b) + up a + up b)
times_sum k a b = ap (λ (n : ℕ). k * n) (omega (arith, ints))

-- over a sum
pub *ℤ_dist : (k a b : ℤ) → k *ℤ (a +ℤ b) ≡ k *ℤ a +ℤ k *ℤ b
*ℤ_dist k a b = omega (arith, ints, times_sum (up k) a b, times_sum (down k) a b)

-- over a sum, from the right
pub *ℤ_dist_r : (a b k : ℤ) → (a +ℤ b) *ℤ k ≡ a *ℤ k +ℤ b *ℤ k
*ℤ_dist_r a b k = simp (*ℤ_comm (a +ℤ b) k, *ℤ_comm a k, *ℤ_comm b k) (*ℤ_dist k a b)

times_up : (a b : ℤ) → up (a *ℤ b) ≡ up a * up b + down a * down b
times_up a b = (product_is a b).0

times_down : (a b : ℤ) → down (a *ℤ b) ≡ up a * down b + down a * up b
times_down a b = (product_is a b).1

-- a product of three
pub *ℤ_assoc : (a b c : ℤ) → (a *ℤ b) *ℤ c ≡ a *ℤ (b *ℤ c)
*ℤ_assoc a b c = same_in ((a *ℤ b) *ℤ c) (a *ℤ (b *ℤ c)) (simp (times_up, times_down) (omega arith))

-- over a negation
pub *ℤ_negℤ : (k a : ℤ) → k *ℤ neg_ℤ a ≡ neg_ℤ (k *ℤ a)
*ℤ_negℤ k a = grind (arith, ints)

-- over a difference
pub *ℤ_dist_sub : (k a b : ℤ) → k *ℤ (a -ℤ b) ≡ k *ℤ a -ℤ k *ℤ b
*ℤ_dist_sub k a b = *ℤ_dist k a (neg_ℤ b) ∙ ap (λ (z : ℤ). k *ℤ a +ℤ z) (*ℤ_negℤ k b)

-- A list of a known length, spelled out: what is written into it and read from it is then computed.
use mathlib.Core.Path.{◌≡◌, refl, sym, ap, ◌∙◌}
use mathlib.Core.List.{List, [], ◌∷◌}
use Prim.Native.Nat.{ℕ, zero, suc, ◌+◌, ◌≤◌}
use native.Mathlib.Omega.{arith}
use lib.ListN.{length, take, drop, get_or}
use lib.Seq.{drop-cons, take_all}

module _ {A : Type 0} (d : A) where
  -- n elements from the i-th on
  unfoldable pub elements : List A → ℕ → ℕ → List A
  elements l zero i = []
  elements l (suc n) i = get_or l i d ∷ elements l n (suc i)

  from_place : (l : List A) (n i : ℕ) → i + n ≤ length l → take n (drop i l) ≡ elements l n i
  unfolding elements
  from_place l zero i h = refl
  from_place l (suc n) i h =
      ap (take (suc n)) (drop-cons l i d (omega arith)) ∙ ap (λ (r : List A). get_or l i d ∷ r) (from_place l n (suc i) (omega arith))

  pub spelled : (l : List A) (n : ℕ) → length l ≡ n → elements l n 0 ≡ l
  spelled l n h = sym (from_place l n 0 (omega arith)) ∙ take_all n l (omega arith)

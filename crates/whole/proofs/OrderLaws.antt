-- Two lists of the same elements in another order: a fold by a step whose order doesn't matter is the same of both; so a test over them, their length, their largest and their smallest.
use mathlib.Core.Path.{◌≡◌, refl, sym, ◌∙◌, ap, ap₂}
use mathlib.Core.Bool.{Bool, ◌||◌}
use mathlib.Core.List.{List, [], ◌∷◌, map, Permᴰ}
use Rattle.std.specs.Prelude.{Option, None, Some, unwrap_or}
use Prim.Native.Nat.{ℕ, suc}
use native.Mathlib.Omega.{arith}
use lib.ListN.{length}
use lib.IntN.{ℤ, pos}
use Rattle.whole.specs.Lists.{any, larger_of, smaller_of, largest, smallest}
use Rattle.whole.proofs.ListLaws.{larger_comm, larger_swaps, smaller_comm, smaller_swaps}

module _ {A X B : Type 0} (weight : A → X) (add : X → B → B) (swaps : (x y : X) (b : B) → add x (add y b) ≡ add y (add x b))
    (F : List A → B) (cons : (a : A) (l : List A) → F (a ∷ l) ≡ add (weight a) (F l)) where
  pub fold_order : {l k : List A} → Permᴰ l k → F l ≡ F k
  fold_order Permᴰ.nil = refl
  fold_order (Permᴰ.cons {a} {b} {l₁ = l} {l₂ = k} e d) =
      cons a l ∙ ap₂ (λ (x : A) (r : B). add (weight x) r) e (fold_order d) ∙ sym (cons b k)
  fold_order (Permᴰ.swap {a} {b} {a'} {b'} {l} e f) =
      cons a (b ∷ l) ∙ ap (add (weight a)) (cons b l) ∙ swaps (weight a) (weight b) (F l)
      ∙ ap₂ (λ (x y : A). add (weight x) (add (weight y) (F l))) f e
      ∙ sym (cons a' (b' ∷ l) ∙ ap (add (weight a')) (cons b' l))
  fold_order (Permᴰ.trans d e) = fold_order d ∙ fold_order e

or_swaps : (x y b : Bool) → (x || (y || b)) ≡ (y || (x || b))
or_swaps x y b = grind arith

module _ {A : Type 0} where
  pub any_order : (p : A → Bool) {l k : List A} → Permᴰ l k → any p l ≡ any p k
  any_order p d = fold_order p ◌||◌ or_swaps (any p) (λ a l. refl) d

  pub length_order : {l k : List A} → Permᴰ l k → length l ≡ length k
  length_order d = fold_order (λ (a : A). a) (λ (a : A) (n : ℕ). suc n) (λ x y b. refl) length (λ a l. refl) d

-- ---- the largest and the smallest

-- the largest, or the smallest, by a choice m of two
module _ (m : ℤ → ℤ → ℤ) (comm : (x y : ℤ) → m x y ≡ m y x) (swaps : (x y z : ℤ) → m x (m y z) ≡ m y (m x z))
    (E : List ℤ → ℤ) (nil : E [] ≡ pos 0) (one : (x : ℤ) → E (x ∷ []) ≡ x) (more : (x y : ℤ) (ys : List ℤ) → E (x ∷ y ∷ ys) ≡ m x (E (y ∷ ys))) where
  chosen : ℤ → Option ℤ → Option ℤ
  chosen x None = Some x
  chosen x (Some y) = Some (m x y)

  chosen_swaps : (x y : ℤ) (o : Option ℤ) → chosen x (chosen y o) ≡ chosen y (chosen x o)
  unfolding chosen
  chosen_swaps x y None = ap Some (comm x y)
  chosen_swaps x y (Some z) = ap Some (swaps x y z)

  best : List ℤ → Option ℤ
  best [] = None
  best (x ∷ xs) = chosen x (best xs)

  chosen_more : (x y : ℤ) (o : Option ℤ) → m x (unwrap_or (chosen y o) (pos 0)) ≡ unwrap_or (chosen x (chosen y o)) (pos 0)
  unfolding chosen
  chosen_more x y None = refl
  chosen_more x y (Some z) = refl

  best_is : (l : List ℤ) → E l ≡ unwrap_or (best l) (pos 0)
  unfolding best chosen
  best_is [] = nil
  best_is (x ∷ []) = one x
  best_is (x ∷ y ∷ ys) = more x y ys ∙ ap (m x) (best_is (y ∷ ys)) ∙ chosen_more x y (best ys)

  extreme_order : {A : Type 0} (f : A → ℤ) {l k : List A} → Permᴰ l k → E (map f l) ≡ E (map f k)
  unfolding best
  extreme_order {A} f {l} {k} d =
      best_is (map f l)
      ∙ ap (λ (o : Option ℤ). unwrap_or o (pos 0)) (fold_order f chosen chosen_swaps (λ (l : List A). best (map f l)) (λ a l. refl) d)
      ∙ sym (best_is (map f k))

pub largest_order : {A : Type 0} (f : A → ℤ) {l k : List A} → Permᴰ l k → largest (map f l) ≡ largest (map f k)
largest_order f d = extreme_order larger_of larger_comm larger_swaps largest refl (λ x. refl) (λ x y ys. refl) f d

pub smallest_order : {A : Type 0} (f : A → ℤ) {l k : List A} → Permᴰ l k → smallest (map f l) ≡ smallest (map f k)
smallest_order f d = extreme_order smaller_of smaller_comm smaller_swaps smallest refl (λ x. refl) (λ x y ys. refl) f d

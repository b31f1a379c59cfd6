-- The larger and the smaller of two as the library has them, and loops over a list that carry a sum, or a largest and a smallest that start from bounds which no element lies beyond.
use mathlib.Core.Path.{◌≡◌, refl, sym, ap, ◌∙◌}
use mathlib.Core.Bool.{Bool, true, cond}
use mathlib.Core.List.{List, [], ◌∷◌, map}
use native.Mathlib.Omega.{arith}
use lib.IntN.{ℤ, pos, negsuc, ◌+ℤ◌, +ℤ_assoc, +ℤ_idl, +ℤ_idr}
use lib.Signed.{le_z}
use borrow.Author.Tests.{le-leb}
use Rattle.std.specs.Int.{int_max, int_min}
use Rattle.std.proofs.lemmas.Int.{ints, to_z-of_z}
use Rattle.whole.specs.Bounds.{Within}
use Rattle.whole.specs.Lists.{total, larger_of, smaller_of, largest, smallest}
use Rattle.std.specs.List.{fold}
use Rattle.whole.proofs.ListLaws.{larger_by, largest_fold, larger_same, smaller_by, smallest_fold, smaller_same, smaller_comm}

pub larger_is : (x y : ℤ) → int_max x y ≡ larger_of x y
larger_is (pos a) (pos b) = grind arith
larger_is (pos a) (negsuc b) = refl
larger_is (negsuc a) (pos b) = refl
larger_is (negsuc a) (negsuc b) = grind arith

pub smaller_is : (x y : ℤ) → int_min x y ≡ smaller_of x y
smaller_is (pos a) (pos b) = grind arith
smaller_is (pos a) (negsuc b) = refl
smaller_is (negsuc a) (pos b) = refl
smaller_is (negsuc a) (negsuc b) = grind arith

-- a span with one deviation more, where the deviation is handed on as its bits
pub ruleset spans = (to_z-of_z, larger_is, smaller_is)

-- ---- from a bound

pub above_bound : (z : ℤ) → Within 25000 25000 z → larger_of (negsuc 24999) z ≡ z
above_bound (pos n) w = refl
above_bound (negsuc n) w = ap (λ (b : Bool). cond b (negsuc n) (negsuc 24999)) (le-leb n 24999 (omega (arith, ints, w.over)))

pub below_bound : (z : ℤ) → Within 25000 25000 z → smaller_of (pos 25000) z ≡ z
below_bound z w = smaller_comm (pos 25000) z ∙ ap (λ (b : Bool). cond b z (pos 25000)) (at_most z w)
  where
    at_most : (z : ℤ) → Within 25000 25000 z → le_z z (pos 25000) ≡ true
    at_most (pos n) w = le-leb n 25000 (omega (arith, ints, w.under))
    at_most (negsuc n) w = refl

module _ {A : Type 0} (f : A → ℤ) (a : A) (l : List A) (w : Within 25000 25000 (f a)) where
  pub largest_from : fold (larger_by f) (negsuc 24999) (a ∷ l) ≡ largest (map f (a ∷ l))
  largest_from = ap (λ (z : ℤ). fold (larger_by f) z l) (above_bound (f a) w ∙ sym (larger_same (f a))) ∙ largest_fold f a (a ∷ l) (omega arith)

  pub smallest_from : fold (smaller_by f) (pos 25000) (a ∷ l) ≡ smallest (map f (a ∷ l))
  smallest_from = ap (λ (z : ℤ). fold (smaller_by f) z l) (below_bound (f a) w ∙ sym (smaller_same (f a))) ∙ smallest_fold f a (a ∷ l) (omega arith)

-- ---- a sum

module _ {A : Type 0} (f : A → ℤ) where
  abbrev pub add_by : ℤ → A → ℤ
  add_by z a = z +ℤ f a

  sum_from : (z : ℤ) (l : List A) → fold add_by z l ≡ z +ℤ total (map f l)
  sum_from z [] = sym (+ℤ_idr z)
  sum_from z (a ∷ l) = sum_from (z +ℤ f a) l ∙ +ℤ_assoc z (f a) (total (map f l))

  pub sum_fold : (l : List A) → fold add_by (pos 0) l ≡ total (map f l)
  sum_fold l = sum_from (pos 0) l ∙ +ℤ_idl (total (map f l))

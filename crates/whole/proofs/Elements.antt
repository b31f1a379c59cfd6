-- A test that every element of a list passes, at a place and of its first elements, by the library's laws of All.
use mathlib.Core.Path.{◌≡◌, ap, ◌∙◌}
use mathlib.Core.Bool.{Bool, true}
use mathlib.Core.List.{List}
use mathlib.Core.Logic.{⊎_elim}
use Prim.Native.Nat.{ℕ, ◌<◌, min}
use native.Mathlib.Omega.{arith}
use lib.Dec.{T}
use lib.ListN.{length, take, get_or, length-take}
use lib.Ieee.Bits.{is_true}
use Rattle.std.specs.Bool.{passes}
use Rattle.std.proofs.lemmas.Bool.{cases_lt}
use Rattle.std.proofs.lemmas.List.{take-take, take_all, get_or_past}
use Rattle.std.proofs.lemmas.List.Elements.{All-take, All-get_or, All-from_get_or}
use Rattle.std.proofs.lemmas.List.Sums.{AllPass-from_list_all, list_all-from_AllPass}
use Rattle.whole.specs.Lists.{all}

module _ {A : Type 0} where
  module _ (p : A → Bool) where
    abbrev Passes : A → Type 0
    Passes x = p x ≡ true

    pub all_take : (n : ℕ) (l : List A) → T (all p l) → T (all p (take n l))
    all_take n l t = passes _ (list_all-from_AllPass p (take n l) (All-take Passes n l (AllPass-from_list_all p l (is_true _ t))))

    -- a test of every place's element
    pub all_at : (d : A) (l : List A) → ((i : ℕ) → T (p (get_or l i d))) → T (all p l)
    all_at d l f = passes _ (list_all-from_AllPass p l (All-from_get_or Passes l d (λ i h. is_true _ (f i))))

    -- and back, of a place that the list has
    pub all_get : (d : A) (l : List A) → T (all p l) → (i : ℕ) → i < length l → T (p (get_or l i d))
    all_get d l f i h = passes _ (All-get_or Passes l i d h (AllPass-from_list_all p l (is_true _ f)))

    -- and of any place, where what stands past the end passes too
    pub at_all : (d : A) (l : List A) → T (p d) → T (all p l) → (i : ℕ) → T (p (get_or l i d))
    at_all d l t f i = ⊎_elim (all_get d l f i) (λ h. rw (get_or_past l i d h) t) (cases_lt i (length l))

  pub take_min : (m n : ℕ) (l : List A) → take m (take n l) ≡ take (min m n) l
  take_min m n l =
      ⊎_elim
      (λ h. take-take m n l (omega arith) ∙ ap (λ (k : ℕ). take k l) (omega arith))
      (λ h. take_all m (take n l) (omega (arith, length-take n l)) ∙ ap (λ (k : ℕ). take k l) (omega arith))
      (cases_lt m n)

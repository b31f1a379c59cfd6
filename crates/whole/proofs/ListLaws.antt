-- Laws of tests over a list, and of the sum, the largest and the smallest of a list: their bounds, and what a loop that carries them comes to.
use mathlib.Core.Path.{◌≡◌, refl, sym, ap, ◌∙◌}
use mathlib.Core.Bool.{Bool, true, false, ◌&&◌, ◌||◌, cond, true≢false, and-true, and_assoc, or-false, or_assoc}
use mathlib.Core.List.{List, [], ◌∷◌, map}
use Prim.Native.Nat.{ℕ, ◌+◌, ◌*◌, ◌<◌, max, min}
use native.Mathlib.Omega.{arith}
use lib.IntN.{ℤ, ◌-ℤ◌}
use lib.ListN.{length, get_or}
use lib.Signed.{le_z, ◌≤ℤ◌}
use borrow.Author.Differences.{up, down}
use Rattle.std.specs.List.{All}
use Rattle.std.proofs.lemmas.Int.{ints}
use Rattle.std.proofs.lemmas.List.Elements.{All-nil, All-cons, All-head, All-tail}
use Rattle.whole.specs.Bounds.{Within}
use Rattle.whole.specs.Lists.{differ, any, all, total, larger_of, smaller_of, largest, smallest}
use Rattle.std.specs.List.{fold}

-- ---- a test, taken apart

pub by_test : (b : Bool) (P : Bool → Type 0) → (b ≡ true → P true) → (b ≡ false → P false) → P b
by_test true P f g = f refl
by_test false P f g = g refl

-- a definition by `cond`, where the test came out: e is what the callee ensures of its bool, t the branch's fact
pub cond_yes : {A : Type 0} {b r : Bool} (x y : A) → r ≡ b → r ≡ true → x ≡ cond b x y
cond_yes x y e t = ap (λ b. cond b x y) (sym t ∙ e)

pub cond_no : {A : Type 0} {b r : Bool} (x y : A) → r ≡ b → r ≡ false → y ≡ cond b x y
cond_no x y e t = ap (λ b. cond b x y) (sym t ∙ e)

pub unlike_no : (a b : Bool) → a ≡ false → b ≡ differ a b
unlike_no true b e = absurd (true≢false e)
unlike_no false true e = refl
unlike_no false false e = refl

-- ---- some element passes, and every element does, as loops

module _ {A : Type 0} (p : A → Bool) where
  abbrev pub or_else : Bool → A → Bool
  or_else b x = b || p x

  abbrev pub and_also : Bool → A → Bool
  and_also b x = b && p x

  any_from : (b : Bool) (l : List A) → fold or_else b l ≡ b || any p l
  any_from b [] = sym (or-false b)
  any_from b (x ∷ l) = any_from (b || p x) l ∙ or_assoc b (p x) (any p l)

  all_from : (b : Bool) (l : List A) → fold and_also b l ≡ b && all p l
  all_from b [] = sym (and-true b)
  all_from b (x ∷ l) = all_from (b && p x) l ∙ and_assoc b (p x) (all p l)

  pub any_fold : (l : List A) → fold or_else false l ≡ any p l
  any_fold l = any_from false l

  pub all_fold : (l : List A) → fold and_also true l ≡ all p l
  all_fold l = all_from true l

pub any_map : {A B : Type 0} (p : B → Bool) (f : A → B) (l : List A) → any (λ x. p (f x)) l ≡ any p (map f l)
any_map p f [] = refl
any_map p f (x ∷ l) = ap (λ (b : Bool). p (f x) || b) (any_map p f l)

-- ---- the larger and the smaller of two, as omega reads them

pub larger_is : (a b : ℤ) → up (larger_of a b) + down a + down b ≡ down (larger_of a b) + max (up a + down b) (up b + down a)
larger_is a b =
    by_test (le_z a b) (λ t. up (cond t b a) + down a + down b ≡ down (cond t b a) + max (up a + down b) (up b + down a)) (λ e. omega (arith, ints)) (λ e. omega (arith, ints))

pub smaller_is : (a b : ℤ) → up (smaller_of a b) + down a + down b ≡ down (smaller_of a b) + min (up a + down b) (up b + down a)
smaller_is a b =
    by_test (le_z a b) (λ t. up (cond t a b) + down a + down b ≡ down (cond t a b) + min (up a + down b) (up b + down a)) (λ e. omega (arith, ints)) (λ e. omega (arith, ints))

pub larger_comm : (x y : ℤ) → larger_of x y ≡ larger_of y x
larger_comm x y = omega (arith, ints, larger_is)

pub smaller_comm : (x y : ℤ) → smaller_of x y ≡ smaller_of y x
smaller_comm x y = omega (arith, ints, smaller_is)

pub larger_swaps : (x y z : ℤ) → larger_of x (larger_of y z) ≡ larger_of y (larger_of x z)
larger_swaps x y z = omega (arith, ints, larger_is)

pub smaller_swaps : (x y z : ℤ) → smaller_of x (smaller_of y z) ≡ smaller_of y (smaller_of x z)
smaller_swaps x y z = omega (arith, ints, smaller_is)

pub larger_same : (x : ℤ) → larger_of x x ≡ x
larger_same x = omega (arith, ints, larger_is)

pub smaller_same : (x : ℤ) → smaller_of x x ≡ x
smaller_same x = omega (arith, ints, smaller_is)

pub larger_keeps : (P : ℤ → Type 0) (a b : ℤ) → P a → P b → P (larger_of a b)
larger_keeps P a b p q = by_test (le_z a b) (λ t. P (cond t b a)) (λ e. q) (λ e. p)

pub smaller_keeps : (P : ℤ → Type 0) (a b : ℤ) → P a → P b → P (smaller_of a b)
smaller_keeps P a b p q = by_test (le_z a b) (λ t. P (cond t a b)) (λ e. p) (λ e. q)

-- ---- bounds of a list's sum, largest and smallest: of an empty list all are 0, which lies in every range

module _ (low high : ℕ) where
  pub total_within : (l : List ℤ) → All (Within low high) l → Within (length l * low) (length l * high) (total l)
  total_within [] h = record { over = omega (arith, ints); under = omega (arith, ints) }
  total_within (z ∷ l) h =
      let w = All-head (Within low high) z l h in
      let t = total_within l (All-tail (Within low high) z l h) in
      record { over = omega (arith, ints, w.over, t.over); under = omega (arith, ints, w.under, t.under) }

  pub largest_within : (l : List ℤ) → All (Within low high) l → Within low high (largest l)
  largest_within [] h = record { over = omega (arith, ints); under = omega (arith, ints) }
  largest_within (x ∷ []) h = All-head (Within low high) x [] h
  largest_within (x ∷ y ∷ l) h =
      larger_keeps (Within low high) x (largest (y ∷ l)) (All-head (Within low high) x (y ∷ l) h) (largest_within (y ∷ l) (All-tail (Within low high) x (y ∷ l) h))

  pub smallest_within : (l : List ℤ) → All (Within low high) l → Within low high (smallest l)
  smallest_within [] h = record { over = omega (arith, ints); under = omega (arith, ints) }
  smallest_within (x ∷ []) h = All-head (Within low high) x [] h
  smallest_within (x ∷ y ∷ l) h =
      smaller_keeps (Within low high) x (smallest (y ∷ l)) (All-head (Within low high) x (y ∷ l) h) (smallest_within (y ∷ l) (All-tail (Within low high) x (y ∷ l) h))

  smallest_largest : (l : List ℤ) → smallest l ≤ℤ largest l
  smallest_largest [] = omega (arith, ints)
  smallest_largest (x ∷ []) = omega (arith, ints)
  smallest_largest (x ∷ y ∷ l) = let s = smallest_largest (y ∷ l) in omega (arith, ints, larger_is, smaller_is)

  -- the largest minus the smallest is no less than 0, and no more than the whole range
  pub spread_within : (l : List ℤ) → All (Within low high) l → Within 0 (low + high) (largest l -ℤ smallest l)
  spread_within l h =
      let p = largest_within l h in
      let q = smallest_within l h in
      record { over = omega (arith, ints, smallest_largest l); under = omega (arith, ints, p.under, q.over) }

-- ---- the largest and the smallest, as loops

-- once, for an operation that gives one of two whichever way round
module _ (op : ℤ → ℤ → ℤ) (comm : (x y : ℤ) → op x y ≡ op y x) (swaps : (x y z : ℤ) → op x (op y z) ≡ op y (op x z)) (same : (x : ℤ) → op x x ≡ x) where
  assoc : (x y z : ℤ) → op (op x y) z ≡ op x (op y z)
  assoc x y z = comm (op x y) z ∙ swaps z x y ∙ ap (op x) (comm z y)

  module _ (ext : List ℤ → ℤ) (one : (x : ℤ) → ext (x ∷ []) ≡ x) (more : (x y : ℤ) (l : List ℤ) → ext (x ∷ y ∷ l) ≡ op x (ext (y ∷ l))) where
    joined : (x y : ℤ) (l : List ℤ) → ext (op x y ∷ l) ≡ op x (ext (y ∷ l))
    joined x y [] = one (op x y) ∙ ap (op x) (sym (one y))
    joined x y (z ∷ l) = more (op x y) z l ∙ assoc x y (ext (z ∷ l)) ∙ ap (op x) (sym (more y z l))

    again : (x : ℤ) (l : List ℤ) → op x (ext (x ∷ l)) ≡ ext (x ∷ l)
    again x [] = ap (op x) (one x) ∙ same x ∙ sym (one x)
    again x (y ∷ l) = ap (op x) (more x y l) ∙ sym (assoc x x (ext (y ∷ l))) ∙ ap (λ (z : ℤ). op z (ext (y ∷ l))) (same x) ∙ sym (more x y l)

    module _ {A : Type 0} (f : A → ℤ) where
      ext_from : (x : ℤ) (l : List A) → fold (λ (b : ℤ) (a : A). op b (f a)) x l ≡ ext (x ∷ map f l)
      ext_from x [] = sym (one x)
      ext_from x (a ∷ l) = ext_from (op x (f a)) l ∙ joined x (f a) (map f l) ∙ sym (more x (f a) (map f l))

      -- from the first of the list, over the whole list
      ext_fold : (d : A) (l : List A) → 0 < length l → fold (λ (b : ℤ) (a : A). op b (f a)) (f (get_or l 0 d)) l ≡ ext (map f l)
      ext_fold d [] h = absurd (omega arith)
      ext_fold d (a ∷ l) h = ext_from (f a) (a ∷ l) ∙ more (f a) (f a) (map f l) ∙ again (f a) (map f l)

module _ {A : Type 0} (f : A → ℤ) where
  abbrev pub larger_by : ℤ → A → ℤ
  larger_by b a = larger_of b (f a)

  abbrev pub smaller_by : ℤ → A → ℤ
  smaller_by b a = smaller_of b (f a)

  pub largest_fold : (d : A) (l : List A) → 0 < length l → fold larger_by (f (get_or l 0 d)) l ≡ largest (map f l)
  largest_fold d l h = ext_fold larger_of larger_comm larger_swaps larger_same largest (λ x. refl) (λ x y l. refl) f d l h

  pub smallest_fold : (d : A) (l : List A) → 0 < length l → fold smaller_by (f (get_or l 0 d)) l ≡ smallest (map f l)
  smallest_fold d l h = ext_fold smaller_of smaller_comm smaller_swaps smaller_same smallest (λ x. refl) (λ x y l. refl) f d l h

  -- from any number on
  pub largest_from : (x : ℤ) (l : List A) → fold larger_by x l ≡ largest (x ∷ map f l)
  largest_from = ext_from larger_of larger_comm larger_swaps larger_same largest (λ x. refl) (λ x y l. refl) f

  pub smallest_from : (x : ℤ) (l : List A) → fold smaller_by x l ≡ smallest (x ∷ map f l)
  smallest_from = ext_from smaller_of smaller_comm smaller_swaps smaller_same smallest (λ x. refl) (λ x y l. refl) f

-- an element that is the largest, or the smallest, once more

pub larger_again : (x : ℤ) (l : List ℤ) → larger_of x (largest (x ∷ l)) ≡ largest (x ∷ l)
larger_again = again larger_of larger_comm larger_swaps larger_same largest (λ x. refl) (λ x y l. refl)

pub smaller_again : (x : ℤ) (l : List ℤ) → smaller_of x (smallest (x ∷ l)) ≡ smallest (x ∷ l)
smaller_again = again smaller_of smaller_comm smaller_swaps smaller_same smallest (λ x. refl) (λ x y l. refl)

-- every element lies between them

pub smallest_least : (l : List ℤ) → All (λ z. smallest l ≤ℤ z) l
smallest_least [] = All-nil (λ z. smallest [] ≤ℤ z)
smallest_least (x ∷ []) = All-cons (λ z. x ≤ℤ z) x [] (omega (arith, ints)) (All-nil (λ z. x ≤ℤ z))
smallest_least (x ∷ y ∷ l) =
    let s = smallest (y ∷ l) in
    All-cons (λ z. smaller_of x s ≤ℤ z) x (y ∷ l) (omega (arith, ints, smaller_is x s))
    (λ k d h. let q : s ≤ℤ get_or (y ∷ l) k d = smallest_least (y ∷ l) k d h in omega (arith, ints, q, smaller_is x s))

pub largest_most : (l : List ℤ) → All (λ z. z ≤ℤ largest l) l
largest_most [] = All-nil (λ z. z ≤ℤ largest [])
largest_most (x ∷ []) = All-cons (λ z. z ≤ℤ x) x [] (omega (arith, ints)) (All-nil (λ z. z ≤ℤ x))
largest_most (x ∷ y ∷ l) =
    let s = largest (y ∷ l) in
    All-cons (λ z. z ≤ℤ larger_of x s) x (y ∷ l) (omega (arith, ints, larger_is x s))
    (λ k d h. let q : get_or (y ∷ l) k d ≤ℤ s = largest_most (y ∷ l) k d h in omega (arith, ints, q, larger_is x s))

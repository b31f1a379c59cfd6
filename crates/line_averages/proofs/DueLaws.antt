-- The averages due, in the order in which they are tested, by the numbers of valid newest and non-zero sets.
use mathlib.Core.Path.{◌≡◌, refl, ap, ◌∙◌}
use mathlib.Core.Bool.{Bool, true, false, cond}
use mathlib.Core.List.{List, [], ◌∷◌, ◌++◌}
use Rattle.std.specs.Prelude.{Option, None, Some}
use Prim.Native.Nat.{ℕ, ◌≤◌, ◌<◌}
use native.Mathlib.Omega.{arith}
use lib.ListN.{length, get_or}
use Rattle.station_rules.specs.Lines.{test_of, exceeded, plus, same_side, newest_tests, five_test, first_exceeded}
use Rattle.station_rules.specs.Held.{no_set}
use Rattle.station_rules.specs.declared.Limits.{Limits}
use Rattle.station_rules.specs.declared.Set.{Set}
use Rattle.station_rules.specs.declared.Test.{Test}
use Rattle.station_rules.specs.declared.PastSet.{PastSet}

-- ---- one test, and those after it

found : (t u : Test) (ts : List Test) → Some t ≡ first_exceeded (u ∷ []) → Some t ≡ first_exceeded (u ∷ ts)
found t u ts e = go (exceeded u) e
  where
    go : (b : Bool) → Some t ≡ cond b (Some u) None → Some t ≡ cond b (Some u) (first_exceeded ts)
    go true e = e
    go false e = cc

met : (u : Test) (ts : List Test) → None ≡ first_exceeded (u ∷ []) → first_exceeded ts ≡ first_exceeded (u ∷ ts)
met u ts e = go (exceeded u) e
  where
    go : (b : Bool) → None ≡ cond b (Some u) None → first_exceeded ts ≡ cond b (Some u) (first_exceeded ts)
    go true e = cc
    go false e = refl

-- ---- some tests, and those after them

pub found_before : (t : Test) (before after : List Test) → Some t ≡ first_exceeded before → Some t ≡ first_exceeded (before ++ after)
found_before t [] after e = cc
found_before t (u ∷ us) after e = go (exceeded u) e (found_before t us after)
  where
    go : (b : Bool) → Some t ≡ cond b (Some u) (first_exceeded us) → (Some t ≡ first_exceeded us → Some t ≡ first_exceeded (us ++ after))
        → Some t ≡ cond b (Some u) (first_exceeded (us ++ after))
    go true e ih = e
    go false e ih = ih e

pub met_before : (before after : List Test) → None ≡ first_exceeded before → first_exceeded after ≡ first_exceeded (before ++ after)
met_before [] after e = refl
met_before (u ∷ us) after e = go (exceeded u) e (met_before us after)
  where
    go : (b : Bool) → None ≡ cond b (Some u) (first_exceeded us) → (None ≡ first_exceeded us → first_exceeded after ≡ first_exceeded (us ++ after))
        → first_exceeded after ≡ cond b (Some u) (first_exceeded (us ++ after))
    go true e ih = cc
    go false e ih = ih e

-- ---- by the newest sets: the tests after the first

abbrev after_two : Limits → Set → List PastSet → List Test
after_two limits set [] = []
after_two limits set (p ∷ []) = []
after_two limits set (p ∷ q ∷ older) = test_of limits.three (plus (plus set p) q) ∷ []

abbrev after_one : Limits → Set → List PastSet → List Test
after_one limits set [] = []
after_one limits set (p ∷ older) = test_of limits.two (plus set p) ∷ after_two limits set (p ∷ older)

due_is : (limits : Limits) (set : Set) (newest : List PastSet) → test_of limits.one set ∷ after_one limits set newest ≡ newest_tests limits set newest
unfolding newest_tests
due_is limits set [] = refl
due_is limits set (p ∷ []) = refl
due_is limits set (p ∷ q ∷ older) = refl

-- ---- each way out

abbrev Met : ℕ → Set → Type 0
Met limit set = None ≡ first_exceeded (test_of limit set ∷ [])

abbrev Found : Test → ℕ → Set → Type 0
Found t limit set = Some t ≡ first_exceeded (test_of limit set ∷ [])

module _ (limits : Limits) (set two three : Set) (newest : List PastSet) where
  abbrev due : Option Test
  due = first_exceeded (newest_tests limits set newest)

  pub one_found : {t : Test} → Found t limits.one set → Some t ≡ due
  one_found {t} f = found t (test_of limits.one set) (after_one limits set newest) f ∙ ap first_exceeded (due_is limits set newest)

  module _ (m1 : Met limits.one set) where
    past_one : first_exceeded (after_one limits set newest) ≡ due
    past_one = met (test_of limits.one set) (after_one limits set newest) m1 ∙ ap first_exceeded (due_is limits set newest)

    pub one_due : length newest < 1 → None ≡ due
    one_due h = go newest h ∙ past_one
      where
        go : (l : List PastSet) → length l < 1 → None ≡ first_exceeded (after_one limits set l)
        go [] h = refl
        go (p ∷ l) h = absurd (omega arith)

    module _ (h1 : 1 ≤ length newest) (e2 : two ≡ plus set (get_or newest 0 no_set)) where
      from_two : test_of limits.two two ∷ after_two limits set newest ≡ after_one limits set newest
      from_two = ap (λ (s : Set). test_of limits.two s ∷ after_two limits set newest) e2 ∙ go newest h1
        where
          go : (l : List PastSet) → 1 ≤ length l → test_of limits.two (plus set (get_or l 0 no_set)) ∷ after_two limits set l ≡ after_one limits set l
          go [] h = absurd (omega arith)
          go (p ∷ l) h = refl

      pub two_found : {t : Test} → Found t limits.two two → Some t ≡ due
      two_found {t} f = found t (test_of limits.two two) (after_two limits set newest) f ∙ ap first_exceeded from_two ∙ past_one

      module _ (m2 : Met limits.two two) where
        past_two : first_exceeded (after_two limits set newest) ≡ due
        past_two = met (test_of limits.two two) (after_two limits set newest) m2 ∙ ap first_exceeded from_two ∙ past_one

        pub two_due : length newest < 2 → None ≡ due
        two_due h = go newest h ∙ past_two
          where
            go : (l : List PastSet) → length l < 2 → None ≡ first_exceeded (after_two limits set l)
            go [] h = refl
            go (p ∷ []) h = refl
            go (p ∷ q ∷ l) h = absurd (omega arith)

        pub three_due : 2 ≤ length newest → three ≡ plus two (get_or newest 1 no_set) → first_exceeded (test_of limits.three three ∷ []) ≡ due
        three_due h2 e3 =
            ap (λ (s : Set). first_exceeded (test_of limits.three s ∷ [])) (e3 ∙ ap (λ (s : Set). plus s (get_or newest 1 no_set)) e2)
            ∙ ap first_exceeded (go newest h2) ∙ past_two
          where
            go : (l : List PastSet) → 2 ≤ length l
                → test_of limits.three (plus (plus set (get_or l 0 no_set)) (get_or l 1 no_set)) ∷ [] ≡ after_two limits set l
            go [] h = absurd (omega arith)
            go (p ∷ []) h = absurd (omega arith)
            go (p ∷ q ∷ l) h = refl

-- ---- by the non-zero sets

module _ (limits : Limits) (set : Set) where
  -- fewer than four
  pub no_five : (nonzero : List PastSet) → length nonzero < 4 → None ≡ first_exceeded (five_test limits set nonzero)
  unfolding five_test
  no_five [] h = refl
  no_five (p ∷ []) h = refl
  no_five (p ∷ q ∷ []) h = refl
  no_five (p ∷ q ∷ r ∷ []) h = refl
  no_five (p ∷ q ∷ r ∷ s ∷ l) h = absurd (omega arith)

  -- the five together
  abbrev pub five_of : List PastSet → Set
  five_of l = plus (plus (plus (plus set (get_or l 0 no_set)) (get_or l 1 no_set)) (get_or l 2 no_set)) (get_or l 3 no_set)

  pub five_by : (nonzero : List PastSet) → 4 ≤ length nonzero → {b : Bool}
      → b ≡ same_side set.sum (get_or nonzero 0 no_set).sum (get_or nonzero 1 no_set).sum (get_or nonzero 2 no_set).sum (get_or nonzero 3 no_set).sum
      → cond b (test_of limits.five (five_of nonzero) ∷ []) [] ≡ five_test limits set nonzero
  unfolding five_test
  five_by [] h side = absurd (omega arith)
  five_by (p ∷ []) h side = absurd (omega arith)
  five_by (p ∷ q ∷ []) h side = absurd (omega arith)
  five_by (p ∷ q ∷ r ∷ []) h side = absurd (omega arith)
  five_by (p ∷ q ∷ r ∷ s ∷ l) h side = ap (λ (b : Bool). cond b (test_of limits.five (plus (plus (plus (plus set p) q) r) s) ∷ []) []) side

-- A set and four past sets on one side of zero, by the set's test and that of all four.
use mathlib.Core.Path.{◌≡◌, refl, sym, ap₂}
use mathlib.Core.Bool.{Bool, true, false, cond, ◌&&◌, ◌||◌}
use mathlib.Core.List.{List, [], ◌∷◌}
use Prim.Native.Nat.{zero, suc}
use native.Mathlib.Omega.{arith}
use lib.IntN.{ℤ, pos, negsuc}
use lib.ListN.{length, get_or}
use borrow.Author.Tests.{lt-ltb, le-ltb}
use Rattle.whole.specs.Lists.{all, above, below}
use Rattle.whole.proofs.Tests.{and_true, or_false}
use Rattle.station_rules.specs.Lines.{same_side}
use Rattle.station_rules.specs.Held.{no_set}
use Rattle.station_rules.specs.declared.PastSet.{PastSet}

five_and : (a b c d e : Bool) → a && (b && (c && (d && (e && true)))) ≡ a && b && c && d && e
five_and false b c d e = refl
five_and true false c d e = refl
five_and true true false d e = refl
five_and true true true false e = refl
five_and true true true true e = and_true e

-- the test of the set's side first
by_side : (z : ℤ) (a b : Bool) → above z && a || below z && b ≡ cond (above z) a (below z && b)
by_side (pos zero) a b = refl
by_side (pos (suc n)) a b = rw (lt-ltb 0 (suc n) (omega arith), le-ltb (suc n) 0 (omega arith)) (or_false a)
by_side (negsuc n) a b = refl

-- on a side that the set lies on, the past sets' test decides
pub when_above : (z : ℤ) (a b : Bool) → above z ≡ true → above z && a || below z && b ≡ a
when_above z a b e = rw (by_side, e) refl

pub when_below : (z : ℤ) (a b : Bool) → below z ≡ true → above z && a || below z && b ≡ b
when_below (pos n) a b e = let f = le-ltb n 0 (omega arith) in absurd cc
when_below (negsuc n) a b e = refl

-- of four past sets it is the rule's test of the five
pub four_sides : (z : ℤ) (past : List PastSet) → length past ≡ 4
    → same_side z (get_or past 0 no_set).sum (get_or past 1 no_set).sum (get_or past 2 no_set).sum (get_or past 3 no_set).sum
    ≡ above z && all (λ p. above p.sum) past || below z && all (λ p. below p.sum) past
unfolding same_side
four_sides z [] h = absurd (omega arith)
four_sides z (p ∷ []) h = absurd (omega arith)
four_sides z (p ∷ q ∷ []) h = absurd (omega arith)
four_sides z (p ∷ q ∷ r ∷ []) h = absurd (omega arith)
four_sides z (p ∷ q ∷ r ∷ s ∷ []) h =
    sym (ap₂ ◌||◌ (five_and (above z) (above p.sum) (above q.sum) (above r.sum) (above s.sum))
    (five_and (below z) (below p.sum) (below q.sum) (below r.sum) (below s.sum)))
four_sides z (p ∷ q ∷ r ∷ s ∷ t ∷ l) h = absurd (omega arith)

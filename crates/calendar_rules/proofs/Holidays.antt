-- The holidays in one pass: good from day 0 on exactly where number 28 doesn't apply, and then at most 100000 of them.
use mathlib.Core.Path.{◌≡◌, refl, sym, ap, ◌∙◌}
use mathlib.Core.Bool.{Bool, true, false, not, ◌&&◌, ◌||◌}
use mathlib.Core.List.{List, [], ◌∷◌}
use Prim.Native.Nat.{ℕ, suc, ◌+◌, ◌≤◌}
use native.Mathlib.Omega.{arith}
use lib.Dec.{leb, leb-zero}
use lib.IntN.{ℤ, pos, negsuc}
use lib.ListN.{length}
use borrow.Author.Tests.{lt-leb, not-false}
use Rattle.std.proofs.lemmas.Bool.Decides.{nat_tests}
use Rattle.whole.specs.Lists.{any}
use Rattle.whole.specs.Places.{natural}
use Rattle.whole.proofs.Tests.{or_true}
use Rattle.calendar_rules.specs.Calls.{rising, outside, bad_holidays}
use Rattle.calendar_rules.specs.Counting.{good_from}

-- ---- tests joined

inner : (a b r x : Bool) → (a && r) && not (not b || x) ≡ (a && b) && (r && not x)
inner true true r x = refl
inner true false true x = refl
inner true false false x = refl
inner false b r x = refl

outer : (b r x : Bool) → not r || (not b || x) ≡ not ((true && b) && (r && not x))
outer true true true = refl
outer true true false = refl
outer true false x = refl
outer false true x = refl
outer false false x = refl

no_good : (a b g : Bool) → b ≡ false → (a && b) && g ≡ false
no_good true b g e = ap (λ (t : Bool). t && g) e
no_good false b g e = refl

-- ---- a number of the list

-- a negative one is read as one above 99999
negative : (m : ℕ) → leb (natural (negsuc m)) 99999 ≡ false
negative m = lt-leb (natural (negsuc m)) 99999 (omega arith)

outside_is : (n : ℕ) → outside (pos n) ≡ not (leb n 99999)
outside_is n = grind (arith, nat_tests)

-- ---- the list

-- the numbers behind n
behind : (n : ℕ) (hs : List ℤ) → rising (pos n ∷ hs) && not (any outside hs) ≡ good_from (suc n) hs
unfolding rising good_from
behind n [] = refl
behind n (pos m ∷ hs) =
    (λ i. (leb (suc n) m && rising (pos m ∷ hs)) && not (outside_is m i || any outside hs))
    ∙ inner (leb (suc n) m) (leb m 99999) (rising (pos m ∷ hs)) (any outside hs) ∙ ap (λ (t : Bool). (leb (suc n) m && leb m 99999) && t) (behind m hs)
behind n (negsuc m ∷ hs) = sym (no_good (leb (suc n) (natural (negsuc m))) (leb (natural (negsuc m)) 99999) (good_from (suc (natural (negsuc m))) hs) (negative m))

-- number 28 by one pass
pub by_one_pass : (hs : List ℤ) → bad_holidays hs ≡ not (good_from 0 hs)
unfolding bad_holidays rising good_from
by_one_pass [] = refl
by_one_pass (pos m ∷ hs) =
    (λ i. not (rising (pos m ∷ hs)) || (outside_is m i || any outside hs))
    ∙ outer (leb m 99999) (rising (pos m ∷ hs)) (any outside hs) ∙ (λ i. not ((sym (leb-zero m) i && leb m 99999) && behind m hs i))
by_one_pass (negsuc m ∷ hs) =
    or_true (not (rising (negsuc m ∷ hs))) ∙ sym (ap not (no_good (leb 0 (natural (negsuc m))) (leb (natural (negsuc m)) 99999) (good_from (suc (natural (negsuc m))) hs) (negative m)))

-- good holidays rise from the least on, so that there is room for so many only
good_short : (least : ℕ) (hs : List ℤ) → least ≤ 100000 → good_from least hs ≡ true → length hs + least ≤ 100000
unfolding good_from
good_short least [] l g = omega arith
good_short least (h ∷ hs) l g =
    grind (arith, nat_tests, good_short (suc (natural h)) hs)

pub short : (hs : List ℤ) → bad_holidays hs ≡ false → length hs ≤ 100000
short hs e = omega (arith, good_short 0 hs (omega arith) (not-false (good_from 0 hs) (sym (by_one_pass hs) ∙ e)))

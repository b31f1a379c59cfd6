-- The first number that applies: where there is none, no check applies; and a number's refusal has that number.
use mathlib.Core.Path.{◌≡◌, refl, ◌∙◌, subst}
use mathlib.Core.Bool.{Bool, true, false, cond}
use mathlib.Core.List.{List, [], ◌∷◌}
use Rattle.std.specs.Prelude.{Option, None, Some}
use Prim.Native.Nat.{ℕ}
use native.Mathlib.Omega.{arith}
use lib.Dec.{T, eqb, eqb→eq}
use Rattle.std.proofs.lemmas.Bool.{cond-false}
use Rattle.whole.specs.Lists.{all, Check}
use lib.Ieee.Fits.{and_l, and_r}
use Rattle.station_rules.specs.Refusals.{first_number, number_of, refusal_of}

cond_none : (a : Bool) (n : ℕ) (o : Option ℕ) → cond a (Some n) o ≡ None → (a ≡ false) × (o ≡ None)
cond_none a n o e = grind arith

pub none_head : (c : Check ℕ) (cs : List (Check ℕ)) → first_number (c ∷ cs) ≡ None → c.applies ≡ false
none_head c cs e = (cond_none c.applies c.answer (first_number cs) e).0

pub none_tail : (c : Check ℕ) (cs : List (Check ℕ)) → first_number (c ∷ cs) ≡ None → first_number cs ≡ None
none_tail c cs e = (cond_none c.applies c.answer (first_number cs) e).1

-- a check that doesn't apply is passed over
pub passed_over : (a : Bool) (n : ℕ) (o : Option ℕ) → a ≡ false → cond a (Some n) o ≡ o
passed_over a n o e = cond-false a (Some n) o e

-- no check of a list applies
abbrev pub NoneApplies : List (Check ℕ) → Type 0
NoneApplies [] = Unit {0}
NoneApplies (c ∷ cs) = (c.applies ≡ false) × NoneApplies cs

pub none_applies : (cs : List (Check ℕ)) → first_number cs ≡ None → NoneApplies cs
none_applies [] e = tt
none_applies (c ∷ cs) e = (none_head c cs e, none_applies cs (none_tail c cs e))

pub no_number : (cs : List (Check ℕ)) → NoneApplies cs → first_number cs ≡ None
no_number [] f = refl
no_number (c ∷ cs) f = passed_over c.applies c.answer (first_number cs) f.0 ∙ no_number cs f.1

-- the number that applies passes a test that every number of the list passes
pub number_passes : (p : ℕ → Bool) (cs : List (Check ℕ)) (n : ℕ) → T (all (λ c. p c.answer) cs) → first_number cs ≡ Some n → T (p n)
number_passes p [] n t e = grind arith
number_passes p (c ∷ cs) n t e = go c.applies e (number_passes p cs n (and_r (p c.answer) (all (λ c. p c.answer) cs) t))
  where
    go : (a : Bool) → cond a (Some c.answer) (first_number cs) ≡ Some n → (first_number cs ≡ Some n → T (p n)) → T (p n)
    go true e f = let q : c.answer ≡ n = cc in subst (λ (k : ℕ). T (p k)) q (and_l (p c.answer) (all (λ c. p c.answer) cs) t)
    go false e f = f e

-- a check that applies, none before it applying, passes a test
abbrev pub Passes : (ℕ → Bool) → List (Check ℕ) → Type 0
Passes p [] = Unit {0}
Passes p (c ∷ cs) = (c.applies ≡ true → T (p c.answer)) × (c.applies ≡ false → Passes p cs)

pub first_passes : (p : ℕ → Bool) (cs : List (Check ℕ)) (n : ℕ) → Passes p cs → first_number cs ≡ Some n → T (p n)
first_passes p [] n t e = grind arith
first_passes p (c ∷ cs) n t e = go c.applies refl e (first_passes p cs n)
  where
    go : (a : Bool) → c.applies ≡ a → cond a (Some c.answer) (first_number cs) ≡ Some n → (Passes p cs → first_number cs ≡ Some n → T (p n)) → T (p n)
    go true f e g = let q : c.answer ≡ n = cc in subst (λ (k : ℕ). T (p k)) q (t.0 f)
    go false f e g = g (t.1 f) e

-- the number is that of a refusal
abbrev pub has_refusal : ℕ → Bool
has_refusal n = eqb (number_of (refusal_of n)) n

pub known_number : (cs : List (Check ℕ)) (n : ℕ) → T (all (λ c. has_refusal c.answer) cs) → first_number cs ≡ Some n → number_of (refusal_of n) ≡ n
known_number cs n t e = eqb→eq (number_of (refusal_of n)) n (number_passes has_refusal cs n t e)

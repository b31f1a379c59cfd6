-- The months' starts and lengths, of a leap year and of another: one computed test over the twelve, and the order of the starts.
use mathlib.Core.Path.{◌≡◌, refl, ap, subst}
use mathlib.Core.Bool.{Bool, true, false, ◌&&◌, cond}
use mathlib.Core.Logic.{⊎_elim}
use mathlib.Core.List.{◌∷◌}
use Prim.Native.Nat.{ℕ, zero, suc, ◌+◌, ◌≤◌, ◌<◌}
use native.Mathlib.Nat.{eq-or-lt_of_le}
use native.Mathlib.Omega.{arith}
use lib.ListN.{get_or}
use lib.Dec.{T, eqb, leb, eqb→eq, leb→le}
use Rattle.whole.proofs.Tests.{and_l, and_r}
use Rattle.calendar_rules.specs.Dates.{month_lengths}
use Rattle.calendar_rules.specs.Counting.{month_start}

-- ---- a test that is computed for each number below a bound

below : ℕ → (ℕ → Bool) → Bool
below zero p = true
below (suc n) p = p n && below n p

below_at : (n : ℕ) (p : ℕ → Bool) → T (below n p) → (m : ℕ) → m < n → T (p m)
unfolding below
below_at zero p t m h = absurd (omega arith)
below_at (suc n) p t m h =
    ⊎_elim (λ (e : suc m ≡ suc n). subst (λ (k : ℕ). T (p k)) (omega arith) (and_l (p n) (below n p) t)) (λ l. below_at n p (and_r (p n) (below n p) t) m (omega arith)) (eq-or-lt_of_le h)

-- ---- the twelve months

-- the length of month k + 1
abbrev length_of : Bool → ℕ → ℕ
length_of leap k = get_or (month_lengths leap) k 0

-- month k + 1 has 28 to 31 days, behind which the next begins
fits : Bool → ℕ → Bool
fits leap k = eqb (month_start leap (suc (suc k))) (month_start leap (suc k) + length_of leap k) && (leb 28 (length_of leap k) && leb (length_of leap k) 31)

all_fit : (leap : Bool) → T (below 12 (fits leap))
unfolding month_start below fits
all_fit true = tt
all_fit false = tt

-- what is known of a month, 1 to 12
pub record Month (leap : Bool) (month : ℕ) : Type 0 where
  pub next : month_start leap (suc month) ≡ month_start leap month + get_or (0 ∷ month_lengths leap) month 0
  pub least : 28 ≤ get_or (0 ∷ month_lengths leap) month 0
  pub most : get_or (0 ∷ month_lengths leap) month 0 ≤ 31

pub month_is : (leap : Bool) (month : ℕ) → 1 ≤ month → month ≤ 12 → Month leap month
unfolding fits
month_is leap zero h k = absurd (omega arith)
month_is leap (suc m) h k =
    let t = below_at 12 (fits leap) (all_fit leap) m (omega arith) in
    let begins = eqb (month_start leap (suc (suc m))) (month_start leap (suc m) + length_of leap m) in
    let bounds = and_r begins (leb 28 (length_of leap m) && leb (length_of leap m) 31) t in
    record {
      next = eqb→eq _ _ (and_l begins (leb 28 (length_of leap m) && leb (length_of leap m) 31) t);
      least = leb→le _ _ (and_l (leb 28 (length_of leap m)) (leb (length_of leap m) 31) bounds);
      most = leb→le _ _ (and_r (leb 28 (length_of leap m)) (leb (length_of leap m) 31) bounds);
    }

pub january : (leap : Bool) → month_start leap 1 ≡ 0
unfolding month_start
january leap = refl

pub year_end : (leap : Bool) → month_start leap 13 ≡ cond leap 366 365
unfolding month_start
year_end true = refl
year_end false = refl

-- what never falls from one number to the next is no less so many numbers on
pub no_less : (f : ℕ → ℕ) (m k : ℕ) → ((j : ℕ) → j < k → f (m + j) ≤ f (suc (m + j))) → f m ≤ f (m + k)
no_less f m zero h = let e : m + 0 ≡ m = omega arith in omega (arith, ap f e)
no_less f m (suc k) h =
    let e : m + suc k ≡ suc (m + k) = omega arith in
    omega (arith, no_less f m k (λ j l. h j (omega arith)), h k (omega arith), ap f e)

-- a later month begins no earlier than this one ends
pub month_order : (leap : Bool) (m k : ℕ) → 1 ≤ m → m + k ≤ 12 → month_start leap (suc m) ≤ month_start leap (suc m + k)
month_order leap m k h l =
    no_less (month_start leap) (suc m) k (λ (j : ℕ) (i : j < k). omega (arith, month_is leap (suc m + j) (omega arith) (omega arith)))

-- The laws of `show`: its two cases, and how long it is.
use mathlib.Core.Path.{◌≡◌, sym, ap, ◌∙◌}
use mathlib.Core.Logic.{⊎_elim}
use mathlib.Core.List.{List, [], ◌∷◌, ◌++◌}
use Prim.Native.Nat.{ℕ, zero, suc, ◌+◌, ◌*◌, ◌/◌, ◌%◌, ◌≤◌, ◌<◌}
use native.Mathlib.Omega.{arith}
use lib.ListN.{length, length-append}
use borrow.Author.Tests.{lt-ltb, le-ltb}
use Rattle.std.proofs.lemmas.Bool.{cases_lt}
use Rattle.decimal.specs.Show.{shown, show}

pub shown_small : (k n : ℕ) → n < 10 → shown (suc k) n ≡ (48 + n) ∷ []
unfolding shown
shown_small k n h = rw (shown, lt-ltb n 10 h)

pub shown_step : (k n : ℕ) → 10 ≤ n → shown (suc k) n ≡ shown k (n / 10) ++ ((48 + n % 10) ∷ [])
unfolding shown
shown_step k n h = rw (shown, le-ltb n 10 h)

-- any number of digits that is enough gives the same
pub shown_same : (j k n : ℕ) → n < j → n < k → shown j n ≡ shown k n
shown_same zero k n h l = absurd (omega arith)
shown_same (suc j) zero n h l = absurd (omega arith)
shown_same (suc j) (suc k) n h l =
    ⊎_elim
    (λ s. shown_small j n s ∙ sym (shown_small k n s))
    (λ s. shown_step j n s ∙ ap (λ (l : List ℕ). l ++ ((48 + n % 10) ∷ [])) (shown_same j k (n / 10) (omega arith) (omega arith)) ∙ sym (shown_step k n s))
    (cases_lt n 10)

pub show_small : (n : ℕ) → n < 10 → show n ≡ (48 + n) ∷ []
unfolding show
show_small n h = shown_small n n h

pub show_step : (n : ℕ) → 10 ≤ n → show n ≡ show (n / 10) ++ ((48 + n % 10) ∷ [])
unfolding show
show_step n h = shown_step n n h ∙ ap (λ (l : List ℕ). l ++ ((48 + n % 10) ∷ [])) (shown_same n (suc (n / 10)) (n / 10) (omega arith) (omega arith))

pub length_step : (n : ℕ) → 10 ≤ n → length (show n) ≡ length (show (n / 10)) + 1
length_step n h = ap length (show_step n h) ∙ simp length-append

-- ten times as much is a digit longer
longer : (b w : ℕ) → 1 ≤ w → ((m : ℕ) → m < b → length (show m) ≤ w) → (n : ℕ) → n < 10 * b → length (show n) ≤ w + 1
longer b w one short n h =
    ⊎_elim
    (λ s. omega (arith, ap length (show_small n s)))
    (λ s. omega (arith, length_step n s, short (n / 10) (omega arith)))
    (cases_lt n 10)

pub width_1 : (n : ℕ) → n < 10 → length (show n) ≤ 1
width_1 n h = omega (arith, ap length (show_small n h))

pub width_5 : (n : ℕ) → n < 100000 → length (show n) ≤ 5
width_5 = longer 10000 4 (omega arith) (longer 1000 3 (omega arith) (longer 100 2 (omega arith) (longer 10 1 (omega arith) width_1)))

-- the widest number of 32 bits
pub width_10 : (n : ℕ) → n < 10000000000 → length (show n) ≤ 10
width_10 =
    longer 1000000000 9 (omega arith) (longer 100000000 8 (omega arith) (longer 10000000 7 (omega arith) (longer 1000000 6 (omega arith) (longer 100000 5 (omega arith) width_5))))

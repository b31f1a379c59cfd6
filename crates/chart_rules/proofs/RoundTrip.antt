-- Reading what `show` wrote gives the number back.
use mathlib.Core.Path.{◌≡◌, refl, sym, ap, ◌∙◌}
use mathlib.Core.Bool.{Bool, true, false}
use mathlib.Core.Logic.{⊎_elim}
use mathlib.Core.List.{List, [], ◌∷◌, ◌++◌, append_assoc}
use Prim.Native.Nat.{ℕ, zero, suc, ◌+◌, ◌-◌, ◌*◌, ◌/◌, ◌%◌, ◌<◌}
use native.Mathlib.Nat.{eq-zero-or-pos}
use native.Mathlib.Omega.{arith}
use lib.ListN.{length}
use borrow.Author.Tests.{lt-ltb, le-leb, ne_eqb}
use Rattle.decimal.specs.Show.{show}
use Rattle.std.proofs.lemmas.Bool.{cases_lt}
use Rattle.decimal.proofs.Show.{show_small, show_step, length_step}
use Rattle.chart_rules.specs.TextLines.{is_digit, digits, number}
use Rattle.std.specs.Prelude.{Some}

is_digit_lem : (d : ℕ) → d < 10 → is_digit (48 + d) ≡ true
is_digit_lem d h = rw (le-leb 48 (48 + d) (omega arith), le-leb (48 + d) 57 (omega arith))

-- a digit that is shown goes onto the number
digits_digit : (n d i : ℕ) (cs : List ℕ) → d < 10 → n < 10000 → digits n i ((48 + d) ∷ cs) ≡ digits (10 * n + d) (i + 1) cs
unfolding digits
digits_digit n d i cs h l =
    let e : (48 + d) - 48 ≡ d = omega arith in
    rw (is_digit_lem d h, lt-ltb n 10000 l, e)

number_digit : (d i : ℕ) (cs : List ℕ) → 0 < d → d < 10 → number i ((48 + d) ∷ cs) ≡ digits d (i + 1) cs
unfolding number
number_digit d i cs p h =
    let e : (48 + d) - 48 ≡ d = omega arith in
    rw (ne_eqb (48 + d) 48 (omega arith), is_digit_lem d h, e)

-- after the digits of n the reader stands behind them with n
shown_read : (k n i : ℕ) (cs : List ℕ) → n < k → 0 < n → n < 100000 → number i (show n ++ cs) ≡ digits n (i + length (show n)) cs
shown_read zero n i cs h p l = absurd (omega arith)
shown_read (suc k) n i cs h p l =
    ⊎_elim
    (λ s.
    ap (λ (ds : List ℕ). number i (ds ++ cs)) (show_small n s)
    ∙ number_digit n i cs p s
    ∙ ap (λ (m : ℕ). digits n (i + m) cs) (sym (ap length (show_small n s))))
    (λ s.
    let d : ℕ = 48 + n % 10 in
    let m : ℕ = length (show (n / 10)) in
    let whole : 10 * (n / 10) + n % 10 ≡ n = omega arith in
    let place : (i + m) + 1 ≡ i + length (show n) = omega (arith, length_step n s) in
    ap (λ (ds : List ℕ). number i (ds ++ cs)) (show_step n s)
    ∙ ap (number i) (append_assoc (show (n / 10)) (d ∷ []) cs)
    ∙ shown_read k (n / 10) i (d ∷ cs) (omega arith) (omega arith) (omega arith)
    ∙ digits_digit (n / 10) (n % 10) (i + m) cs (omega arith) (omega arith)
    ∙ ap (λ (v : ℕ). digits v (i + m + 1) cs) whole
    ∙ ap (λ (j : ℕ). digits n j cs) place)
    (cases_lt n 10)

-- the bytes begin with a digit
abbrev pub leads : List ℕ → Bool
leads [] = false
leads (c ∷ cs) = is_digit c

digits_done : (n i : ℕ) (cs : List ℕ) → leads cs ≡ false → digits n i cs ≡ Some (n, i)
unfolding digits
digits_done n i [] e = refl
digits_done n i (c ∷ cs) e = rw e

-- ROUND TRIP: what stands at position i is n in decimal, n has at most five digits, and no digit follows: the reader finds n, and the position behind it
pub read_show : (n i : ℕ) (cs : List ℕ) → n < 100000 → leads cs ≡ false → number i (show n ++ cs) ≡ Some (n, i + length (show n))
unfolding number
read_show n i cs l e =
    ⊎_elim
    (λ (z : n ≡ 0).
    ap (λ (m : ℕ). number i (show m ++ cs)) z
    ∙ ap (λ (ds : List ℕ). number i (ds ++ cs)) (show_small 0 (omega arith))
    ∙ ap (λ (m : ℕ). Some (0, i + m)) (sym (ap length (show_small 0 (omega arith))))
    ∙ ap (λ (m : ℕ). Some (m, i + length (show m))) (sym z))
    (λ p. shown_read (suc n) n i cs (omega arith) p l ∙ digits_done n (i + length (show n)) cs e)
    (eq-zero-or-pos n)

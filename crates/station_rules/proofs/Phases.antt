-- A line's phase by its number.
use mathlib.Core.Path.{◌≡◌, refl, sym, ◌∙◌, ap}
use mathlib.Core.Bool.{Bool, cond}
use Prim.Native.Nat.{ℕ, zero, suc, ◌≤◌, ◌<◌}
use native.Mathlib.Omega.{arith}
use lib.Dec.{T, ltb, ltb→lt}
use borrow.Author.Tests.{le-ltb}
use Rattle.station_rules.specs.Lines.{LinePhase, new_line, open_line, adjusted_line, shut_line}
use Rattle.station_rules.specs.Held.{phase_exists, phase_word, repaired_phase, repaired_code}

-- below 2 it is new or open
pub early : {A : Type 0} (f : LinePhase → A) → f new_line ≡ f open_line → (n : ℕ) → n < 2 → f new_line ≡ f (phase_word n)
early f e zero h = refl
early f e (suc zero) h = e
early f e (suc (suc n)) h = absurd (omega arith)

-- else it is adjusted or shut, or there is none such
pub late : {A : Type 0} (f : LinePhase → A) → f adjusted_line ≡ f shut_line → (n : ℕ) → 2 ≤ n → f adjusted_line ≡ f (phase_word n)
late f e zero h = absurd (omega arith)
late f e (suc zero) h = absurd (omega arith)
late f e (suc (suc zero)) h = refl
late f e (suc (suc (suc zero))) h = e
late f e (suc (suc (suc (suc n)))) h = e

-- ---- after a repair

-- new and open become new; what is neither stays
pub repaired_code_lem : (n : ℕ) → cond (ltb n 2) 0 n ≡ repaired_code n
repaired_code_lem zero = refl
repaired_code_lem (suc zero) = refl
repaired_code_lem (suc (suc zero)) = refl
repaired_code_lem (suc (suc (suc zero))) = refl
repaired_code_lem (suc (suc (suc (suc n)))) = simp (le-ltb (suc (suc (suc (suc n)))) 2 (omega arith), le-ltb (suc (suc (suc (suc n)))) 4 (omega arith))

repaired_stays : (n : ℕ) → 2 ≤ n → repaired_code n ≡ n
repaired_stays n h = sym (repaired_code_lem n) ∙ ap (λ (early : Bool). cond early 0 n) (le-ltb n 2 h)

pub repaired_word : (n : ℕ) → phase_word (repaired_code n) ≡ repaired_phase (phase_word n)
repaired_word zero = refl
repaired_word (suc zero) = refl
repaired_word (suc (suc zero)) = refl
repaired_word (suc (suc (suc zero))) = refl
repaired_word (suc (suc (suc (suc n)))) = ap phase_word (repaired_stays (suc (suc (suc (suc n)))) (omega arith))

pub repaired_known : (n : ℕ) → T (phase_exists n) → T (phase_exists (repaired_code n))
repaired_known zero t = tt
repaired_known (suc zero) t = tt
repaired_known (suc (suc zero)) t = tt
repaired_known (suc (suc (suc zero))) t = tt
repaired_known (suc (suc (suc (suc n)))) t = absurd (omega (arith, ltb→lt (suc (suc (suc (suc n)))) 4 t))

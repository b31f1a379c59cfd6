-- What the code's set under way stands for.
use mathlib.Core.Path.{◌≡◌, ap, ◌∙◌}
use mathlib.Core.List.{List, [], ◌∷◌, ◌++◌, append_assoc}
use Prim.Native.Nat.{ℕ, suc, ◌+◌, ◌*◌, ◌<◌}
use native.Mathlib.Omega.{arith}
use lib.IntN.{ℤ}
use lib.ListN.{length, take, set, length-take, length-set}
use lib.Seq.{take-suc-set}
use Rattle.chart_rules.specs.Gathering.{finished}
use Rattle.text_gather.specs.Progress.{seen}
use Rattle.text_gather.specs.declared.TextSet.{TextSet}
use Rattle.chart_rules.proofs.Gathering.{finished_some}

pub grown : (l : List ℤ) (c : ℕ) (o m : ℤ) → 2 * c + 1 < length l → take (2 * (c + 1)) (set (set l (2 * c) o) (2 * c + 1) m) ≡ take (2 * c) l ++ (o ∷ m ∷ [])
grown l c o m h =
    let e : 2 * (c + 1) ≡ suc (2 * c + 1) = omega arith in
    let f : 2 * c + 1 ≡ suc (2 * c) = omega arith in
    ap (λ (k : ℕ). take k (set (set l (2 * c) o) (2 * c + 1) m)) e
    ∙ take-suc-set (set l (2 * c) o) (2 * c + 1) m (omega (arith, length-set l (2 * c) o))
    ∙ ap (λ (k : ℕ). take k (set l (2 * c) o) ++ (m ∷ [])) f
    ∙ ap (λ (r : List ℤ). r ++ (m ∷ [])) (take-suc-set l (2 * c) o (omega arith))
    ∙ append_assoc (take (2 * c) l) (o ∷ []) (m ∷ [])

pub seen_none : (s : TextSet) → s.count ≡ 0 → finished (seen s) ≡ []
unfolding finished seen
seen_none s e = rw e

pub seen_some : (s : TextSet) → (s.count ≡ 0 → ⊥) → length s.numbers ≡ 10 → finished (seen s) ≡ seen s ∷ []
unfolding seen
seen_some s ne ten = finished_some (seen s) (simp length-take (omega (arith, s.few)))

-- What stands at a position of a line: one law for each way that the code goes.
use mathlib.Core.Path.{◌≡◌, refl, sym, ap, ◌∙◌, subst}
use mathlib.Core.List.{List, [], ◌∷◌}
use Prim.Native.Nat.{ℕ, ◌+◌, ◌-◌, ◌≤◌, ◌<◌}
use native.Mathlib.Omega.{arith}
use lib.ListN.{length, get_or, take, drop, length-drop, drop_of_length-le}
use lib.Seq.{take-length}
use mathlib.Core.Bool.{true, false, cond, ◌||◌}
use borrow.Author.Tests.{eq-eqb, ne_eqb}
use Rattle.chart_rules.proofs.Numbers.{drop_step}
use lib.Dec.{eqb}
use Rattle.chart_rules.specs.TextLines.{begins}
use Rattle.text_fault.specs.Kinds.{byte_kind, bytes_kind, is_blank, is_gap}
use Rattle.text_fault.specs.declared.kinds.Before.{Before}
use Rattle.text_fault.specs.declared.kinds.Kind.TheVariants.{NoLineFeed, CutShort}

-- ---- a zero stands first
pub zero_first : (bytes : List ℕ) → 0 < length bytes → get_or bytes 0 0 ≡ 48 → begins 48 bytes ≡ true
zero_first [] h e = absurd (omega arith)
zero_first (c ∷ cs) h e = eq-eqb c 48 e

pub other_first : (bytes : List ℕ) → (get_or bytes 0 0 ≡ 48 → ⊥) → begins 48 bytes ≡ false
other_first [] ne = refl
other_first (c ∷ cs) ne = ne_eqb c 48 ne

pub none_first : (bytes : List ℕ) → length bytes ≡ 0 → begins 48 bytes ≡ false
none_first [] h = refl
none_first (c ∷ cs) h = absurd (omega arith)

pub ruleset zero_steps = (zero_first, other_first, none_first)

-- ---- nothing but spaces and tabs
module _ (bytes : List ℕ) (i : ℕ) where
  pub blank_end : length bytes ≤ i → is_blank (drop i bytes) ≡ true
  unfolding is_blank
  blank_end h = rw (drop_of_length-le bytes h)

  pub blank_more : i < length bytes → is_gap (get_or bytes i 0) ≡ true → is_blank (drop i bytes) ≡ is_blank (drop (i + 1) bytes)
  unfolding is_blank
  blank_more h e = rw (drop_step bytes i h, e)

  pub blank_stop : i < length bytes → is_gap (get_or bytes i 0) ≡ false → is_blank (drop i bytes) ≡ (eqb (get_or bytes i 0) 13 || eqb (get_or bytes i 0) 10)
  unfolding is_blank
  blank_stop h e = rw (drop_step bytes i h, e)

pub ruleset blank_steps = (blank_end, blank_more, blank_stop)

-- the code's slice from a position on
pub rest_is : (line : List ℕ) (at : ℕ) → take (length line - at) (drop at line) ≡ drop at line
rest_is line at = ap (λ (n : ℕ). take n (drop at line)) (sym (length-drop at line)) ∙ take-length (drop at line)

-- ---- the kind
module _ (line : List ℕ) (at : ℕ) (before : Before) where
  pub kind_end : length line ≤ at → bytes_kind (drop at line) before ≡ cond before.all NoLineFeed CutShort
  unfolding bytes_kind
  kind_end h = rw (drop_of_length-le line h)

  pub kind_inside : at < length line → bytes_kind (drop at line) before ≡ byte_kind (get_or line at 0) (drop at line) before
  unfolding bytes_kind
  kind_inside h = subst (λ (bs : List ℕ). bytes_kind bs before ≡ byte_kind (get_or line at 0) bs before) (sym (drop_step line at h)) refl

-- for the code that looks at what stands there
pub ruleset kind_steps = (kind_end, kind_inside)

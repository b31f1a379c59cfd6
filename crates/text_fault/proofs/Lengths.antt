-- How many bytes can stand in a number, or are the names line's: one law for each way that the code goes.
use mathlib.Core.Path.{◌≡◌, refl}
use mathlib.Core.Bool.{true, false, false≢true}
use mathlib.Core.List.{List, [], ◌∷◌}
use Prim.Native.Nat.{ℕ, ◌+◌, ◌≤◌, ◌<◌}
use native.Mathlib.Omega.{arith}
use lib.ListN.{length, get_or, take, drop, length-take, drop_of_length-le}
use borrow.Author.Tests.{eq-eqb, ne_eqb}
use Rattle.std.specs.List.{prefix_len, common_prefix_len}
use Rattle.std.specs.Prelude.{nat_eq}
use Rattle.std.proofs.lemmas.List.Sums.{prefix_len-le-length, common_prefix_len-drop_no, common_prefix_len-drop_yes}
use Rattle.chart_rules.specs.TextLines.{begins, is_digit}
use Rattle.text_fault.specs.Fields.{number_length}

pub zero_length : (bytes : List ℕ) → begins 48 bytes ≡ true → number_length bytes ≡ 1
unfolding number_length
zero_length bytes e = rw e

pub digits_length : (bytes : List ℕ) → begins 48 bytes ≡ false → number_length bytes ≡ prefix_len is_digit (take 5 bytes)
unfolding number_length
digits_length bytes e = rw e

pub some_length : (bytes : List ℕ) → begins 48 bytes ≡ true → 1 ≤ length bytes
some_length [] e = absurd (false≢true e)
some_length (c ∷ cs) e = omega arith

pub length_most : (bytes : List ℕ) → prefix_len is_digit (take 5 bytes) ≤ length bytes
length_most bytes = omega (arith, prefix_len-le-length is_digit (take 5 bytes), length-take 5 bytes)

-- for the code that measures a number
pub ruleset length_steps = (zero_length, digits_length, some_length, length_most)

-- how far two lists agree from a position on
module _ (xs ys : List ℕ) (i : ℕ) where
  pub same_end : length xs ≤ i → common_prefix_len nat_eq (drop i xs) (drop i ys) ≡ 0
  same_end h = rw (drop_of_length-le xs h)

  pub same_apart : i < length xs → i < length ys → (get_or xs i 0 ≡ get_or ys i 0 → ⊥) → common_prefix_len nat_eq (drop i xs) (drop i ys) ≡ 0
  same_apart h l ne = common_prefix_len-drop_no nat_eq xs ys i 0 0 h l (ne_eqb _ _ ne)

  pub same_more : i < length xs → i < length ys → get_or xs i 0 ≡ get_or ys i 0
      → common_prefix_len nat_eq (drop i xs) (drop i ys) ≡ 1 + common_prefix_len nat_eq (drop (i + 1) xs) (drop (i + 1) ys)
  same_more h l e = common_prefix_len-drop_yes nat_eq xs ys i 0 0 h l (eq-eqb _ _ e)

pub same_none : (xs : List ℕ) → common_prefix_len nat_eq xs [] ≡ 0
same_none [] = refl
same_none (x ∷ xs) = refl

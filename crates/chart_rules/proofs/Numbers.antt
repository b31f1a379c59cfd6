-- The steps of `digits` and `number` at a position of a text, one law for each way that the code goes.
use mathlib.Core.Path.{◌≡◌}
use mathlib.Core.Bool.{true, false}
use mathlib.Core.List.{List, ◌∷◌}
use Prim.Native.Nat.{ℕ, ◌+◌, ◌-◌, ◌*◌, ◌≤◌, ◌<◌}
use native.Mathlib.Numerals.{add-one}
use lib.ListN.{length, get_or, drop, drop_of_length-le}
use lib.Seq.{drop-cons}
use lib.Dec.{leb}
use borrow.Author.Tests.{leb-true, lt-ltb, le-ltb, eq-eqb, ne_eqb}
use Rattle.whole.proofs.Tests.{and_both}
use Rattle.chart_rules.specs.TextLines.{is_digit, digits, number, number_at}
use Rattle.std.specs.Prelude.{Some, None}

-- what stands at a position inside the text, as the code's `i + 1` has it
pub drop_step : (text : List ℕ) (i : ℕ) → i < length text → drop i text ≡ get_or text i 0 ∷ drop (i + 1) text
drop_step text i h = rw (add-one, drop-cons text i 0)

pub digit_range : (c : ℕ) → is_digit c ≡ true → (48 ≤ c) × (c ≤ 57)
digit_range c e =
    let p = and_both (leb 48 c) (leb c 57) e in
    (leb-true 48 c p.0, leb-true c 57 p.1)

module _ (text : List ℕ) (n i : ℕ) where
  pub digits_end : length text ≤ i → digits n i (drop i text) ≡ Some (n, i)
  unfolding digits
  digits_end h = rw (drop_of_length-le text h)

  pub digits_stop : i < length text → is_digit (get_or text i 0) ≡ false → digits n i (drop i text) ≡ Some (n, i)
  unfolding digits
  digits_stop h e = rw (drop_step text i h, e)

  pub digits_long : i < length text → is_digit (get_or text i 0) ≡ true → 10000 ≤ n → digits n i (drop i text) ≡ None
  unfolding digits
  digits_long h e l = rw (drop_step text i h, e, le-ltb n 10000 l)

  pub digits_more : i < length text → is_digit (get_or text i 0) ≡ true → n < 10000
      → digits n i (drop i text) ≡ digits (10 * n + (get_or text i 0 - 48)) (i + 1) (drop (i + 1) text)
  unfolding digits
  digits_more h e l = rw (drop_step text i h, e, lt-ltb n 10000 l)

module _ (text : List ℕ) (i : ℕ) where
  pub number_end : length text ≤ i → number_at text i ≡ None
  unfolding number_at number
  number_end h = rw (drop_of_length-le text h)

  pub number_zero : i < length text → get_or text i 0 ≡ 48 → number_at text i ≡ Some (0, i + 1)
  unfolding number_at number
  number_zero h e = rw (drop_step text i h, eq-eqb _ 48 e)

  pub number_digits : i < length text → (get_or text i 0 ≡ 48 → ⊥) → is_digit (get_or text i 0) ≡ true
      → number_at text i ≡ digits (get_or text i 0 - 48) (i + 1) (drop (i + 1) text)
  unfolding number_at number
  number_digits h ne e = rw (drop_step text i h, ne_eqb _ 48 ne, e)

  pub number_other : i < length text → (get_or text i 0 ≡ 48 → ⊥) → is_digit (get_or text i 0) ≡ false → number_at text i ≡ None
  unfolding number_at number
  number_other h ne e = rw (drop_step text i h, ne_eqb _ 48 ne, e)

-- for the code that reads a number
pub ruleset digits_steps = (digits_end, digits_stop, digits_long, digits_more, digit_range)

pub ruleset number_steps = (number_end, number_zero, number_digits, number_other)

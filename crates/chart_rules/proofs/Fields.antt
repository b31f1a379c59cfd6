-- The steps of `field` and `starts_with` at a position of a text, one law for each way that the code goes.
use mathlib.Core.Path.{◌≡◌, sym}
use mathlib.Core.Bool.{true, false}
use mathlib.Core.List.{List}
use Prim.Native.Nat.{ℕ, ◌+◌, ◌≤◌, ◌<◌}
use lib.ListN.{length, get_or, drop, drop_of_length-le}
use borrow.Author.Tests.{eq-eqb, ne_eqb}
use Rattle.chart_rules.specs.TextLines.{number_at, ended, field, starts_with}
use Rattle.chart_rules.proofs.Numbers.{drop_step}
use Rattle.std.specs.Prelude.{Some, None}

module _ (text : List ℕ) (e at : ℕ) where
  pub field_none : number_at text at ≡ None → field text e at ≡ None
  unfolding field ended
  field_none p = rw p

  module _ (n i : ℕ) (p : number_at text at ≡ Some (n, i)) where
    pub field_end : i < length text → get_or text i 0 ≡ e → field text e at ≡ Some (n, i + 1)
    unfolding field ended
    field_end h q = rw (p, drop_step text i h, eq-eqb _ e q)

    pub field_other : i < length text → (get_or text i 0 ≡ e → ⊥) → field text e at ≡ None
    unfolding field ended
    field_other h q = rw (p, drop_step text i h, ne_eqb _ e q)

    pub field_past : length text ≤ i → field text e at ≡ None
    unfolding field ended
    field_past h = rw (p, drop_of_length-le text h)

-- a text that is compared with a head, position by position
module _ (head text : List ℕ) (i : ℕ) where
  pub starts_done : length head ≤ i → starts_with (drop i head) (drop i text) ≡ true
  starts_done h = rw (drop_of_length-le head h)

  pub starts_short : i < length head → length text ≤ i → starts_with (drop i head) (drop i text) ≡ false
  starts_short h l = rw (drop_step head i h, drop_of_length-le text l)

  pub starts_other : i < length head → i < length text → (get_or text i 0 ≡ get_or head i 0 → ⊥)
      → starts_with (drop i head) (drop i text) ≡ false
  starts_other h l ne = rw (drop_step head i h, drop_step text i l, ne_eqb _ _ (λ e. ne (sym e)))

  pub starts_more : i < length head → i < length text → get_or text i 0 ≡ get_or head i 0
      → starts_with (drop i head) (drop i text) ≡ starts_with (drop (i + 1) head) (drop (i + 1) text)
  starts_more h l e = rw (drop_step head i h, drop_step text i l, eq-eqb _ _ (sym e))

-- for the code that reads a field
pub ruleset field_steps = (field_none, field_end, field_other, field_past)

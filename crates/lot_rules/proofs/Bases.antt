-- The bases of a lot's records, where number 31 does not apply: they are all that of the first.
use mathlib.Core.Path.{◌≡◌, refl, ap, ◌∙◌}
use mathlib.Core.Bool.{Bool, true, false, not, ◌||◌}
use mathlib.Core.List.{List, [], ◌∷◌}
use lib.IntN.{ℤ}
use Rattle.std.specs.List.{All}
use Rattle.std.specs.Ordering.{int_eq}
use Rattle.std.proofs.lemmas.Bool.{not-false}
use Rattle.std.proofs.lemmas.Bool.Decides.{Decides-int_eq}
use Rattle.std.proofs.lemmas.List.Elements.{All-nil, All-cons, All-head, All-tail}
use Rattle.whole.specs.Lists.{any}
use Rattle.whole.proofs.ListLaws.{by_test}
use Rattle.whole.proofs.Tests.{or_none}
use Rattle.lot_rules.specs.Lots.{unlike_basis}
use Rattle.lot_rules.specs.declared.Sublot.{Sublot}

-- a record stands at another basis than this
abbrev pub other_basis : ℤ → Sublot → Bool
other_basis b r = not (int_eq r.basis b)

pub same_basis : (b : ℤ) (r : Sublot) → other_basis b r ≡ false → r.basis ≡ b
same_basis b r e = (Decides-int_eq r.basis b).0 (not-false (int_eq r.basis b) e)

-- a record does not stand at another basis than its own
pub its_own : (r : Sublot) → other_basis r.basis r ≡ false
its_own r = ap not ((Decides-int_eq r.basis r.basis).1 refl)

module _ (b : ℤ) where
  pub all_at : (records : List Sublot) → any (other_basis b) records ≡ false → All (λ r. r.basis ≡ b) records
  all_at [] e = All-nil (λ r. r.basis ≡ b)
  all_at (r ∷ rs) e =
      let t = or_none (other_basis b r) (any (other_basis b) rs) e in
      All-cons (λ r. r.basis ≡ b) r rs (same_basis b r t.0) (all_at rs t.1)

  pub none_other : (records : List Sublot) → All (λ r. r.basis ≡ b) records → any (other_basis b) records ≡ false
  none_other [] h = refl
  none_other (r ∷ rs) h =
      let one : other_basis b r ≡ false = ap not ((Decides-int_eq r.basis b).1 (All-head (λ (r : Sublot). r.basis ≡ b) r rs h)) in
      ap (λ (t : Bool). t || any (other_basis b) rs) one ∙ none_other rs (All-tail (λ (r : Sublot). r.basis ≡ b) r rs h)

  -- a test that fails at a basis fails at every record that has it
  none_at : (p : ℤ → Bool) → p b ≡ false → (records : List Sublot) → any (other_basis b) records ≡ false → any (λ r. p r.basis) records ≡ false
  none_at p n [] e = refl
  none_at p n (r ∷ rs) e =
      let t = or_none (other_basis b r) (any (other_basis b) rs) e in
      ap (λ (z : ℤ). p z || any (λ r. p r.basis) rs) (same_basis b r t.0) ∙ ap (λ (t : Bool). t || any (λ r. p r.basis) rs) n ∙ none_at p n rs t.1

-- two records are of unlike basis exactly where one has another than the first
pub unlike_first : (r : Sublot) (rs : List Sublot) → unlike_basis (r ∷ rs) ≡ any (other_basis r.basis) rs
unfolding unlike_basis
unlike_first r rs =
    by_test (any (other_basis r.basis) rs) (λ t. unlike_basis (r ∷ rs) ≡ t)
    (λ e. ap (λ (t : Bool). (other_basis r.basis r || t) || any (λ q. any (other_basis q.basis) (r ∷ rs)) rs) e ∙ first_true (other_basis r.basis r) (any (λ q. any (other_basis q.basis) (r ∷ rs)) rs))
    (λ e. let f : any (other_basis r.basis) (r ∷ rs) ≡ false = ap (λ (t : Bool). t || any (other_basis r.basis) rs) (its_own r) ∙ e in
    none_at r.basis (λ b. any (other_basis b) (r ∷ rs)) f (r ∷ rs) f)
  where
    first_true : (a c : Bool) → (a || true) || c ≡ true
    first_true true c = refl
    first_true false c = refl

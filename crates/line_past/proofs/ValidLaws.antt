-- The valid past sets stand first, and how many they are.
use mathlib.Core.Path.{◌≡◌, refl, sym, ap, ◌∙◌}
use mathlib.Core.Bool.{Bool, true, false, cond}
use mathlib.Core.List.{List, [], ◌∷◌}
use Prim.Native.Nat.{ℕ, ◌+◌, ◌-◌}
use native.Mathlib.Omega.{arith}
use lib.Dec.{T, leb}
use lib.ListN.{length, take}
use borrow.Author.Tests.{leb-false}
use Rattle.std.specs.List.{count_by}
use Rattle.std.proofs.lemmas.List.Recursion.{is_count_by}
use Rattle.whole.proofs.Tests.{and_r}
use Rattle.whole.proofs.ListLaws.{by_test}
use Rattle.station_rules.specs.Lines.{valid_on}
use Rattle.station_rules.specs.Soundness.{days_fall}
use Rattle.station_rules.proofs.HeldSets.{none_valid}
use Rattle.station_rules.specs.declared.PastSet.{PastSet}

-- at most 14 days old: no older than the day 14 days before
same_age : (day d : ℕ) → leb (day - 14) d ≡ leb day (d + 14)
same_age day d = grind arith

length_cond : (b : Bool) (p : PastSet) (ps : List PastSet) → length (cond b (p ∷ ps) ps) ≡ cond b (1 + length ps) (length ps)
length_cond true p ps = omega arith
length_cond false p ps = refl

pub count_valid : (day : ℕ) (ps : List PastSet) → length (valid_on day ps) ≡ count_by (λ p. leb (day - 14) p.day) ps
unfolding valid_on
count_valid day ps =
    is_count_by (λ ps. length (valid_on day ps)) (λ p. leb (day - 14) p.day) refl
    (λ p ps. rw (same_age day p.day) (length_cond (leb day (p.day + 14)) p (valid_on day ps))) ps

pub valid_first : (day d : ℕ) (ps : List PastSet) → T (days_fall d ps) → valid_on day ps ≡ take (length (valid_on day ps)) ps
unfolding valid_on
valid_first day d [] t = refl
valid_first day d (p ∷ ps) t =
    by_test (leb day (p.day + 14)) (λ b. leb day (p.day + 14) ≡ b → cond b (p ∷ valid_on day ps) (valid_on day ps) ≡ take (length (cond b (p ∷ valid_on day ps) (valid_on day ps))) (p ∷ ps))
    (λ e e'. ap (λ (l : List PastSet). p ∷ l) (valid_first day p.day ps (and_r (leb p.day d) (days_fall p.day ps) t)))
    (λ e e'. let n = none_valid day p.day ps (leb-false day (p.day + 14) e) (and_r (leb p.day d) (days_fall p.day ps) t) in n ∙ sym (ap (λ (l : List PastSet). take (length l) (p ∷ ps)) n))
    refl

-- so as many as there are valid ones are the valid ones
pub valid_part : (day : ℕ) (ps : List PastSet) → T (days_fall 99999 ps) → take (length (valid_on day ps)) ps ≡ valid_on day ps
valid_part day ps t = sym (valid_first day 99999 ps t)

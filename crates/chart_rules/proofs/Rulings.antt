-- Lists of checks, and what is known of a line that is fine.
use mathlib.Core.Path.{◌≡◌, refl}
use mathlib.Core.Bool.{true, not, ◌||◌, cond}
use mathlib.Core.Logic.{⊎_elim}
use mathlib.Core.List.{List, [], ◌∷◌, ◌++◌}
use Prim.Native.Nat.{ℕ, ◌+◌, ◌≤◌, ◌<◌}
use native.Mathlib.Omega.{arith}
use lib.IntN.{pos}
use lib.Dec.{eqb, ltb}
use borrow.Author.Tests.{le-ltb, leb-true, eqb-true, eqb-false, not-true, not-false}
use Rattle.std.proofs.lemmas.Bool.{or_cases}
use Rattle.std.proofs.lemmas.Int.{ints}
use Rattle.std.proofs.lemmas.List.Elements.{All-head, All-tail}
use Rattle.whole.specs.Bounds.{Within}
use Rattle.whole.specs.Lists.{Check}
use Rattle.whole.proofs.Tests.{and_both, or_false}
use Rattle.whole.proofs.ListLaws.{by_test}
use Rattle.chart_rules.specs.Judging.{first_ruling, is_next, is_start, ruling}
use Rattle.chart_rules.specs.Fine.{FineLine}
use Rattle.chart_rules.specs.Refusals.{outside, bad_result}
use Rattle.chart_rules.specs.declared.ValueLine.{ValueLine}
use Rattle.chart_rules.proofs.Fine.{fine_head}
use Rattle.chart_rules.proofs.Bounds.{results_inside, week_facts}
use Rattle.std.specs.Prelude.{Result, Ok, Err}
use Rattle.chart_rules.specs.declared.RefusedText.{RefusedText}

-- ---- the first of two lists of checks
unfoldable pub otherwise : Result (Unit {0}) RefusedText → Result (Unit {0}) RefusedText → Result (Unit {0}) RefusedText
otherwise (Ok fine) x = x
otherwise (Err r) x = Err r

pub first_append : (a b : List (Check RefusedText)) → first_ruling (a ++ b) ≡ otherwise (first_ruling a) (first_ruling b)
unfolding otherwise
first_append [] b = refl
first_append (c ∷ a) b =
    by_test c.applies
    (λ t. cond t (Err c.answer) (first_ruling (a ++ b)) ≡ otherwise (cond t (Err c.answer) (first_ruling a)) (first_ruling b))
    (λ e. refl) (λ e. first_append a b)

-- none of two lists' checks applies
pub fine_both : (x y : Result (Unit {0}) RefusedText) → otherwise x y ≡ Ok tt → (x ≡ Ok tt) × (y ≡ Ok tt)
unfolding otherwise
fine_both (Ok fine) y e = (refl, e)
fine_both (Err r) y e = absurd cc

-- ---- a line that is fine
pub fine_line : (week sample line : ℕ) (v : ValueLine) → ruling week sample line v ≡ Ok tt → FineLine week sample v
unfolding ruling
fine_line week sample line v e =
    let a = fine_head _ _ _ e in
    let b = fine_head _ _ _ a.1 in
    let d = fine_head _ _ _ b.1 in
    record { place = not-false _ a.0; time = b.0; results = d.0 }

next_facts : (week sample : ℕ) (v : ValueLine) → is_next week sample v ≡ true → (sample ≡ 0 → ⊥) × (v.week ≡ week) × (v.sample ≡ sample + 1) × (v.sample ≤ 5)
unfolding is_next
next_facts week sample v e =
    let a = and_both _ _ e in
    let b = and_both _ _ a.0 in
    let d = and_both _ _ a.1 in
    (eqb-false sample 0 (not-true _ b.0), eqb-true v.week week b.1, eqb-true v.sample (sample + 1) d.0, leb-true v.sample 5 d.1)

start_facts : (week sample : ℕ) (v : ValueLine) → is_start week sample v ≡ true → v.sample ≡ 1
unfolding is_start
start_facts week sample v e = eqb-true v.sample 1 (and_both (eqb sample 0 || not (eqb v.week week)) (eqb v.sample 1) e).1

module _ (week sample : ℕ) (v : ValueLine) (f : FineLine week sample v) where
  pub fine_results : (v.original ≤ 10000) × (v.monitor ≤ 10000)
  fine_results =
      let r = results_inside (pos v.original ∷ pos v.monitor ∷ []) f.results in
      let original = All-head (Within 0 10000) (pos v.original) (pos v.monitor ∷ []) r in
      let monitor = All-head (Within 0 10000) (pos v.monitor) [] (All-tail (Within 0 10000) (pos v.original) (pos v.monitor ∷ []) r) in
      (omega (arith, ints, original.under), omega (arith, ints, monitor.under))

  -- a line that goes on with its set
  pub fine_next : (v.sample ≡ 1 → ⊥) → (sample < 5) × (v.sample ≡ sample + 1) × (v.week ≡ week)
  fine_next ne =
      ⊎_elim
      (λ n. let p = next_facts week sample v n in (omega (arith, p.2, p.3), p.2, p.1))
      (λ s. absurd (ne (start_facts week sample v s)))
      (or_cases (is_next week sample v) (is_start week sample v) f.place)

  -- a line that starts one
  pub fine_start : v.sample ≡ 1 → (week < v.week) × (v.week ≤ 9999)
  fine_start one =
      ⊎_elim
      (λ n. let p = next_facts week sample v n in absurd (p.0 (omega (arith, p.2))))
      (λ s. week_facts week v.week (rw s at f.time))
      (or_cases (is_next week sample v) (is_start week sample v) f.place)

  pub fine_sample : v.sample ≤ 5
  fine_sample =
      ⊎_elim
      (λ n. (next_facts week sample v n).3)
      (λ s. omega (arith, start_facts week sample v s))
      (or_cases (is_next week sample v) (is_start week sample v) f.place)

pub fine_first : (week : ℕ) (v : ValueLine) → FineLine week 0 v → v.sample ≡ 1
fine_first week v f =
    ⊎_elim
    (λ n. absurd ((next_facts week 0 v n).0 refl))
    (λ s. start_facts week 0 v s)
    (or_cases (is_next week 0 v) (is_start week 0 v) f.place)

-- ---- results that have no sign
pub natural_outside : (n : ℕ) → outside (pos n) ≡ ltb 10000 n
unfolding outside
natural_outside n = rw (le-ltb n 0 (omega arith))

pub bad_pair : (o m : ℕ) → ltb 10000 o || ltb 10000 m ≡ bad_result (pos o ∷ pos m ∷ [])
unfolding bad_result
bad_pair o m = rw (natural_outside o, natural_outside m, or_false (ltb 10000 m))

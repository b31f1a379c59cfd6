-- What a verdict says: a set that met has N above 0, and the intercept stays in −1000..1000.
use mathlib.Core.Path.{◌≡◌, refl, sym, ◌∙◌, ap}
use mathlib.Core.Bool.{Bool, true, false, not, ◌&&◌, ◌||◌, cond}
use mathlib.Core.List.{List, [], ◌∷◌}
use Rattle.std.specs.Prelude.{Option, None, Some}
use Prim.Native.Nat.{ℕ, ◌≤◌}
use native.Mathlib.Omega.{arith}
use lib.Dec.{eqb, ltb}
use lib.IntN.{ℤ, neg_ℤ, nat_abs, ◌+ℤ◌, ◌-ℤ◌, +ℤ_idr}
use borrow.Author.Tests.{leb-true}
use Rattle.std.proofs.lemmas.Bool.{cond_both}
use Rattle.std.proofs.lemmas.Bool.Decides.{nat_tests}
use Rattle.std.proofs.lemmas.Int.{ints}
use Rattle.whole.specs.Lists.{any}
use Rattle.station_rules.specs.Lines.{Values, change_of, is_met, judged, exceeded, sound_intercept, rounded_average, first_exceeded, tests_due, verdict_of, met_every}
use Rattle.station_rules.specs.Laws.{MetIsMet}
use Rattle.station_rules.specs.declared.Verdict.{Verdict}
use Rattle.station_rules.specs.declared.Verdict.TheVariants.{Adjusted, Shut}
use Rattle.station_rules.specs.declared.Test.{Test}
use Rattle.station_rules.specs.declared.Set.{Set}
use Rattle.station_rules.specs.declared.Limits.{Limits}

adjust_met : (b : Bool) (change : ℤ) → is_met (cond b (Adjusted change) Shut) ≡ false
adjust_met b change = grind arith

cond_met : (b : Bool) (w : Verdict) → is_met (cond b Shut w) ≡ true → b ≡ false
cond_met b w h = grind arith

adjust_small : (b : Bool) (i average : ℤ) → sound_intercept (i -ℤ average) ≡ b → nat_abs i ≤ 1000
    → nat_abs (i +ℤ change_of (cond b (Adjusted (neg_ℤ average)) Shut)) ≤ 1000
adjust_small true i average e h = leb-true (nat_abs (i -ℤ average)) 1000 e
adjust_small false i average e h = rw (+ℤ_idr i) h

judged_small : (i : ℤ) (o : Option Test) → nat_abs i ≤ 1000 → nat_abs (i +ℤ change_of (judged i o)) ≤ 1000
judged_small i None h = rw (+ℤ_idr i) h
judged_small i (Some t) h = adjust_small (sound_intercept (i -ℤ rounded_average t)) i (rounded_average t) refl h

cond_small : (b : Bool) (i : ℤ) (w : Verdict) → nat_abs i ≤ 1000 → nat_abs (i +ℤ change_of w) ≤ 1000 → nat_abs (i +ℤ change_of (cond b Shut w)) ≤ 1000
cond_small b i w h k = cond_both b Shut w (λ x. nat_abs (i +ℤ change_of x) ≤ 1000) (λ e. omega (arith, ints)) (λ e. k)

-- no test is exceeded where the first exceeded is none
none_exceeded : (i : ℤ) (ts : List Test) → is_met (judged i (first_exceeded ts)) ≡ not (any exceeded ts)
none_exceeded i [] = refl
none_exceeded i (t ∷ ts) = go (exceeded t) (none_exceeded i ts)
  where
    go : (b : Bool) → is_met (judged i (first_exceeded ts)) ≡ not (any exceeded ts)
        → is_met (judged i (cond b (Some t) (first_exceeded ts))) ≡ not (b || any exceeded ts)
    go true ih = adjust_met (sound_intercept (i -ℤ rounded_average t)) (neg_ℤ (rounded_average t))
    go false ih = ih

positive : (n : ℕ) → ltb 0 n ≡ not (eqb n 0)
positive n = grind (arith, nat_tests)

shut_met : (n : ℕ) (w : Verdict) (x : Bool) → is_met w ≡ not x → is_met (cond (eqb n 0) Shut w) ≡ (ltb 0 n && not x)
shut_met n w x e = go (eqb n 0) ∙ ap (λ (b : Bool). b && not x) (sym (positive n))
  where
    go : (b : Bool) → is_met (cond b Shut w) ≡ (not b && not x)
    go true = refl
    go false = e

-- a verdict meets exactly where the sheet met every average due
pub met_is_met : MetIsMet
unfolding verdict_of met_every
met_is_met limits v day set =
    let ts = tests_due limits v day set in
    shut_met set.count (judged v.intercept (first_exceeded ts)) (any exceeded ts) (none_exceeded v.intercept ts)

module _ (limits : Limits) (v : Values) (day : ℕ) (set : Set) where
  -- a set that met has N above 0
  pub verdict_met : is_met (verdict_of limits v day set) ≡ true → eqb set.count 0 ≡ false
  unfolding verdict_of
  verdict_met h = cond_met (eqb set.count 0) (judged v.intercept (first_exceeded (tests_due limits v day set))) h

  -- the intercept stays in −1000..1000
  pub verdict_small : nat_abs v.intercept ≤ 1000 → nat_abs (v.intercept +ℤ change_of (verdict_of limits v day set)) ≤ 1000
  unfolding verdict_of
  verdict_small h =
      let o = first_exceeded (tests_due limits v day set) in
      cond_small (eqb set.count 0) v.intercept (judged v.intercept o) h (judged_small v.intercept o h)

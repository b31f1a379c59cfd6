-- What holds of a test made with each limit holds of every test due, and so of the first that is exceeded.
use mathlib.Core.Path.{◌≡◌, refl, subst}
use mathlib.Core.Bool.{Bool, true, false, cond}
use mathlib.Core.List.{List, [], ◌∷◌, ◌++◌}
use Rattle.std.specs.Prelude.{Option, None, Some}
use native.Mathlib.Omega.{arith}
use Rattle.station_rules.specs.Lines.{LinePhase, new_line, open_line, adjusted_line, shut_line, exceeded, same_side, test_of, plus}
use Rattle.station_rules.specs.Lines.{newest_tests, five_test, tests_by, first_exceeded}
use Rattle.station_rules.specs.declared.PastSet.{PastSet}
use Rattle.station_rules.specs.declared.Test.{Test}
use Rattle.station_rules.specs.declared.Set.{Set}
use Rattle.station_rules.specs.declared.Limits.{Limits}

module _ (P : Test → Type 0) where
  -- of each of some tests
  abbrev pub Each : List Test → Type 0
  Each [] = Unit {0}
  Each (t ∷ ts) = P t × Each ts

  -- of a test with each limit, of the set and the past sets that join it
  pub record OfLimits (limits : Limits) (set : Set) : Type 0 where
    pub one : P (test_of limits.one set)
    pub two : (p : PastSet) → P (test_of limits.two (plus set p))
    pub three : (p q : PastSet) → P (test_of limits.three (plus (plus set p) q))
    pub five : (p q r s : PastSet) → P (test_of limits.five (plus (plus (plus (plus set p) q) r) s))
    pub check : P (test_of limits.check set)

  module _ (limits : Limits) (set : Set) (h : OfLimits limits set) where
    newest_each : (newest : List PastSet) (ts : List Test) → Each ts → Each (newest_tests limits set newest ++ ts)
    unfolding newest_tests
    newest_each [] ts f = (h.one, f)
    newest_each (p ∷ []) ts f = (h.one, (h.two p, f))
    newest_each (p ∷ q ∷ older) ts f = (h.one, (h.two p, (h.three p q, f)))

    five_each : (nonzero : List PastSet) → Each (five_test limits set nonzero)
    unfolding five_test
    five_each [] = tt
    five_each (p ∷ []) = tt
    five_each (p ∷ q ∷ []) = tt
    five_each (p ∷ q ∷ r ∷ []) = tt
    five_each (p ∷ q ∷ r ∷ s ∷ older) = go (same_side set.sum p.sum q.sum r.sum s.sum)
      where
        go : (b : Bool) → Each (cond b (test_of limits.five (plus (plus (plus (plus set p) q) r) s) ∷ []) [])
        go true = (h.five p q r s, tt)
        go false = tt

    pub due_each : (phase : LinePhase) (newest nonzero : List PastSet) → Each (tests_by limits phase set newest nonzero)
    unfolding tests_by
    due_each new_line newest nonzero = newest_each newest (five_test limits set nonzero) (five_each nonzero)
    due_each open_line newest nonzero = newest_each newest (five_test limits set nonzero) (five_each nonzero)
    due_each adjusted_line newest nonzero = (h.check, tt)
    due_each shut_line newest nonzero = (h.check, tt)

  pub first_each : (ts : List Test) (t : Test) → Each ts → first_exceeded ts ≡ Some t → P t × (exceeded t ≡ true)
  first_each [] t f e = grind arith
  first_each (x ∷ ts) t f e = go (exceeded x) refl e (first_each ts t f.1)
    where
      go : (b : Bool) → exceeded x ≡ b → cond b (Some x) (first_exceeded ts) ≡ Some t
          → (first_exceeded ts ≡ Some t → P t × (exceeded t ≡ true)) → P t × (exceeded t ≡ true)
      go true g e ih = let q : x ≡ t = cc in subst (λ (y : Test). P y × (exceeded y ≡ true)) q (f.0, g)
      go false g e ih = ih e

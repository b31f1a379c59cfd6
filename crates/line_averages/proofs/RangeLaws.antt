-- The limits of the tests due, and tests and sums within their ranges.
use mathlib.Core.Path.{◌≡◌, refl, sym, subst⁻¹}
use mathlib.Core.List.{List}
use Rattle.std.specs.Prelude.{Option, Some, None, ◌≤ℤ◌}
use Prim.Native.Nat.{ℕ, ◌+◌, ◌*◌, ◌≤◌, ◌<◌}
use native.Mathlib.Nat.{le_trans, mul-le-mul_left, mul-le-mul_right}
use native.Mathlib.Omega.{arith}
use lib.Dec.{T, leb}
use lib.IntN.{pos, neg_ℤ}
use Rattle.std.proofs.lemmas.Int.{ints}
use Rattle.station_rules.specs.Rows.{line_count, limits_of}
use Rattle.station_rules.proofs.RowFacts.{row_facts}
use Rattle.station_rules.proofs.DueTests.{OfLimits, due_each, first_each}
use Rattle.station_rules.specs.Lines.{LinePhase, test_of, plus, tests_by, first_exceeded}
use Rattle.station_rules.specs.declared.Limits.{Limits}
use Rattle.station_rules.specs.declared.Set.{Set}
use Rattle.station_rules.specs.declared.Test.{Test}
use Rattle.station_rules.specs.declared.PastSet.{PastSet}
use Rattle.line_past.specs.Ranges.{SetsOf}
use Rattle.line_past.proofs.RangeLaws.{of_more}
use Rattle.line_averages.specs.Ranges.{TestFits, Limited, FoundLimited}

-- ---- the limits of the tests due

abbrev SmallLimit : Test → Type 0
SmallLimit t = t.limit ≤ 1000

-- the test found among them has such a limit
pub found_limited : (limits : Limits) (phase : LinePhase) (set : Set) (newest nonzero : List PastSet) {found : Option Test}
    → found ≡ first_exceeded (tests_by limits phase set newest nonzero) → Limited limits → FoundLimited found
found_limited limits phase set newest nonzero {found} e h = go found e
  where
    all : OfLimits SmallLimit limits set
    all = record { one = h.one; two = λ p. h.two; three = λ p q. h.three; five = λ p q r s. h.five; check = h.check }

    go : (o : Option Test) → o ≡ first_exceeded (tests_by limits phase set newest nonzero) → FoundLimited o
    go None g = tt
    go (Some t) g =
        let due = due_each SmallLimit limits set all phase newest nonzero in
        (first_each SmallLimit (tests_by limits phase set newest nonzero) t due (sym g)).0

-- the limits of a row's line are
pub limits_limited : (row line : ℕ) → line < line_count row → Limited (limits_of row line)
limits_limited row line here =
    let f = (row_facts row).line_limits line here in
    record { one = f.one.most; two = f.two.most; three = f.three.most; five = f.five.most; check = f.check.most }

-- ---- sums and tests within their ranges

pub product_le : (t : Test) → t.limit ≤ 1000 → TestFits t → t.limit * t.count ≤ 60000
product_le t l h = le_trans (mul-le-mul_left t.limit h.sets.few) (mul-le-mul_right 60 l)

-- the definition's own sum: its S lies between the sums of the bounds, its N is the sum of both
pub plus_joined : (set : Set) (p : PastSet) (low high less more : ℕ)
    → (neg_ℤ (pos low) ≤ℤ set.sum) × (set.sum ≤ℤ pos high)
    → (neg_ℤ (pos less) ≤ℤ p.sum) × (p.sum ≤ℤ pos more)
    → let r = plus set p in
    (neg_ℤ (pos (low + less)) ≤ℤ r.sum) × (r.sum ≤ℤ pos (high + more)) × (r.count ≡ set.count + p.count)
plus_joined set p low high less more s q = (omega (arith, ints, s.0, q.0), omega (arith, ints, s.1, q.1), refl)

-- one set more
pub join_fits : (k : ℕ) (set : Set) (p : PastSet) {r : Set} → SetsOf k set.sum set.count → SetsOf 1 p.sum p.count
    → r ≡ plus set p → SetsOf (k + 1) r.sum r.count
join_fits k set p s q e =
    subst⁻¹ (λ (r : Set). SetsOf (k + 1) r.sum r.count) e
    (record { within = record { over = omega (arith, ints); under = omega (arith, ints) }; few = omega arith })

pub join_some : (set : Set) (p : PastSet) {r : Set} → 1 ≤ set.count → r ≡ plus set p → 1 ≤ r.count
join_some set p h e = subst⁻¹ (λ (r : Set). 1 ≤ r.count) e (omega arith)

-- a test made of sets
pub test_fits : (limit k : ℕ) (set : Set) {t : Test} → t ≡ test_of limit set → limit ≤ 1000 → T (leb k 5)
    → SetsOf k set.sum set.count → 1 ≤ set.count → (t.limit ≤ 1000) × TestFits t
test_fits limit k set e h t s c =
    subst⁻¹ (λ (x : Test). (x.limit ≤ 1000) × TestFits x) e (h, record { sets = of_more k 5 t s; some = c })

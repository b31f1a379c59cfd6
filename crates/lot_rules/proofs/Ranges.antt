-- Numbers 29 and 30 of a lot, taken apart and put together: how many records, and a record's numbers in their ranges, which are not negative.
use mathlib.Core.Path.{◌≡◌, refl, ap, ◌∙◌}
use mathlib.Core.Bool.{Bool, false, ◌||◌}
use mathlib.Core.List.{List, [], ◌∷◌}
use Prim.Native.Nat.{ℕ, ◌≤◌}
use native.Mathlib.Omega.{arith}
use lib.Dec.{eqb, ltb}
use lib.IntN.{ℤ, pos, negsuc, nat_abs}
use lib.ListN.{length}
use lib.Signed.{lt_z, ◌≤ℤ◌}
use borrow.Author.Tests.{eqb-false, ltb-false, le-ltb}
use Rattle.std.specs.List.{All}
use Rattle.std.proofs.lemmas.Bool.Decides.{nat_tests}
use Rattle.std.proofs.lemmas.Int.{ints}
use Rattle.std.proofs.lemmas.List.Elements.{All-nil, All-cons, All-head, All-tail, All-weaker}
use Rattle.whole.specs.Lists.{any}
use Rattle.whole.proofs.Tests.{or_none}
use Rattle.lot_rules.specs.Lots.{outside, bad_size, bad_sublot}
use Rattle.lot_rules.specs.Laws.{InBounds}
use Rattle.lot_rules.specs.declared.Sublot.{Sublot}

-- ---- how many records

pub sized : (records : List Sublot) → bad_size records ≡ false → (1 ≤ length records) × (length records ≤ 500)
unfolding bad_size
sized records e =
    let t = or_none (eqb (length records) 0) (ltb 500 (length records)) e in
    (omega (arith, eqb-false (length records) 0 t.0), ltb-false 500 (length records) t.1)

pub size_fits : (records : List Sublot) → 1 ≤ length records → length records ≤ 500 → bad_size records ≡ false
unfolding bad_size
size_fits records h k = grind (arith, nat_tests)

-- ---- a number

pub record InRange (low high : ℕ) (z : ℤ) : Type 0 where
  pub is : pos (nat_abs z) ≡ z
  pub least : low ≤ nat_abs z
  pub most : nat_abs z ≤ high

pub in_range : (low high : ℕ) (z : ℤ) → outside low high z ≡ false → InRange low high z
in_range low high z e =
    let t = or_none (lt_z z (pos low)) (lt_z (pos high) z) e in
    record { is = omega (arith, ints); least = omega (arith, ints); most = omega (arith, ints) }

pub inside : (low high : ℕ) (z : ℤ) → pos low ≤ℤ z → z ≤ℤ pos high → outside low high z ≡ false
inside low high (pos n) h k = rw (le-ltb n low (omega (arith, ints, h)), le-ltb high n (omega (arith, ints, k)))
inside low high (negsuc n) h k = absurd (omega (arith, ints, h))

-- ---- a record

pub record Good (r : Sublot) : Type 0 where
  pub tonnes : InRange 1 1000000 r.tonnes
  pub figure : InRange 0 1000 r.figure
  pub basis : InRange 0 5000 r.basis

pub good : (r : Sublot) → bad_sublot r ≡ false → Good r
unfolding bad_sublot
good r e =
    let t = or_none (outside 1 1000000 r.tonnes || outside 0 1000 r.figure) (outside 0 5000 r.basis) e in
    let u = or_none (outside 1 1000000 r.tonnes) (outside 0 1000 r.figure) t.0 in
    record { tonnes = in_range 1 1000000 r.tonnes u.0; figure = in_range 0 1000 r.figure u.1; basis = in_range 0 5000 r.basis t.1 }

-- ---- all records

pub all_good : (records : List Sublot) → any bad_sublot records ≡ false → All Good records
all_good [] e = All-nil Good
all_good (r ∷ rs) e = let t = or_none (bad_sublot r) (any bad_sublot rs) e in All-cons Good r rs (good r t.0) (all_good rs t.1)

within_bounds : (low high : ℕ) (z : ℤ) → InRange low high z → (pos low ≤ℤ z) × (z ≤ℤ pos high)
within_bounds low high z g = (omega (arith, ints, g.is, g.least), omega (arith, ints, g.is, g.most))

pub bounds_of : (records : List Sublot) → any bad_sublot records ≡ false → All InBounds records
bounds_of records e =
    All-weaker Good InBounds
    (λ r g. record {
      tonnes = within_bounds 1 1000000 r.tonnes g.tonnes;
      figure = within_bounds 0 1000 r.figure g.figure;
      basis = within_bounds 0 5000 r.basis g.basis;
    })
    records (all_good records e)

pub none_bad : (records : List Sublot) → All InBounds records → any bad_sublot records ≡ false
unfolding bad_sublot
none_bad [] h = refl
none_bad (r ∷ rs) h =
    let b = All-head InBounds r rs h in
    let fine : bad_sublot r ≡ false =
    rw (inside 1 1000000 r.tonnes b.tonnes.0 b.tonnes.1, inside 0 1000 r.figure b.figure.0 b.figure.1, inside 0 5000 r.basis b.basis.0 b.basis.1) in
    ap (λ (t : Bool). t || any bad_sublot rs) fine ∙ none_bad rs (All-tail InBounds r rs h)

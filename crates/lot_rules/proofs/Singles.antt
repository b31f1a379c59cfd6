-- A lot's single tonnes, taken record by record: how many they are, the sum of their figures, the lowest and the highest.
use mathlib.Core.Path.{◌≡◌, refl, sym, ap, ◌∙◌}
use mathlib.Core.Bool.{false}
use mathlib.Core.List.{List, [], ◌∷◌, ◌++◌, map, map-append}
use Prim.Native.Nat.{ℕ, zero, suc, ◌-◌, ◌*◌}
use native.Mathlib.Nat.{mul-suc}
use native.Mathlib.Omega.{arith}
use lib.IntN.{ℤ, pos, nat_abs, ◌+ℤ◌}
use lib.ListN.{length, replicate, length-replicate}
use lib.LanesLaws.{map-replicate}
use Rattle.std.specs.List.{sum_by}
use Rattle.std.proofs.lemmas.Int.{ints}
use Rattle.std.proofs.lemmas.List.Concat.{length-flat_map}
use Rattle.std.proofs.lemmas.List.Sums.{sum_by-cons}
use Rattle.whole.specs.Lists.{any, total, larger_of, smaller_of, largest, smallest}
use Rattle.whole.proofs.ListLaws.{larger_again, smaller_again}
use Rattle.whole.proofs.Tests.{or_none}
use Rattle.lot_rules.specs.Lots.{one_tonne, single_tonnes, singles_of, figure_of, bad_sublot}
use Rattle.lot_rules.specs.Laws.{tonnes_in, weight_of}
use Rattle.lot_rules.specs.declared.Sublot.{Sublot}
use Rattle.lot_rules.proofs.Ranges.{good}

-- ---- how many

pub count_is : (records : List Sublot) → length (singles_of records) ≡ sum_by tonnes_in records
unfolding singles_of single_tonnes
count_is records = length-flat_map single_tonnes records ∙ (λ i. sum_by (λ r. length-replicate (tonnes_in r) (one_tonne r) i) records)

-- ---- their figures

abbrev pub figures : List Sublot → List ℤ
figures records = map figure_of (singles_of records)

-- a record's figure as many times as it has tonnes
figures_more : (r : Sublot) (rs : List Sublot) → figures (r ∷ rs) ≡ replicate (tonnes_in r) r.figure ++ figures rs
unfolding singles_of single_tonnes
figures_more r rs =
    map-append figure_of (single_tonnes r) (singles_of rs)
    ∙ ap (λ (l : List ℤ). l ++ figures rs) (map-replicate figure_of (tonnes_in r) (one_tonne r))

-- ---- the sum

total_alike : (n f : ℕ) (l : List ℤ) → total (replicate n (pos f) ++ l) ≡ pos (f * n) +ℤ total l
total_alike zero f l = omega (arith, ints)
total_alike (suc n) f l = omega (arith, ints, total_alike n f l, mul-suc f n)

pub sum_is : (records : List Sublot) → any bad_sublot records ≡ false → total (figures records) ≡ pos (sum_by weight_of records)
unfolding singles_of
sum_is [] e = refl
sum_is (r ∷ rs) e =
    let t = or_none (bad_sublot r) (any bad_sublot rs) e in
    let g = good r t.0 in
    ap total (figures_more r rs)
    ∙ ap (λ (z : ℤ). total (replicate (tonnes_in r) z ++ figures rs)) (sym g.figure.is)
    ∙ total_alike (tonnes_in r) (nat_abs r.figure) (figures rs)
    ∙ ap (λ (z : ℤ). pos (weight_of r) +ℤ z) (sum_is rs t.1)
    ∙ ap pos (sym (sum_by-cons weight_of r rs))

-- ---- a record that is good has a first tonne

pub first_tonne : (r : Sublot) (rs : List Sublot) → bad_sublot r ≡ false → singles_of (r ∷ rs) ≡ one_tonne r ∷ (replicate (tonnes_in r - 1) (one_tonne r) ++ singles_of rs)
unfolding singles_of single_tonnes
first_tonne r rs e =
    let some : tonnes_in r ≡ suc (tonnes_in r - 1) = omega (arith, (good r e).tonnes.least) in
    ap (λ (n : ℕ). replicate n (one_tonne r) ++ singles_of rs) some

starts : (r : Sublot) (rs : List Sublot) → bad_sublot r ≡ false → figures (r ∷ rs) ≡ r.figure ∷ (replicate (tonnes_in r - 1) r.figure ++ figures rs)
starts r rs e =
    let n = tonnes_in r - 1 in
    ap (map figure_of) (first_tonne r rs e)
    ∙ ap (λ (l : List ℤ). r.figure ∷ l) (map-append figure_of (replicate n (one_tonne r)) (singles_of rs) ∙ ap (λ (l : List ℤ). l ++ figures rs) (map-replicate figure_of n (one_tonne r)))

-- ---- the lowest and the highest: a figure counts once or many times

-- stated once, for smaller_of and larger_of
module _ (op : ℤ → ℤ → ℤ) (ext : List ℤ → ℤ) (more : (x y : ℤ) (l : List ℤ) → ext (x ∷ y ∷ l) ≡ op x (ext (y ∷ l)))
    (again : (x : ℤ) (l : List ℤ) → op x (ext (x ∷ l)) ≡ ext (x ∷ l)) where
  many : (n : ℕ) (x : ℤ) (l : List ℤ) → ext (x ∷ (replicate n x ++ l)) ≡ ext (x ∷ l)
  many zero x l = refl
  many (suc n) x l = more x x (replicate n x ++ l) ∙ ap (op x) (many n x l) ∙ again x l

  first_of : (r : Sublot) (rs : List Sublot) → bad_sublot r ≡ false → ext (figures (r ∷ rs)) ≡ ext (r.figure ∷ figures rs)
  first_of r rs e = ap ext (starts r rs e) ∙ many (tonnes_in r - 1) r.figure (figures rs)

  ext_is : (records : List Sublot) → any bad_sublot records ≡ false → ext (figures records) ≡ ext (map figure_of records)
  unfolding singles_of
  ext_is [] e = refl
  ext_is (r ∷ []) e = first_of r [] (or_none (bad_sublot r) false e).0
  ext_is (r ∷ q ∷ rs) e =
      let t = or_none (bad_sublot r) (any bad_sublot (q ∷ rs)) e in
      let u = or_none (bad_sublot q) (any bad_sublot rs) t.1 in
      let x = r.figure in
      let l = replicate (tonnes_in q - 1) q.figure ++ figures rs in
      first_of r (q ∷ rs) t.0
      ∙ ap (λ (k : List ℤ). ext (x ∷ k)) (starts q rs u.0)
      ∙ more x q.figure l
      ∙ ap (op x) (sym (ap ext (starts q rs u.0)) ∙ ext_is (q ∷ rs) t.1)
      ∙ sym (more x q.figure (map figure_of rs))

pub lowest_is : (records : List Sublot) → any bad_sublot records ≡ false → smallest (figures records) ≡ smallest (map figure_of records)
lowest_is = ext_is smaller_of smallest (λ x y l. refl) smaller_again

pub highest_is : (records : List Sublot) → any bad_sublot records ≡ false → largest (figures records) ≡ largest (map figure_of records)
highest_is = ext_is larger_of largest (λ x y l. refl) larger_again

-- The same lot has the same statement, or the same refusal: its records in another order, or a sublot of it split.
use mathlib.Core.Path.{◌≡◌, refl, sym, ap, ap₂, ◌∙◌}
use mathlib.Core.Bool.{Bool, false, not, ◌||◌, cond}
use mathlib.Core.List.{List, [], ◌∷◌, ◌++◌, map, Permᴰ}
use Prim.Native.Nat.{ℕ, suc, ◌+◌, ◌≤◌}
use native.Mathlib.Nat.{add_left_comm}
use native.Mathlib.Omega.{arith}
use lib.Dec.{eqb, ltb}
use lib.IntN.{ℤ, pos, nat_abs}
use lib.ListN.{length, get_or, replicate, length-append}
use lib.Signed.{◌≤ℤ◌}
use Rattle.std.specs.List.{All, sum_by}
use Rattle.std.specs.Ordering.{int_eq}
use Rattle.std.specs.Prelude.{Result, Ok, Err}
use Rattle.std.proofs.lemmas.Int.{ints}
use Rattle.std.proofs.lemmas.List.{replicate-append-replicate}
use Rattle.std.proofs.lemmas.List.Concat.{flat_map-append}
use Rattle.std.proofs.lemmas.List.Elements.{All-head, All-tail}
use Rattle.std.proofs.lemmas.List.Folds.{list_any-append}
use Rattle.std.proofs.lemmas.List.Sums.{sum_by-cons, get_or-le-sum_by}
use Rattle.whole.specs.Lists.{any, total}
use Rattle.whole.specs.Rounding.{nearest_tenth}
use Rattle.whole.proofs.ListLaws.{by_test}
use Rattle.whole.proofs.OrderLaws.{fold_order, any_order, length_order, largest_order, smallest_order}
use Rattle.whole.proofs.Tests.{or_none}
use Rattle.lot_rules.specs.Lots.{one_tonne, single_tonnes, singles_of, figure_of, basis_of, statement_of, bad_size, bad_sublot, outside, unlike_basis, lot_checks, lot_of}
use Rattle.lot_rules.specs.Laws.{tonnes_in, weight_of, by_records, SplitInto, SameLot}
use Rattle.lot_rules.specs.declared.Sublot.{Sublot}
use Rattle.lot_rules.specs.declared.Statement.{Statement}
use Rattle.lot_rules.specs.declared.Refusal.{Refusal}
use Rattle.lot_rules.specs.declared.Refusal.TheVariants.{LotSize, BadSublot, UnlikeBasis}
use Rattle.lot_rules.proofs.Ranges.{size_fits, InRange, in_range, inside}
use Rattle.lot_rules.proofs.Bases.{other_basis, same_basis}
use Rattle.lot_rules.proofs.Exact.{statement_is}

-- ---- another order

module _ {l k : List Sublot} (d : Permᴰ l k) where
  sum_order : (f : Sublot → ℕ) → sum_by f l ≡ sum_by f k
  sum_order f = fold_order f ◌+◌ add_left_comm (sum_by f) (sum_by-cons f) d

  unlike_order : unlike_basis l ≡ unlike_basis k
  unfolding unlike_basis
  unlike_order =
      ap (λ (p : Sublot → Bool). any p l) (λ i r. any_order (λ q. other_basis r.basis q) d i)
      ∙ any_order (λ r. any (λ q. other_basis r.basis q) k) d

  size_order : bad_size l ≡ bad_size k
  unfolding bad_size
  size_order = ap (λ (n : ℕ). eqb n 0 || ltb 500 n) (length_order d)

of_first : (r : Sublot) (l : List Sublot) → unlike_basis (r ∷ l) ≡ false → any (other_basis r.basis) (r ∷ l) ≡ false
unfolding unlike_basis
of_first r l e = (or_none (any (other_basis r.basis) (r ∷ l)) (any (λ q. any (other_basis q.basis) (r ∷ l)) l) e).0

-- of one basis all, the first of the one list has the basis of the first of the other
basis_order : (l k : List Sublot) → Permᴰ l k → unlike_basis l ≡ false → basis_of l ≡ basis_of k
unfolding basis_of
basis_order [] [] d e = refl
basis_order [] (q ∷ k) d e = absurd (omega (arith, length_order d))
basis_order (r ∷ l) [] d e = absurd (omega (arith, length_order d))
basis_order (r ∷ l) (q ∷ k) d e =
    let same : any (other_basis r.basis) (q ∷ k) ≡ false = sym (any_order (other_basis r.basis) d) ∙ of_first r l e in
    sym (same_basis r.basis q (or_none (other_basis r.basis q) (any (other_basis r.basis) k) same).0)

records_order : (l k : List Sublot) → Permᴰ l k → unlike_basis l ≡ false → by_records l ≡ by_records k
unfolding by_records
records_order l k d e i =
    record {
      basis = basis_order l k d e i;
      lowest = nat_abs (smallest_order figure_of d i);
      highest = nat_abs (largest_order figure_of d i);
      tonnes = sum_order d tonnes_in i;
      weighted_sum = sum_order d weight_of i;
      mean = nearest_tenth (sum_order d weight_of i) (sum_order d tonnes_in i);
    }

order : (l k : List Sublot) → Permᴰ l k → lot_of l ≡ lot_of k
unfolding lot_of lot_checks
order l k d =
    let s = statement_of (singles_of l) in
    let t = statement_of (singles_of k) in
    let bad : any bad_sublot l ≡ any bad_sublot k = any_order bad_sublot d in
    (λ i. cond (size_order d i) (Err LotSize) (cond (bad i) (Err BadSublot) (cond (unlike_order d i) (Err UnlikeBasis) (Ok s))))
    ∙ ap (λ (r : Result Statement Refusal). cond (bad_size k) (Err LotSize) r)
    (by_test (any bad_sublot k) (λ b. (any bad_sublot k ≡ b) → cond b (Err BadSublot) (cond (unlike_basis k) (Err UnlikeBasis) (Ok s)) ≡ cond b (Err BadSublot) (cond (unlike_basis k) (Err UnlikeBasis) (Ok t))) (λ e f. refl)
    (λ e f.
    by_test (unlike_basis k) (λ u. cond u (Err UnlikeBasis) (Ok s) ≡ cond u (Err UnlikeBasis) (Ok t)) (λ g. refl)
    (λ g. ap Ok (statement_is l (bad ∙ e) ∙ records_order l k d (unlike_order d ∙ g) ∙ sym (statement_is k e)))) refl)

-- ---- a sublot split

-- one part, and the others
module _ (r : Sublot) where
  abbrev Alike : Sublot → Type 0
  Alike p = (p.figure ≡ r.figure) × (p.basis ≡ r.basis)

  abbrev HasTonnes : Sublot → Type 0
  HasTonnes p = pos 1 ≤ℤ p.tonnes

  abbrev tonnes : Sublot → ℤ
  tonnes p = p.tonnes

  -- the parts' tonnes are that many, and are like the sublot's
  parts_tonnes : (parts : List Sublot) → All Alike parts → singles_of parts ≡ replicate (sum_by tonnes_in parts) (one_tonne r)
  unfolding singles_of single_tonnes
  parts_tonnes [] a = refl
  parts_tonnes (p ∷ ps) a =
      let same = All-head Alike p ps a in
      let one : one_tonne p ≡ one_tonne r = λ i. record { figure = same.0 i; basis = same.1 i; tonnes = pos 1 } in
      ap₂ (λ (s : Sublot) (l : List Sublot). replicate (tonnes_in p) s ++ l) one (parts_tonnes ps (All-tail Alike p ps a))
      ∙ replicate-append-replicate (tonnes_in p) (sum_by tonnes_in ps) (one_tonne r)
      ∙ ap (λ (n : ℕ). replicate n (one_tonne r)) (sym (sum_by-cons tonnes_in p ps))

  parts_sum : (parts : List Sublot) → All HasTonnes parts → total (map tonnes parts) ≡ pos (sum_by tonnes_in parts)
  parts_sum [] s = refl
  parts_sum (p ∷ ps) s =
      let one = All-head HasTonnes p ps s in
      omega (arith, ints, one, parts_sum ps (All-tail HasTonnes p ps s), sum_by-cons tonnes_in p ps)

  -- 30 applies to a part, of up to a million tonnes, exactly where it applies to its sublot
  part_bad : (p : Sublot) → outside 1 1000000 r.tonnes ≡ false → Alike p → HasTonnes p → tonnes_in p ≤ 1000000 → bad_sublot p ≡ bad_sublot r
  unfolding bad_sublot
  part_bad p e a s h =
      let same : outside 1 1000000 p.tonnes ≡ outside 1 1000000 r.tonnes = inside 1 1000000 p.tonnes (omega (arith, ints, s)) (omega (arith, ints, s)) ∙ sym e in
      λ i. same i || outside 0 1000 (a.0 i) || outside 0 5000 (a.1 i)

-- a test that says of each part what it says of the sublot
module _ (test : Sublot → Bool) (b : Bool) where
  none_of : (parts : List Sublot) → All (λ p. test p ≡ b) parts → b ≡ false → any test parts ≡ false
  none_of [] a e = refl
  none_of (p ∷ ps) a e = ap (λ (t : Bool). t || any test ps) (All-head (λ p. test p ≡ b) p ps a ∙ e) ∙ none_of ps (All-tail (λ p. test p ≡ b) p ps a) e

  one_of : (parts : List Sublot) → 1 ≤ length parts → All (λ p. test p ≡ b) parts → any test parts ≡ b
  one_of [] h a = absurd (omega arith)
  one_of (p ∷ ps) h a =
      by_test b (λ t. any test (p ∷ ps) ≡ t)
      (λ e. ap (λ (t : Bool). t || any test ps) (All-head (λ p. test p ≡ b) p ps a ∙ e))
      (none_of (p ∷ ps) a)

module _ (before after parts : List Sublot) (r : Sublot) (fine : outside 1 1000000 r.tonnes ≡ false) (s : SplitInto r parts) where
  g : InRange 1 1000000 r.tonnes
  g = in_range 1 1000000 r.tonnes fine

  -- the parts' tonnes, as a natural number
  parts_in : sum_by tonnes_in parts ≡ tonnes_in r
  parts_in = omega (arith, ints, g.is, parts_sum r parts s.tonnes, s.together)

  some_parts : (l : List Sublot) → 1 ≤ sum_by tonnes_in l → 1 ≤ length l
  some_parts [] h = h
  some_parts (p ∷ l) h = omega arith

  parts_there : 1 ≤ length parts
  parts_there = some_parts parts (omega (arith, parts_in, g.least))

  abbrev split : List Sublot
  split = before ++ (parts ++ after)

  abbrev whole : List Sublot
  whole = before ++ (r ∷ after)

  same_tonnes : singles_of split ≡ singles_of whole
  unfolding singles_of single_tonnes
  same_tonnes =
      flat_map-append single_tonnes before (parts ++ after)
      ∙ ap (λ (l : List Sublot). singles_of before ++ l)
      (flat_map-append single_tonnes parts after
      ∙ ap (λ (l : List Sublot). l ++ singles_of after) (parts_tonnes r parts s.alike ∙ ap (λ (n : ℕ). replicate n (one_tonne r)) parts_in))
      ∙ sym (flat_map-append single_tonnes before (r ∷ after))

  -- a test that the parts pass as the sublot does
  same_any : (p : Sublot → Bool) → any p parts ≡ p r → any p split ≡ any p whole
  same_any p e =
      list_any-append p before (parts ++ after)
      ∙ ap (λ (t : Bool). any p before || t) (list_any-append p parts after ∙ ap (λ (t : Bool). t || any p after) e)
      ∙ sym (list_any-append p before (r ∷ after))

  same_bad : any bad_sublot split ≡ any bad_sublot whole
  same_bad =
      same_any bad_sublot
      (one_of bad_sublot (bad_sublot r) parts parts_there
      (λ k d h. part_bad r (get_or parts k d) fine (s.alike k d h) (s.tonnes k d h) (omega (arith, get_or-le-sum_by tonnes_in parts k d h, parts_in, g.most))))

  by_basis : (P : ℤ → Bool) → any (λ q. P q.basis) split ≡ any (λ q. P q.basis) whole
  by_basis P = same_any (λ q. P q.basis) (one_of (λ q. P q.basis) (P r.basis) parts parts_there (λ k d h. ap P (s.alike k d h).1))

  same_unlike : unlike_basis split ≡ unlike_basis whole
  unfolding unlike_basis
  same_unlike =
      ap (λ (p : Sublot → Bool). any p split) (λ i q. by_basis (λ b. not (int_eq b q.basis)) i)
      ∙ by_basis (λ b. any (other_basis b) whole)

  module _ (few : length split ≤ 500) where
    lengths : (length split ≡ length before + (length parts + length after)) × (length whole ≡ length before + suc (length after))
    lengths = (length-append before (parts ++ after) ∙ ap (λ (n : ℕ). length before + n) (length-append parts after), length-append before (r ∷ after))

    same_size : bad_size split ≡ bad_size whole
    same_size =
        size_fits split (omega (arith, lengths, parts_there)) few ∙ sym (size_fits whole (omega (arith, lengths)) (omega (arith, lengths, parts_there)))

    split_same : lot_of split ≡ lot_of whole
    unfolding lot_of lot_checks
    split_same i =
        cond (same_size i) (Err LotSize) (cond (same_bad i) (Err BadSublot) (cond (same_unlike i) (Err UnlikeBasis) (Ok (statement_of (same_tonnes i)))))

pub same_lot : SameLot
same_lot = record { order = order; split = split_same }

-- What is stated of the single tonnes is what the records come to, each taken once; which lots are stated; and what a statement says of its lot.
use mathlib.Core.Path.{◌≡◌, refl, sym, ap, ◌∙◌, subst}
use mathlib.Core.Bool.{Bool, false, cond}
use mathlib.Core.List.{List, [], ◌∷◌, map}
use Prim.Native.Nat.{ℕ, ◌*◌, ◌≤◌}
use native.Mathlib.Nat.{mul-le-mul_right, mul-add}
use native.Mathlib.Omega.{arith}
use lib.IntN.{ℤ, pos, nat_abs}
use lib.ListN.{length}
use lib.Signed.{◌≤ℤ◌}
use Rattle.std.specs.List.{All, sum_by}
use Rattle.std.specs.Prelude.{Ok, Err, IfOk}
use Rattle.std.proofs.lemmas.Result.{IfOk-at_ok}
use Rattle.std.proofs.lemmas.Int.{ints}
use Rattle.std.proofs.lemmas.List.Sums.{sum_by-cons, sum_by-le}
use Rattle.std.proofs.lemmas.List.Elements.{All-cons, All-nil, All-head, All-tail, All-map, All-weaker}
use Rattle.whole.specs.Bounds.{Within}
use Rattle.whole.specs.Lists.{any, smallest, largest}
use Rattle.whole.specs.Rounding.{nearest_tenth}
use Rattle.whole.proofs.ListLaws.{by_test, smallest_within, smallest_least, largest_most}
use Rattle.whole.proofs.Tests.{or_none}
use Rattle.whole.proofs.RoundLaws.{nearest_not_above, nearest_not_below, nearest_at_least, nearest_at_most}
use Rattle.lot_rules.specs.Lots.{singles_of, figure_of, basis_of, statement_of, bad_size, bad_sublot, unlike_basis, lot_checks, lot_of}
use Rattle.lot_rules.specs.Laws.{tonnes_in, weight_of, by_records, GoodLot, MeanBetween, SumsWithin, LotExact}
use Rattle.lot_rules.specs.declared.Sublot.{Sublot}
use Rattle.lot_rules.specs.declared.Statement.{Statement}
use Rattle.lot_rules.specs.declared.Refusal.TheVariants.{LotSize, BadSublot, UnlikeBasis}
use Rattle.lot_rules.proofs.Ranges.{Good, good, all_good, sized, size_fits, bounds_of, none_bad}
use Rattle.lot_rules.proofs.Singles.{count_is, sum_is, lowest_is, highest_is, first_tonne}
use Rattle.lot_rules.proofs.Bases.{unlike_first, all_at, none_other}

-- ---- the statement, record by record

basis_is : (records : List Sublot) → any bad_sublot records ≡ false → basis_of (singles_of records) ≡ basis_of records
unfolding basis_of singles_of
basis_is [] e = refl
basis_is (r ∷ rs) e = ap basis_of (first_tonne r rs (or_none (bad_sublot r) (any bad_sublot rs) e).0)

pub statement_is : (records : List Sublot) → any bad_sublot records ≡ false → statement_of (singles_of records) ≡ by_records records
unfolding statement_of by_records
statement_is records e i =
    let sum = ap nat_abs (sum_is records e) in
    record {
      basis = basis_is records e i;
      lowest = nat_abs (lowest_is records e i);
      highest = nat_abs (highest_is records e i);
      tonnes = count_is records i;
      weighted_sum = sum i;
      mean = nearest_tenth (sum i) (count_is records i);
    }

-- ---- what the checks leave

record Accepted (records : List Sublot) : Type 0 where
  pub some : 1 ≤ length records
  pub few : length records ≤ 500
  pub good : any bad_sublot records ≡ false
  pub alike : unlike_basis records ≡ false

accepted : (records : List Sublot) → bad_size records ≡ false → any bad_sublot records ≡ false → unlike_basis records ≡ false → Accepted records
accepted records e f g = let n = sized records e in record { some = n.0; few = n.1; good = f; alike = g }

-- ---- sums, and the mean between lowest and highest

-- terms that are no larger have a sum that is no larger
sums_rise : (f g : Sublot → ℕ) (records : List Sublot) → All (λ r. f r ≤ g r) records → sum_by f records ≤ sum_by g records
sums_rise f g [] h = omega arith
sums_rise f g (r ∷ rs) h =
    let one = All-head (λ (r : Sublot). f r ≤ g r) r rs h in
    omega (arith, one, sums_rise f g rs (All-tail (λ (r : Sublot). f r ≤ g r) r rs h), sum_by-cons f r rs, sum_by-cons g r rs)

-- one figure for all the tonnes
at_one_figure : (figure : ℕ) (records : List Sublot) → sum_by (λ r. figure * tonnes_in r) records ≡ figure * sum_by tonnes_in records
at_one_figure figure [] = omega arith
at_one_figure figure (r ∷ rs) =
    omega (arith, at_one_figure figure rs, sum_by-cons (λ r. figure * tonnes_in r) r rs, ap (λ (n : ℕ). figure * n) (sum_by-cons tonnes_in r rs), mul-add figure (tonnes_in r) (sum_by tonnes_in rs))

-- each record has from one tonne to a million, and a figure of at most 1000
tonnes_at_least : (records : List Sublot) → any bad_sublot records ≡ false → length records ≤ sum_by tonnes_in records
tonnes_at_least [] e = omega arith
tonnes_at_least (r ∷ rs) e =
    let t = or_none (bad_sublot r) (any bad_sublot rs) e in
    omega (arith, (good r t.0).tonnes.least, tonnes_at_least rs t.1, sum_by-cons tonnes_in r rs)

tonnes_at_most : (records : List Sublot) → any bad_sublot records ≡ false → sum_by tonnes_in records ≤ length records * 1000000
tonnes_at_most records e = sum_by-le tonnes_in 1000000 records (All-weaker Good (λ r. tonnes_in r ≤ 1000000) (λ r g. g.tonnes.most) records (all_good records e))

weight_at_most : (records : List Sublot) → any bad_sublot records ≡ false → sum_by weight_of records ≤ 1000 * sum_by tonnes_in records
weight_at_most records e =
    let rise = sums_rise weight_of (λ r. 1000 * tonnes_in r) records (All-weaker Good (λ r. weight_of r ≤ 1000 * tonnes_in r) (λ r g. mul-le-mul_right (tonnes_in r) g.figure.most) records (all_good records e)) in
    omega (arith, rise, at_one_figure 1000 records)

figures_in : (records : List Sublot) → any bad_sublot records ≡ false → All (Within 0 1000) (map figure_of records)
figures_in records e =
    All-map (Within 0 1000) figure_of records
    (All-weaker Good (λ r. Within 0 1000 r.figure) (λ r g. record { over = omega (arith, ints, g.figure.is); under = omega (arith, ints, g.figure.is, g.figure.most) }) records (all_good records e))

-- what holds of the figures as whole numbers, said of their natural numbers
of_figures : (P : ℤ → Type 0) (Q : ℕ → Type 0) → ((n : ℕ) → P (pos n) → Q n) → (records : List Sublot) → any bad_sublot records ≡ false
    → All P (map figure_of records) → All (λ r. Q (nat_abs r.figure)) records
of_figures P Q f [] e h = All-nil (λ (r : Sublot). Q (nat_abs r.figure))
of_figures P Q f (r ∷ rs) e h =
    let t = or_none (bad_sublot r) (any bad_sublot rs) e in
    All-cons (λ (r : Sublot). Q (nat_abs r.figure)) r rs
    (f (nat_abs r.figure) (subst P (sym (good r t.0).figure.is) (All-head P r.figure (map figure_of rs) h)))
    (of_figures P Q f rs t.1 (All-tail P r.figure (map figure_of rs) h))

-- all records have the basis of the first
bases : (records : List Sublot) → 1 ≤ length records → unlike_basis records ≡ false → All (λ r. r.basis ≡ basis_of records) records
unfolding basis_of
bases [] h e = absurd (omega arith)
bases (r ∷ rs) h e = All-cons (λ (q : Sublot). q.basis ≡ r.basis) r rs refl (all_at r.basis rs (sym (unlike_first r rs) ∙ e))

-- and where all have one, none is unlike another
alike : (records : List Sublot) (b : ℤ) → All (λ r. r.basis ≡ b) records → unlike_basis records ≡ false
unfolding unlike_basis
alike [] b h = refl
alike (r ∷ rs) b h =
    let is = All-head (λ (r : Sublot). r.basis ≡ b) r rs h in
    let others = All-tail (λ (r : Sublot). r.basis ≡ b) r rs h in
    unlike_first r rs ∙ none_other r.basis rs (λ k d l. others k d l ∙ sym is)

module _ (records : List Sublot) (a : Accepted records) where
  abbrev lowest : ℕ
  lowest = nat_abs (smallest (map figure_of records))

  abbrev highest : ℕ
  highest = nat_abs (largest (map figure_of records))

  abbrev t : ℕ
  t = sum_by tonnes_in records

  abbrev w : ℕ
  w = sum_by weight_of records

  some : 1 ≤ t
  some = omega (arith, a.some, tonnes_at_least records a.good)

  not_negative : pos 0 ≤ℤ smallest (map figure_of records)
  not_negative = omega (arith, ints, (smallest_within 0 1000 (map figure_of records) (figures_in records a.good)).over)

  least : lowest * t ≤ w
  least =
      let each = of_figures (λ z. smallest (map figure_of records) ≤ℤ z) (λ n. lowest ≤ n) (λ n h. omega (arith, ints, h, not_negative)) records a.good (smallest_least (map figure_of records)) in
      let rise = sums_rise (λ r. lowest * tonnes_in r) weight_of records (All-weaker (λ r. lowest ≤ nat_abs r.figure) (λ r. lowest * tonnes_in r ≤ weight_of r) (λ r h. mul-le-mul_right (tonnes_in r) h) records each) in
      omega (arith, rise, at_one_figure lowest records)

  most : w ≤ highest * t
  most =
      let each = of_figures (λ z. z ≤ℤ largest (map figure_of records)) (λ n. n ≤ highest) (λ n h. omega (arith, ints, h)) records a.good (largest_most (map figure_of records)) in
      let rise = sums_rise weight_of (λ r. highest * tonnes_in r) records (All-weaker (λ r. nat_abs r.figure ≤ highest) (λ r. weight_of r ≤ highest * tonnes_in r) (λ r h. mul-le-mul_right (tonnes_in r) h) records each) in
      omega (arith, rise, at_one_figure highest records)

  good_lot : GoodLot records (basis_of records)
  good_lot = record { size = (a.some, a.few); bounds = bounds_of records a.good; one_basis = bases records a.some a.alike }

  between : MeanBetween (by_records records)
  unfolding by_records
  between =
      record {
        lowest = nearest_at_least w t lowest some least;
        highest = nearest_at_most w t highest some most;
        not_above = nearest_not_above w t;
        not_below = nearest_not_below w t some;
      }

  sums : SumsWithin (by_records records)
  unfolding by_records
  sums =
      record {
        some_tonnes = some;
        most_tonnes = omega (arith, a.few, tonnes_at_most records a.good);
        most_weight = omega (arith, a.few, tonnes_at_most records a.good, weight_at_most records a.good);
      }

-- ---- which lots are stated

-- a statement is answered where no check applies, and it is what the records come to
record Stated (records : List Sublot) (s : Statement) : Type 0 where
  pub accepted : Accepted records
  pub is : by_records records ≡ s

stated : (records : List Sublot) → IfOk (lot_of records) (Stated records)
unfolding lot_of lot_checks
stated records =
    let s = statement_of (singles_of records) in
    let P = Stated records in
    by_test (bad_size records) (λ t. IfOk (cond t (Err LotSize) (cond (any bad_sublot records) (Err BadSublot) (cond (unlike_basis records) (Err UnlikeBasis) (Ok s)))) P) (λ e. tt)
    (λ e.
    by_test (any bad_sublot records) (λ t. IfOk (cond t (Err BadSublot) (cond (unlike_basis records) (Err UnlikeBasis) (Ok s))) P) (λ f. tt)
    (λ f.
    by_test (unlike_basis records) (λ t. IfOk (cond t (Err UnlikeBasis) (Ok s)) P) (λ g. tt)
    (λ g. record { accepted = accepted records e f g; is = sym (statement_is records f) })))

good_is_stated : (records : List Sublot) (b : ℤ) → GoodLot records b → lot_of records ≡ Ok (by_records records)
unfolding lot_of lot_checks
good_is_stated records b g =
    let bad = none_bad records g.bounds in
    let s = statement_of (singles_of records) in
    ap (λ (t : Bool). cond t (Err LotSize) (cond (any bad_sublot records) (Err BadSublot) (cond (unlike_basis records) (Err UnlikeBasis) (Ok s)))) (size_fits records g.size.0 g.size.1)
    ∙ ap (λ (t : Bool). cond t (Err BadSublot) (cond (unlike_basis records) (Err UnlikeBasis) (Ok s))) bad
    ∙ ap (λ (t : Bool). cond t (Err UnlikeBasis) (Ok s)) (alike records b g.one_basis)
    ∙ ap Ok (statement_is records bad)

pub lot_exact : LotExact
unfolding by_records
lot_exact =
    record {
      exactly = λ records s. (
        λ e. let h = IfOk-at_ok (Stated records) e (stated records) in (subst (λ (s : Statement). GoodLot records s.basis) h.is (good_lot records h.accepted), sym h.is),
        λ g. good_is_stated records s.basis g.0 ∙ ap Ok (sym g.1),
      );
      mean = λ records s e. let h = IfOk-at_ok (Stated records) e (stated records) in subst MeanBetween h.is (between records h.accepted);
      sums = λ records s e. let h = IfOk-at_ok (Stated records) e (stated records) in subst SumsWithin h.is (sums records h.accepted);
    }

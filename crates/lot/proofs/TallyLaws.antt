-- The tally of a lot's records gives the statement of its single tonnes; and the loop that carries it.
use mathlib.Core.Path.{◌≡◌, refl, sym, ap, ◌∙◌}
use mathlib.Core.Bool.{Bool, true, false, ◌||◌, cond, or_assoc}
use mathlib.Core.List.{List, [], ◌∷◌, map}
use Prim.Native.Nat.{ℕ, ◌+◌, ◌*◌, ◌≤◌, ◌<◌, min, max}
use native.Mathlib.Nat.{mul-le-mul_right}
use native.Mathlib.Omega.{arith}
use lib.IntN.{ℤ, pos, nat_abs}
use lib.ListN.{length, get_or, drop}
use Rattle.std.specs.List.{fold, sum_by}
use Rattle.std.specs.Prelude.{Result, Ok, Err, MatchResult}
use Rattle.std.proofs.lemmas.Int.{ints}
use Rattle.std.proofs.lemmas.List.{drop_more, drop_all}
use Rattle.whole.specs.Lists.{any, larger_of, smaller_of, smallest, largest}
use Rattle.whole.specs.Rounding.{nearest_tenth}
use Rattle.whole.proofs.ListLaws.{by_test, larger_is, smaller_is, largest_from, smallest_from}
use Rattle.whole.proofs.Tests.{or_none, or_false}
use Rattle.whole.proofs.RoundLaws.{nearest_at_most}
use Rattle.lot_rules.specs.Lots.{singles_of, figure_of, basis_of, statement_of, bad_size, bad_sublot, unlike_basis, lot_checks, lot_of}
use Rattle.lot_rules.specs.Laws.{tonnes_in, weight_of, by_records}
use Rattle.lot_rules.specs.declared.Sublot.{Sublot}
use Rattle.lot_rules.specs.declared.Statement.{Statement}
use Rattle.lot_rules.specs.declared.Refusal.{Refusal}
use Rattle.lot_rules.specs.declared.Refusal.TheVariants.{LotSize, BadSublot, UnlikeBasis}
use Rattle.lot_rules.proofs.Ranges.{good, sized}
use Rattle.lot_rules.proofs.Bases.{other_basis, its_own, unlike_first}
use Rattle.lot_rules.proofs.Exact.{statement_is}
use Rattle.lot.specs.Tallies.{no_record, added, with_record, statement_by, stated}
use Rattle.lot.specs.declared.Tally.{Tally}

-- ---- all records tallied

-- the answer where these records are still to come
pub answer_from : Tally → List Sublot → Result Statement Refusal
answer_from t [] = stated t
answer_from t (r ∷ rs) = cond (bad_sublot r) (Err BadSublot) (answer_from (added t r) rs)

abbrev lower : ℕ → Sublot → ℕ
lower b r = min b (nat_abs r.figure)

abbrev higher : ℕ → Sublot → ℕ
higher b r = max b (nat_abs r.figure)

-- a number out of its bounds, else what the whole tally states
answer_is : (t : Tally) (rs : List Sublot) → answer_from t rs ≡ cond (any bad_sublot rs) (Err BadSublot) (stated (fold added t rs))
unfolding answer_from
answer_is t [] = refl
answer_is t (r ∷ rs) =
    by_test (bad_sublot r) (λ b. cond b (Err BadSublot) (answer_from (added t r) rs) ≡ cond (b || any bad_sublot rs) (Err BadSublot) (stated (fold added (added t r) rs)))
    (λ e. refl) (λ e. answer_is (added t r) rs)

tally_is : (t : Tally) (rs : List Sublot)
    → fold added t rs ≡ record {
      basis = t.basis;
      unlike = t.unlike || any (other_basis t.basis) rs;
      lowest = fold lower t.lowest rs;
      highest = fold higher t.highest rs;
      tonnes = fold (λ n r. n + tonnes_in r) t.tonnes rs;
      weighted_sum = fold (λ n r. n + weight_of r) t.weighted_sum rs;
    }
unfolding added
tally_is t [] = λ i. record {
  basis = t.basis;
  unlike = sym (or_false t.unlike) i;
  lowest = t.lowest;
  highest = t.highest;
  tonnes = t.tonnes;
  weighted_sum = t.weighted_sum;
}
tally_is t (r ∷ rs) =
    tally_is (added t r) rs
    ∙ (λ i. record {
      basis = t.basis;
      unlike = or_assoc t.unlike (other_basis t.basis r) (any (other_basis t.basis) rs) i;
      lowest = fold lower (min t.lowest (nat_abs r.figure)) rs;
      highest = fold higher (max t.highest (nat_abs r.figure)) rs;
      tonnes = fold (λ n r. n + tonnes_in r) (t.tonnes + tonnes_in r) rs;
      weighted_sum = fold (λ n r. n + weight_of r) (t.weighted_sum + weight_of r) rs;
    })

-- ---- the lowest and the highest

-- stated once, for the lower of two and the higher: chosen among natural numbers as the tally has them, and among whole numbers as the rules do
module _ (choose : ℕ → ℕ → ℕ) (op : ℤ → ℤ → ℤ) (agree : (b : ℕ) (z : ℤ) → pos (nat_abs z) ≡ z → pos (choose b (nat_abs z)) ≡ op (pos b) z)
    (ext : List ℤ → ℤ) (from : (x : ℤ) (rs : List Sublot) → fold (λ (b : ℤ) (r : Sublot). op b (figure_of r)) x rs ≡ ext (x ∷ map figure_of rs)) where
  abbrev chosen : ℕ → Sublot → ℕ
  chosen b r = choose b (nat_abs r.figure)

  abbrev in_rules : ℤ → List Sublot → ℤ
  in_rules x rs = fold (λ (b : ℤ) (r : Sublot). op b (figure_of r)) x rs

  chosen_from : (b : ℕ) (rs : List Sublot) → any bad_sublot rs ≡ false → pos (fold chosen b rs) ≡ in_rules (pos b) rs
  chosen_from b [] e = refl
  chosen_from b (r ∷ rs) e =
      let t = or_none (bad_sublot r) (any bad_sublot rs) e in
      chosen_from (choose b (nat_abs r.figure)) rs t.1 ∙ ap (λ (z : ℤ). in_rules z rs) (agree b r.figure (good r t.0).figure.is)

  -- the first record replaces what it starts from
  chosen_all : (start : ℕ) (r : Sublot) (rs : List Sublot) → choose start (nat_abs r.figure) ≡ nat_abs r.figure → any bad_sublot (r ∷ rs) ≡ false
      → fold chosen start (r ∷ rs) ≡ nat_abs (ext (map figure_of (r ∷ rs)))
  chosen_all start r rs first e =
      let t = or_none (bad_sublot r) (any bad_sublot rs) e in
      ap nat_abs
      (ap (λ (n : ℕ). pos (fold chosen n rs)) first ∙ chosen_from (nat_abs r.figure) rs t.1
      ∙ ap (λ (z : ℤ). in_rules z rs) (good r t.0).figure.is ∙ from r.figure rs)

lowest_all : (r : Sublot) (rs : List Sublot) → any bad_sublot (r ∷ rs) ≡ false → fold lower 1000 (r ∷ rs) ≡ nat_abs (smallest (map figure_of (r ∷ rs)))
lowest_all r rs e =
    let f = (good r (or_none (bad_sublot r) (any bad_sublot rs) e).0).figure in
    chosen_all min smaller_of (λ b z is. omega (arith, ints, smaller_is (pos b) z, is)) smallest (smallest_from figure_of) 1000 r rs (omega (arith, f.most)) e

highest_all : (r : Sublot) (rs : List Sublot) → any bad_sublot (r ∷ rs) ≡ false → fold higher 0 (r ∷ rs) ≡ nat_abs (largest (map figure_of (r ∷ rs)))
highest_all r rs e = chosen_all max larger_of (λ b z is. omega (arith, ints, larger_is (pos b) z, is)) largest (largest_from figure_of) 0 r rs (omega arith) e

-- ---- the answer

-- the mean's tenth is at most 1000, as every figure is
pub mean_fits : {sum tonnes : ℕ} → 1 ≤ tonnes → sum ≤ 1000 * tonnes → nearest_tenth sum tonnes ≤ 1000
mean_fits {sum} {tonnes} some h = nearest_at_most sum tonnes 1000 some h

-- the answer of a lot to which 29 does not apply
tallied : (r : Sublot) (rs : List Sublot) → bad_size (r ∷ rs) ≡ false → answer_from (no_record r.basis) (r ∷ rs) ≡ lot_of (r ∷ rs)
unfolding lot_of lot_checks stated by_records basis_of
tallied r rs e =
    let records = r ∷ rs in
    answer_is (no_record r.basis) records
    ∙ by_test (any bad_sublot records) (λ b. cond b (Err BadSublot) (stated (fold added (no_record r.basis) records)) ≡ cond b (Err BadSublot) (cond (unlike_basis records) (Err UnlikeBasis) (Ok (statement_of (singles_of records)))))
    (λ f. refl)
    (λ f.
    ap stated (tally_is (no_record r.basis) records)
    ∙ (λ i. cond (unlike i) (Err UnlikeBasis) (Ok (by_tally f i)))
    ∙ ap (λ (s : Statement). cond (unlike_basis records) (Err UnlikeBasis) (Ok s)) (sym (statement_is records f)))
    ∙ ap (λ (b : Bool). cond b (Err LotSize) (cond (any bad_sublot records) (Err BadSublot) (cond (unlike_basis records) (Err UnlikeBasis) (Ok (statement_of (singles_of records)))))) (sym e)
  where
    unlike : any (other_basis r.basis) (r ∷ rs) ≡ unlike_basis (r ∷ rs)
    unlike = ap (λ (t : Bool). t || any (other_basis r.basis) rs) (its_own r) ∙ sym (unlike_first r rs)

    by_tally : any bad_sublot (r ∷ rs) ≡ false → statement_by (record {
      basis = r.basis;
      unlike = any (other_basis r.basis) (r ∷ rs);
      lowest = fold lower 1000 (r ∷ rs);
      highest = fold higher 0 (r ∷ rs);
      tonnes = sum_by tonnes_in (r ∷ rs);
      weighted_sum = sum_by weight_of (r ∷ rs);
    }) ≡ by_records (r ∷ rs)
    by_tally f i = record {
      basis = r.basis;
      lowest = lowest_all r rs f i;
      highest = highest_all r rs f i;
      tonnes = sum_by tonnes_in (r ∷ rs);
      weighted_sum = sum_by weight_of (r ∷ rs);
      mean = nearest_tenth (sum_by weight_of (r ∷ rs)) (sum_by tonnes_in (r ∷ rs));
    }

-- ---- the loop

-- with the records from the i-th on still to come
pub record Tallying (records : List Sublot) (i : ℕ) (t : Tally) : Type 0 where
  pub within : i ≤ length records
  pub few : length records ≤ 500
  pub answer : answer_from t (drop i records) ≡ lot_of records
  -- from one tonne to a million each, of a figure of at most 1000
  pub some : i ≤ t.tonnes
  pub most : t.tonnes ≤ 1000000 * i
  pub weight : t.weighted_sum ≤ 1000 * t.tonnes

-- no record or too many
pub wrong_size : (records : List Sublot) → bad_size records ≡ true → lot_of records ≡ Err LotSize
unfolding lot_of lot_checks
wrong_size records e = ap (λ (b : Bool). cond b (Err LotSize) (cond (any bad_sublot records) (Err BadSublot) (cond (unlike_basis records) (Err UnlikeBasis) (Ok (statement_of (singles_of records)))))) e

-- stands where a list has no record
abbrev pub none : Sublot
none = record { figure = pos 0; basis = pos 0; tonnes = pos 0 }

pub begun : (records : List Sublot) (b : ℤ) → b ≡ (get_or records 0 none).basis → bad_size records ≡ false → Tallying records 0 (no_record b)
begun [] b is e = absurd (omega (arith, sized [] e))
begun (r ∷ rs) b is e =
    record {
      within = omega arith;
      few = (sized (r ∷ rs) e).1;
      answer = ap (λ (z : ℤ). answer_from (no_record z) (r ∷ rs)) is ∙ tallied r rs e;
      some = omega arith;
      most = omega arith;
      weight = omega arith;
    }

module _ (records : List Sublot) (i : ℕ) (t : Tally) (g : Tallying records i t) where
  module _ (r : Sublot) (inside : i < length records) (read : r ≡ get_or records i r) where
    come : drop i records ≡ r ∷ drop (i + 1) records
    come = drop_more records i r inside ∙ ap (λ (x : Sublot). x ∷ drop (i + 1) records) (sym read)

    goes_on : bad_sublot r ≡ false → Tallying records (i + 1) (added t r)
    unfolding answer_from added
    goes_on e =
        let f = good r e in
        let w = mul-le-mul_right (tonnes_in r) f.figure.most in
        record {
          within = omega arith;
          few = g.few;
          answer = ap (λ (b : Bool). cond b (Err BadSublot) (answer_from (added t r) (drop (i + 1) records))) (sym e) ∙ ap (answer_from t) (sym come) ∙ g.answer;
          some = omega (arith, g.some, f.tonnes.least);
          most = omega (arith, g.most, f.tonnes.most);
          weight = omega (arith, g.weight, w);
        }

    stops : bad_sublot r ≡ true → lot_of records ≡ Err BadSublot
    unfolding answer_from
    stops e = sym g.answer ∙ ap (answer_from t) come ∙ ap (λ (b : Bool). cond b (Err BadSublot) (answer_from (added t r) (drop (i + 1) records))) e

    -- one record more: the loop goes on, or the lot is refused
    pub stepped : MatchResult (with_record t r) (Tallying records (i + 1)) (λ e. lot_of records ≡ Err e)
    unfolding with_record
    stepped = by_test (bad_sublot r) (λ b. MatchResult (cond b (Err BadSublot) (Ok (added t r))) (Tallying records (i + 1)) (λ e. lot_of records ≡ Err e)) stops goes_on

  pub done : length records ≤ i → stated t ≡ lot_of records
  unfolding answer_from
  done h = ap (answer_from t) (sym (drop_all i records h)) ∙ g.answer

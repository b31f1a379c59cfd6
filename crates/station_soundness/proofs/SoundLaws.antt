-- Soundness by its tests in the order in which they are made, and the past set by set.
use mathlib.Core.Path.{◌≡◌, refl, sym, ◌∙◌, ap, ap₂, subst}
use mathlib.Core.Bool.{Bool, true, false, ◌&&◌}
use mathlib.Core.List.{List, [], ◌∷◌, map}
use Prim.Native.Nat.{ℕ, zero, suc, ◌+◌, ◌-◌, ◌*◌, ◌/◌, ◌%◌, ◌≤◌, ◌<◌}
use native.Mathlib.Numerals.{add-one}
use native.Mathlib.Omega.{arith}
use lib.Dec.{eqb, leb, leb→le}
use lib.IntN.{ℤ, pos, nat_abs}
use borrow.Rule.Slice.PartMut.{mid_of}
use Rattle.std.specs.Simd.{first_chunks}
use Rattle.whole.proofs.Spelled.{elements, spelled}
use lib.ListN.{length, take, drop, get_or, drop_of_length-le}
use lib.Seq.{drop-cons}
use borrow.Author.Tests.{le-ltb, le-leb, lt-leb, eq-eqb, ne_eqb, eqb-true}
use Rattle.station_soundness.specs.Past.{sound_one, sound_kind}
use Rattle.std.proofs.lemmas.List.{take-map}
use Rattle.whole.specs.Lists.{all}
use Rattle.whole.proofs.Tests.{and_true, and_l, and_r, of_true}
use Rattle.std.proofs.lemmas.Bool.{and_parts}
use Rattle.station_rules.specs.Rows.{row_exists, samples, line_count}
use Rattle.station_rules.specs.Soundness.{days_fall, sound_set, sound_sets, sound_nonzero, sound_held, sound_line, sound}
use Rattle.station_rules.specs.declared.PastSet.{PastSet}
use Rattle.station_rules.specs.declared.Line.{Line}
use Rattle.station_rules.specs.Lines.{is_nonzero, sound_intercept}
use Rattle.station_rules.specs.Places.{set_at, line_in, station_in}
use Rattle.station_rules.specs.Held.{Station}

-- ---- the past from newest to oldest

and_false : (b : Bool) → b && false ≡ false
and_false true = refl
and_false false = refl

regroup : (ok a b f s : Bool) → (ok && (a && b)) && (f && s) ≡ ok && ((a && f) && (b && s))
regroup false a b f s = refl
regroup true false b f s = refl
regroup true true false f s = sym (and_false f)
regroup true true true f s = refl

-- a set in its three places
abbrev pub set_of : List ℤ → PastSet
set_of s = set_at s 0

module _ (zeros : Bool) (n last i : ℕ) (sets : List (List ℤ)) where
  -- past the last set nothing is left that could be wrong
  pub past_done : length sets ≤ i → true ≡ sound_kind zeros n last (map set_of (drop i sets))
  past_done h = sym (ap (λ (l : List (List ℤ)). sound_kind zeros n last (map set_of l)) (drop_of_length-le sets h))

  module _ (h : i < length sets) (p : PastSet) (is : p ≡ set_of (get_or sets i [])) where
    -- the next set and what is left after it decide
    next_decides : sound_kind zeros n last (map set_of (drop i sets)) ≡ (leb p.day last && sound_one zeros n p) && sound_kind zeros n p.day (map set_of (drop (i + 1) sets))
    next_decides =
        ap (λ (l : List (List ℤ)). sound_kind zeros n last (map set_of l)) (drop-cons sets i [] h)
        ∙ (λ j. sound_kind zeros n last (sym is j ∷ map set_of (drop (sym (add-one i) j) sets)))
        ∙ sym (regroup true (leb p.day last) (sound_one zeros n p) (days_fall p.day (map set_of (drop (i + 1) sets))) (all (sound_one zeros n) (map set_of (drop (i + 1) sets))))

    pub past_goes_on : leb p.day last && sound_one zeros n p ≡ true → sound_kind zeros n p.day (map set_of (drop (i + 1) sets)) ≡ sound_kind zeros n last (map set_of (drop i sets))
    past_goes_on e = sym (next_decides ∙ ap (λ (b : Bool). b && sound_kind zeros n p.day (map set_of (drop (i + 1) sets))) e)

    pub past_ends : leb p.day last && sound_one zeros n p ≡ false → false ≡ sound_kind zeros n last (map set_of (drop i sets))
    past_ends e = sym (next_decides ∙ ap (λ (b : Bool). b && sound_kind zeros n p.day (map set_of (drop (i + 1) sets))) e)

-- of a kind with zeros it is the rule's test of the sets, of one without that of non-zero ones
pub kind_sets : (n day : ℕ) (past : List PastSet) → sound_kind true n day past ≡ sound_sets n day past
kind_sets n day past = ap (λ (b : Bool). days_fall day past && b) (go past)
  where
    go : (past : List PastSet) → all (sound_one true n) past ≡ all (sound_set n) past
    go [] = refl
    go (p ∷ ps) = ap₂ ◌&&◌ (and_true (sound_set n p)) (go ps)

pub kind_nonzero : (n day : ℕ) (past : List PastSet) → sound_kind false n day past ≡ sound_nonzero n day past
kind_nonzero n day past = ap (λ (b : Bool). days_fall day past && b) (go past) ∙ assoc (days_fall day past) (all (sound_set n) past) (all is_nonzero past)
  where
    assoc : (a b c : Bool) → a && (b && c) ≡ (a && b) && c
    assoc true b c = refl
    assoc false b c = refl

    both : (a b c d : Bool) → (a && b) && (c && d) ≡ (a && c) && (b && d)
    both a b c d = grind arith

    go : (past : List PastSet) → all (sound_one false n) past ≡ all (sound_set n) past && all is_nonzero past
    go [] = refl
    go (p ∷ ps) = ap (λ (b : Bool). sound_one false n p && b) (go ps) ∙ both (sound_set n p) (is_nonzero p) (all (sound_set n) ps) (all is_nonzero ps)

-- ---- the sets of each kind, where the places are cut into sets

module _ (words : List ℤ) (full : length words ≡ 22) (sets : List (List ℤ)) (held : ℕ) where
  pub newest_cut : sets ≡ first_chunks 3 (length (mid_of 3 6 words) / 3) (mid_of 3 6 words) → map set_of (take held sets) ≡ take held (line_in words).newest
  unfolding line_in elements
  newest_cut cut =
      sym (take-map set_of held sets)
      ∙ ap (λ (s : List (List ℤ)). take held (map set_of s)) cut
      ∙ subst (λ (w : List ℤ). take held (map set_of (first_chunks 3 (length (mid_of 3 6 w) / 3) (mid_of 3 6 w))) ≡ take held (line_in w).newest) (spelled (pos 0) words 22 full) refl

  pub nonzero_cut : sets ≡ first_chunks 3 (length (mid_of 10 12 words) / 3) (mid_of 10 12 words) → map set_of (take held sets) ≡ take held (line_in words).nonzero
  unfolding line_in elements
  nonzero_cut cut =
      sym (take-map set_of held sets)
      ∙ ap (λ (s : List (List ℤ)). take held (map set_of s)) cut
      ∙ subst (λ (w : List ℤ). take held (map set_of (first_chunks 3 (length (mid_of 10 12 w) / 3) (mid_of 10 12 w))) ≡ take held (line_in w).nonzero) (spelled (pos 0) words 22 full) refl

-- ---- the lines from the first

-- where the places are cut into lines
pub lines_cut : (words : List ℤ) (parts : List (List ℤ)) → length words ≡ 68
    → let rest = take (length words - 2) (drop 2 words) in parts ≡ first_chunks 22 (length rest / 22) rest → map line_in parts ≡ (station_in words).lines
unfolding station_in elements
lines_cut words parts full cut =
    ap (map line_in) cut
    ∙ subst (λ (w : List ℤ). let rest = take (length w - 2) (drop 2 w) in map line_in (first_chunks 22 (length rest / 22) rest) ≡ (station_in w).lines)
    (spelled (pos 0) words 68 full) refl

pub all_map : {A B : Type 0} (p : B → Bool) (f : A → B) (l : List A) → all (λ x. p (f x)) l ≡ all p (map f l)
all_map p f [] = refl
all_map p f (x ∷ l) = ap (λ (b : Bool). p (f x) && b) (all_map p f l)

-- ---- a past set

module _ (n : ℕ) (p : PastSet) where
  pub odd_set : (p.count % 2 ≡ 0 → ⊥) → false ≡ sound_set n p
  odd_set h = simp (ne_eqb (p.count % 2) 0 h)

  module _ (even : p.count % 2 ≡ 0) where
    pub small_set : p.count < 2 → false ≡ sound_set n p
    small_set h = simp (eq-eqb (p.count % 2) 0 even, lt-leb 2 p.count h)

    module _ (two : 2 ≤ p.count) where
      pub large_set : 2 * n < p.count → false ≡ sound_set n p
      large_set h = simp (eq-eqb (p.count % 2) 0 even, le-leb 2 p.count two, lt-leb p.count (2 * n) h)

      pub right_set : p.count ≤ 2 * n → leb (nat_abs p.sum) (11000 * p.count) ≡ sound_set n p
      right_set h = simp (eq-eqb (p.count % 2) 0 even, le-leb 2 p.count two, le-leb p.count (2 * n) h)

-- ---- a line

-- a phase that there isn't
phaseless : (phase newest nonzero : ℕ) → 4 ≤ phase → false ≡ sound_held phase newest nonzero
phaseless phase newest nonzero h = simp (le-ltb phase 4 h)

-- no more sets of each kind than are ever held
pub record HeldFew (newest nonzero : ℕ) : Type 0 where
  pub two : newest ≤ 2
  pub four : nonzero ≤ 4

none_held : (newest nonzero : ℕ) → eqb newest 0 && eqb nonzero 0 ≡ true → HeldFew newest nonzero
none_held newest nonzero e =
    let p = and_parts (eqb newest 0) (eqb nonzero 0) e in
    record { two = omega (arith, eqb-true newest 0 p.0); four = omega (arith, eqb-true nonzero 0 p.1) }

pub held_most : (phase newest nonzero : ℕ) → sound_held phase newest nonzero ≡ true → HeldFew newest nonzero
held_most zero newest nonzero e = none_held newest nonzero e
held_most (suc zero) newest nonzero e =
    let t = of_true (leb 1 newest && leb newest 2 && leb nonzero 4) e in
    record {
      two = leb→le newest 2 (and_r (leb 1 newest) (leb newest 2) (and_l (leb 1 newest && leb newest 2) (leb nonzero 4) t));
      four = leb→le nonzero 4 (and_r (leb 1 newest && leb newest 2) (leb nonzero 4) t);
    }
held_most (suc (suc zero)) newest nonzero e = none_held newest nonzero e
held_most (suc (suc (suc zero))) newest nonzero e = none_held newest nonzero e
held_most (suc (suc (suc (suc n)))) newest nonzero e = absurd (of_true false (phaseless (suc (suc (suc (suc n)))) newest nonzero (omega arith) ∙ e))

-- by its intercept, its phase and how many sets, the sets of each kind decide
pub by_kinds : (n day : ℕ) (l : Line) → sound_intercept l.intercept ≡ true → sound_held l.phase l.newest_held l.nonzero_held ≡ true
    → sound_sets n day (take l.newest_held l.newest) && sound_nonzero n day (take l.nonzero_held l.nonzero) ≡ sound_line n day l
unfolding sound_line
by_kinds n day l i h = simp (i, h)

-- ---- a station

module _ (s : Station) where
  pub rowless : row_exists s.row ≡ false → false ≡ sound s
  unfolding sound
  rowless h = simp h

  module _ (row : row_exists s.row ≡ true) where
    pub dayless : 99999 < s.day → false ≡ sound s
    unfolding sound
    dayless h = simp (row, lt-leb s.day 99999 h)

    pub by_lines : s.day ≤ 99999 → all (sound_line (samples s.row) s.day) (take (line_count s.row) s.lines) ≡ sound s
    unfolding sound
    by_lines h = simp (row, le-leb s.day 99999 h)

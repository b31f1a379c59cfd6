-- The invariant between a station's line and a line's values in the book, and how a sheet and a repair keep it.
use mathlib.Core.Path.{◌≡◌, refl, sym, ◌∙◌, ap, subst⁻¹}
use mathlib.Core.Bool.{Bool, true, false, cond, ◌&&◌, true≢false}
use mathlib.Core.List.{List, [], ◌∷◌}
use Prim.Native.Nat.{ℕ, suc, ◌≤◌, min}
use native.Mathlib.Omega.{arith}
use lib.Dec.{T, eqb, leb, le→leb}
use lib.ListN.{length, take, replicate, length-take, length-replicate}
use lib.Seq.{take-nil, length-take-le}
use lib.IntN.{ℤ, pos, nat_abs, ◌+ℤ◌, +ℤ_comm, +ℤ_idl}
use lib.Ieee.Fits.{eq→eqb, and_i}
use Rattle.std.specs.Bool.{passes}
use Rattle.std.proofs.lemmas.Bool.{le-leb}
use Rattle.whole.specs.Lists.{all}
use lib.Ieee.Bits.{is_true}
use Rattle.station_rules.specs.Lines.{LinePhase, new_line, open_line, adjusted_line, shut_line, Values, is_nonzero, change_of, phase_after, is_met, sound_intercept}
use Rattle.station_rules.specs.Held.{phase_exists, phase_word, phase_code, no_set, emptied, fresh_line, line_values, joined, only_past, opened, closed, line_after, repaired_phase, repaired_code, repaired_line}
use Rattle.station_rules.specs.Soundness.{days_fall, sound_set, sound_sets, sound_nonzero, held_in, sound_line}
use Rattle.station_rules.specs.declared.PastSet.{PastSet}
use Rattle.station_rules.specs.declared.Line.{Line}
use Rattle.whole.proofs.Elements.{all_take, take_min}
use Rattle.station_rules.proofs.Phases.{repaired_word, repaired_known}
use Rattle.station_rules.proofs.HeldSets.{falls_later, falls_take}
use Rattle.station_rules.specs.Laws.{held_values}
use Rattle.station_rules.proofs.BookValues.{with_set, without_sets}
use Rattle.station_rules.specs.declared.Verdict.{Verdict}
use Rattle.station_rules.specs.declared.Verdict.TheVariants.{Met, Adjusted, Shut}

-- an open line has a newest set, any other no set
abbrev pub PastFits : LinePhase → (newest nonzero : List PastSet) → Type 0
PastFits new_line newest nonzero = (newest ≡ []) × (nonzero ≡ [])
PastFits open_line newest nonzero = 1 ≤ length newest
PastFits adjusted_line newest nonzero = (newest ≡ []) × (nonzero ≡ [])
PastFits shut_line newest nonzero = (newest ≡ []) × (nonzero ≡ [])

-- sound sets of either kind: for a row of n samples, on a day
pub record GoodSets (n day : ℕ) (past : List PastSet) : Type 0 where
  pub falls : T (days_fall day past)
  pub sets : T (all (sound_set n) past)

-- sound values of a line
pub record Good (n day : ℕ) (v : Values) : Type 0 where
  pub small : nat_abs v.intercept ≤ 1000
  pub newest : GoodSets n day v.newest
  pub nonzero : GoodSets n day v.nonzero
  pub not_zero : T (all is_nonzero v.nonzero)
  pub fits : PastFits v.phase v.newest v.nonzero

-- a station's line holds the newest of a book's sets
pub record Holds (most held : ℕ) (places past : List PastSet) : Type 0 where
  pub same : take held places ≡ take most past
  pub room : held ≤ most
  pub full : length places ≡ most

-- a station's line holds the values with the newest two sets and the newest four that aren't zero, and these values are sound
pub record LineAgrees (n day : ℕ) (l : Line) (v : Values) : Type 0 where
  pub intercept : l.intercept ≡ v.intercept
  pub phase : phase_word l.phase ≡ v.phase
  pub known : T (phase_exists l.phase)
  pub newest : Holds 2 l.newest_held l.newest v.newest
  pub nonzero : Holds 4 l.nonzero_held l.nonzero v.nonzero
  pub good : Good n day v

pub same_values : (n day : ℕ) (l : Line) (v : Values) → LineAgrees n day l v → line_values l ≡ held_values v
same_values n day l v a = λ i. record { intercept = a.intercept i; phase = a.phase i; newest = a.newest.same i; nonzero = a.nonzero.same i }

later_sets : (n d e : ℕ) (past : List PastSet) → d ≤ e → GoodSets n d past → GoodSets n e past
later_sets n d e past h g = record { falls = falls_later d e past h g.falls; sets = g.sets }

pub later_good : (n d e : ℕ) (v : Values) → d ≤ e → Good n d v → Good n e v
later_good n d e v h g =
    record { small = g.small; newest = later_sets n d e v.newest h g.newest; nonzero = later_sets n d e v.nonzero h g.nonzero; not_zero = g.not_zero; fits = g.fits }

pub later_line : (n d e : ℕ) (l : Line) (v : Values) → d ≤ e → LineAgrees n d l v → LineAgrees n e l v
later_line n d e l v h a =
    record { intercept = a.intercept; phase = a.phase; known = a.known; newest = a.newest; nonzero = a.nonzero; good = later_good n d e v h a.good }

-- ---- number 0 doesn't apply

held_is : (most held : ℕ) (places past : List PastSet) → Holds most held places past → held ≡ min most (length past)
held_is most held places past h =
    sym (length-take-le held places (rw h.full h.room)) ∙ ap length h.same ∙ length-take most past

none_held : (most held : ℕ) (places past : List PastSet) → Holds most held places past → past ≡ [] → T (eqb held 0)
none_held most held places past h e = eq→eqb {a = held} {b = 0} (omega (arith, held_is most held places past h, ap length e))

module _ (l : Line) (newest nonzero : List PastSet) (h : Holds 2 l.newest_held l.newest newest) (k : Holds 4 l.nonzero_held l.nonzero nonzero) where
  none_of_either : (newest ≡ []) × (nonzero ≡ []) → T (eqb l.newest_held 0 && eqb l.nonzero_held 0)
  none_of_either e = and_i (eqb l.newest_held 0) (eqb l.nonzero_held 0) (none_held 2 l.newest_held l.newest newest h e.0) (none_held 4 l.nonzero_held l.nonzero nonzero k e.1)

  held_sound : (phase : LinePhase) → PastFits phase newest nonzero → T (held_in phase l.newest_held l.nonzero_held)
  held_sound new_line f = none_of_either f
  held_sound open_line f =
      let count = held_is 2 l.newest_held l.newest newest h in
      and_i (leb 1 l.newest_held && leb l.newest_held 2) (leb l.nonzero_held 4)
      (and_i (leb 1 l.newest_held) (leb l.newest_held 2) (le→leb 1 l.newest_held (omega arith)) (le→leb l.newest_held 2 h.room))
      (le→leb l.nonzero_held 4 k.room)
  held_sound adjusted_line f = none_of_either f
  held_sound shut_line f = none_of_either f

few_sound : (n d most : ℕ) (past : List PastSet) → GoodSets n d past → sound_sets n d (take most past) ≡ true
few_sound n d most past g =
    is_true (sound_sets n d (take most past))
    (and_i (days_fall d (take most past)) (all (sound_set n) (take most past)) (falls_take most d past g.falls) (all_take (sound_set n) most past g.sets))

pub line_sound : (n d : ℕ) (l : Line) (v : Values) → LineAgrees n d l v → T (sound_line n d l)
unfolding sound_line
line_sound n d l v a =
    let small : sound_intercept v.intercept ≡ true = le-leb (nat_abs v.intercept) 1000 a.good.small in
    let known = is_true _ a.known in
    let held = is_true _ (held_sound l v.newest v.nonzero a.newest a.nonzero v.phase a.good.fits) in
    let newest = few_sound n d 2 v.newest a.good.newest in
    let nonzero = few_sound n d 4 v.nonzero a.good.nonzero in
    let not_zero = is_true _ (all_take is_nonzero 4 v.nonzero a.good.not_zero) in
    subst⁻¹ (λ (w : Values). T (sound_intercept w.intercept && (phase_exists l.phase && held_in w.phase l.newest_held l.nonzero_held)
    && sound_sets n d w.newest && sound_nonzero n d w.nonzero)) (same_values n d l v a)
    (passes _ (grind arith))

-- ---- a line that holds no set

no_sets : (most : ℕ) → Holds most 0 (replicate most no_set) []
no_sets most = record { same = sym (take-nil most); room = omega arith; full = length-replicate most no_set }

pub emptied_agrees : (n d : ℕ) (intercept : ℤ) (code : ℕ) (phase : LinePhase) → nat_abs intercept ≤ 1000 → phase_word code ≡ phase → T (phase_exists code)
    → PastFits phase [] [] → LineAgrees n d (emptied intercept code) (without_sets intercept phase)
emptied_agrees n d intercept code phase small word known fits =
    let none' : GoodSets n d [] = record { falls = tt; sets = tt } in
    record {
      intercept = refl;
      phase = word;
      known = known;
      newest = no_sets 2;
      nonzero = no_sets 4;
      good = record { small = small; newest = none'; nonzero = none'; not_zero = tt; fits = fits };
    }

pub fresh_line_lem : (n d : ℕ) → LineAgrees n d fresh_line (without_sets (pos 0) new_line)
fresh_line_lem n d = emptied_agrees n d (pos 0) (phase_code new_line) new_line (omega arith) refl tt (refl, refl)

-- ---- a set that met

-- a set in front: one more is held
join_holds : (k held : ℕ) (p : PastSet) (places past : List PastSet) → Holds (suc k) held places past
    → Holds (suc k) (min (suc k) (suc held)) (p ∷ take k places) (p ∷ past)
join_holds k held p places past h =
    record {
      same = ap (λ (m : ℕ). take m (p ∷ take k places)) shift
          ∙ ap (λ (r : List PastSet). p ∷ r)
          (take_min (min held k) k places ∙ ap (λ (m : ℕ). take m places) again ∙ sym (take_min k held places) ∙ ap (take k) h.same ∙ take_min k (suc k) past
          ∙ ap (λ (m : ℕ). take m past) fewer);
      room = omega arith;
      full = ap suc (length-take k places ∙ omega (arith, h.full));
    }
  where
    shift : min (suc k) (suc held) ≡ suc (min held k)
    shift = omega arith

    again : min (min held k) k ≡ min k held
    again = omega arith

    fewer : min k (suc k) ≡ k
    fewer = omega arith

module _ (n d day : ℕ) (l : Line) (v : Values) (a : LineAgrees n d l v) (later : d ≤ day) where
  module _ (p : PastSet) (today : p.day ≡ day) (ok : T (sound_set n p)) where
    -- sound sets with it in front
    in_front : (past : List PastSet) → GoodSets n d past → GoodSets n day (p ∷ past)
    in_front past g =
        record {
          falls = and_i (leb p.day day) (days_fall p.day past) (le→leb p.day day (omega arith))
              (subst⁻¹ (λ (k : ℕ). T (days_fall k past)) today (falls_later d day past later g.falls));
          sets = and_i (sound_set n p) (all (sound_set n) past) ok g.sets;
        }

    module _ (held : ℕ) (places nonzero : List PastSet) (h : Holds 4 held places nonzero) (g : GoodSets n d nonzero) (f : T (all is_nonzero nonzero)) where
      -- the sets that aren't zero, with it in front where it is one
      record Joins (b : Bool) : Type 0 where
        holds : Holds 4 (cond b (min 4 (suc held)) held) (cond b (p ∷ take 3 places) places) (cond b (p ∷ nonzero) nonzero)
        good : GoodSets n day (cond b (p ∷ nonzero) nonzero)
        not_zero : T (all is_nonzero (cond b (p ∷ nonzero) nonzero))

      joins : (b : Bool) → is_nonzero p ≡ b → Joins b
      joins true e =
          record {
            holds = join_holds 3 held p places nonzero h;
            good = in_front nonzero g;
            not_zero = and_i (is_nonzero p) (all is_nonzero nonzero) (passes (is_nonzero p) e) f;
          }
      joins false e = record { holds = h; good = later_sets n d day nonzero later g; not_zero = f }

    joined_agrees : (m : Line) (w : Values) → m.intercept ≡ v.intercept → Holds 2 m.newest_held m.newest w.newest → Holds 4 m.nonzero_held m.nonzero w.nonzero
        → GoodSets n d w.newest → GoodSets n d w.nonzero → T (all is_nonzero w.nonzero) → LineAgrees n day (joined m p) (with_set v.intercept w p)
    joined_agrees m w i h k g f z =
        let j = joins m.nonzero_held m.nonzero w.nonzero k f z (is_nonzero p) refl in
        record {
          intercept = i;
          phase = refl;
          known = tt;
          newest = join_holds 1 m.newest_held p m.newest w.newest h;
          nonzero = j.holds;
          good = record { small = a.good.small; newest = in_front w.newest g; nonzero = j.good; not_zero = j.not_zero; fits = omega arith };
        }

    to_held : LineAgrees n day (joined l p) (with_set v.intercept v p)
    to_held = joined_agrees l v a.intercept a.newest a.nonzero a.good.newest a.good.nonzero a.good.not_zero

    -- where the book has no past set
    alone : (v.newest ≡ []) × (v.nonzero ≡ []) → LineAgrees n day (only_past l p) (with_set v.intercept v p)
    alone none' =
        let none : GoodSets n d [] = record { falls = tt; sets = tt } in
        subst⁻¹ (λ (w : Values). LineAgrees n day (only_past l p) (with_set v.intercept w p))
        (λ i. record { intercept = v.intercept; phase = v.phase; newest = none'.0 i; nonzero = none'.1 i })
        (joined_agrees (emptied l.intercept l.phase) (without_sets v.intercept v.phase) a.intercept (no_sets 2) (no_sets 4) none none tt)

    opened_agrees : (phase : LinePhase) → phase ≡ v.phase → LineAgrees n day (opened phase l p) (with_set v.intercept v p)
    opened_agrees new_line e = to_held
    opened_agrees open_line e = to_held
    opened_agrees adjusted_line e = alone (subst⁻¹ (λ (ph : LinePhase). PastFits ph v.newest v.nonzero) e a.good.fits)
    opened_agrees shut_line e = alone (subst⁻¹ (λ (ph : LinePhase). PastFits ph v.newest v.nonzero) e a.good.fits)

    -- the line after a set that met
    pub after_met : (verdict : Verdict) → is_met verdict ≡ true → LineAgrees n day (line_after l p verdict) (with_set (change_of verdict +ℤ v.intercept) v p)
    after_met Met m = rw (+ℤ_idl v.intercept) (opened_agrees (phase_word l.phase) a.phase)
    after_met (Adjusted change) m = absurd (true≢false (sym m))
    after_met Shut m = absurd (true≢false (sym m))

  -- the line after a set that didn't meet, in a phase that holds no set
  closed_agrees : (phase : LinePhase) (change : ℤ) → phase_word (phase_code phase) ≡ phase → T (phase_exists (phase_code phase)) → PastFits phase [] []
      → nat_abs (v.intercept +ℤ change) ≤ 1000 → LineAgrees n day (closed l phase change) (without_sets (change +ℤ v.intercept) phase)
  closed_agrees phase change word known fits h =
      rw (+ℤ_comm change v.intercept, a.intercept) (emptied_agrees n day (v.intercept +ℤ change) (phase_code phase) phase h word known fits)

  -- the line after a set that didn't meet
  pub after_unmet : (p : PastSet) (verdict : Verdict) → is_met verdict ≡ false → nat_abs (v.intercept +ℤ change_of verdict) ≤ 1000
      → LineAgrees n day (line_after l p verdict) (without_sets (change_of verdict +ℤ v.intercept) (phase_after verdict))
  after_unmet p Met m h = absurd (true≢false m)
  after_unmet p (Adjusted change) m h = closed_agrees adjusted_line change refl tt (refl, refl) h
  after_unmet p Shut m h = closed_agrees shut_line (pos 0) refl tt (refl, refl) h

  repaired_fits : (phase : LinePhase) → PastFits (repaired_phase phase) [] []
  repaired_fits new_line = (refl, refl)
  repaired_fits open_line = (refl, refl)
  repaired_fits adjusted_line = (refl, refl)
  repaired_fits shut_line = (refl, refl)

  -- the line after a repair
  pub after_repair : LineAgrees n day (repaired_line l) (without_sets v.intercept (repaired_phase v.phase))
  after_repair =
      rw a.intercept
      (emptied_agrees n day v.intercept (repaired_code l.phase) (repaired_phase v.phase) a.good.small (repaired_word l.phase ∙ ap repaired_phase a.phase)
      (repaired_known l.phase a.known) (repaired_fits v.phase))

-- What a sound station's line gives, so that nothing wraps.
use mathlib.Core.Path.{◌≡◌, ap, subst}
use mathlib.Core.Bool.{Bool, true, ◌&&◌}
use mathlib.Core.List.{List, [], ◌∷◌}
use Prim.Native.Nat.{ℕ, zero, suc, ◌*◌, ◌%◌, ◌≤◌, ◌<◌}
use native.Mathlib.Omega.{arith}
use lib.Dec.{T, eqb, leb, leb→le}
use lib.IntN.{ℤ, pos, negsuc, nat_abs}
use Rattle.std.proofs.lemmas.Int.{ints}
use lib.ListN.{take, get_or}
use lib.Seq.{get_or-take}
use Rattle.whole.specs.Bounds.{Within}
use Rattle.whole.specs.Lists.{all}
use Rattle.whole.proofs.Tests.{and_l, and_r, of_true, to_true}
use Rattle.station_rules.specs.Rows.{samples, line_count, row_exists}
use Rattle.station_rules.specs.Lines.{is_nonzero, sound_intercept}
use Rattle.station_rules.specs.Held.{no_set, fresh_line}
use Rattle.station_rules.specs.Soundness.{days_fall, sound_set, sound_sets, sound_held, sound_line, sound}
use Rattle.station_rules.specs.Stations.{line_of}
use Rattle.whole.proofs.Elements.{at_all}
use Rattle.station_rules.proofs.HeldSets.{falls_later}
use Rattle.station_rules.proofs.RowFacts.{row_facts}
use Rattle.station_rules.specs.declared.PastSet.{PastSet}
use Rattle.station_rules.specs.declared.Line.{Line}
use Rattle.station_rules.specs.Held.{Station}
use Rattle.line_past.specs.Ranges.{SetsOf}
use Rattle.line.specs.Ranges.{SetsFit, LineFits}
use Rattle.station_soundness.proofs.SoundLaws.{held_most}

pub size_within : (m : ℕ) (z : ℤ) → nat_abs z ≤ m → Within m m z
size_within m (pos n) h = record { over = omega (arith, ints); under = omega (arith, ints) }
size_within m (negsuc n) h = record { over = omega (arith, ints); under = omega (arith, ints) }

-- a sound set, on a row of at most six samples
set_fits : (n : ℕ) (p : PastSet) → n ≤ 6 → T (sound_set n p) → SetsOf 1 p.sum p.count
set_fits n p h t =
    let c = leb→le p.count (2 * n) (and_r (even && leb 2 p.count) (leb p.count (2 * n)) (and_l (even && leb 2 p.count && leb p.count (2 * n)) small t)) in
    let s = leb→le (nat_abs p.sum) (11000 * p.count) (and_r (even && leb 2 p.count && leb p.count (2 * n)) small t) in
    record { within = size_within 132000 p.sum (omega arith); few = omega arith }
  where
    even : Bool
    even = eqb (p.count % 2) 0

    small : Bool
    small = leb (nat_abs p.sum) (11000 * p.count)

-- of a list of sound sets, and past its end
sets_fit : (n : ℕ) (l : List PastSet) (i : ℕ) → n ≤ 6 → T (all (sound_set n) l) → SetsOf 1 (get_or l i no_set).sum (get_or l i no_set).count
sets_fit n [] i h t = record { within = omega arith; few = omega arith }
sets_fit n (p ∷ l) zero h t = set_fits n p h (and_l (sound_set n p) (all (sound_set n) l) t)
sets_fit n (p ∷ l) (suc i) h t = sets_fit n l i h (and_r (sound_set n p) (all (sound_set n) l) t)

-- no day passes the first
fall_get : (day : ℕ) (l : List PastSet) (i : ℕ) → T (days_fall day l) → (get_or l i no_set).day ≤ day
fall_get day [] i t = omega arith
fall_get day (p ∷ l) zero t = leb→le p.day day (and_l (leb p.day day) (days_fall p.day l) t)
fall_get day (p ∷ l) (suc i) t =
    let a = leb→le p.day day (and_l (leb p.day day) (days_fall p.day l) t) in
    let b = fall_get p.day l i (and_r (leb p.day day) (days_fall p.day l) t) in
    omega arith

-- the held sets of either kind
kind_fits : (n day most held : ℕ) (past : List PastSet) → n ≤ 6 → day ≤ 99999 → held ≤ most → T (sound_sets n day (take held past)) → SetsFit most held past
kind_fits n day most held past h d room t =
    let falls = and_l (days_fall day (take held past)) (all (sound_set n) (take held past)) t in
    let sets = and_r (days_fall day (take held past)) (all (sound_set n) (take held past)) t in
    record {
      room = room;
      each = record {
        each = λ j k.
            let e = get_or-take held past j no_set k in
            record {
              set = subst (λ (p : PastSet). SetsOf 1 p.sum p.count) e (sets_fit n (take held past) j h sets);
              day = omega (arith, fall_get day (take held past) j falls, ap (λ (p : PastSet). p.day) e);
            };
      };
      falls = falls_later day 99999 (take held past) d falls;
    }

line_sound : (n day : ℕ) (l : Line) → n ≤ 6 → day ≤ 99999 → T (sound_line n day l) → LineFits l
unfolding sound_line
line_sound n day l h d t =
    let small = sound_intercept l.intercept in
    let held = sound_held l.phase l.newest_held l.nonzero_held in
    let newest = sound_sets n day (take l.newest_held l.newest) in
    let nonzero = sound_sets n day (take l.nonzero_held l.nonzero) in
    let not_zero = all is_nonzero (take l.nonzero_held l.nonzero) in
    let t3 = and_l (small && held && newest) (nonzero && not_zero) t in
    let t2 = and_l (small && held) newest t3 in
    let few = held_most l.phase l.newest_held l.nonzero_held (to_true held (and_r small held t2)) in
    record {
      small = size_within 1000 l.intercept (leb→le (nat_abs l.intercept) 1000 (and_l small held t2));
      newest = kind_fits n day 2 l.newest_held l.newest h d few.two (and_r (small && held) newest t3);
      nonzero = kind_fits n day 4 l.nonzero_held l.nonzero h d few.four (and_l nonzero not_zero (and_r (small && held && newest) (nonzero && not_zero) t));
    }

fresh_sound : (n day : ℕ) → T (sound_line n day fresh_line)
unfolding sound_line
fresh_sound n day = tt

-- a sound station's line, where the row has it
pub line_fits : (s : Station) (line : ℕ) → sound s ≡ true → line < line_count s.row → LineFits (line_of s line)
unfolding sound
line_fits s line e h =
    let n = samples s.row in
    let row = row_exists s.row in
    let day = leb s.day 99999 in
    let held = take (line_count s.row) s.lines in
    let lines = all (sound_line n s.day) held in
    let t = of_true (row && day && lines) e in
    let d = leb→le s.day 99999 (and_r row day (and_l (row && day) lines t)) in
    line_sound n s.day (line_of s line) (row_facts s.row).six_samples d
    (subst (λ (l : Line). T (sound_line n s.day l)) (get_or-take (line_count s.row) s.lines line fresh_line h) (at_all (sound_line n s.day) fresh_line held (fresh_sound n s.day) (and_r (row && day) lines t) line))

-- docs/SPECIFICATION.md, "Refused calls": when a station is sound (number 0).
use Rattle.std.specs.Prelude.{ℕ, ◌*◌, ◌%◌, Bool, true, not, ◌&&◌, List, [], ◌∷◌, take, leb, eqb, nat_abs}
use Rattle.whole.specs.Lists.{all, Check}
use Rattle.station_rules.specs.Rows.{row_exists, samples, line_count}
use Rattle.station_rules.specs.Lines.{LinePhase, new_line, open_line, adjusted_line, shut_line, is_nonzero, sound_intercept}
use Rattle.station_rules.specs.Held.{phase_exists, phase_word, line_values}
use Rattle.station_rules.specs.declared.PastSet.{PastSet}
use Rattle.station_rules.specs.declared.Line.{Line}
use Rattle.station_rules.specs.Held.{Station}

-- an open line has one or two newest sets and at most four non-zero ones, any other none of either
abbrev pub held_in : LinePhase → (newest nonzero : ℕ) → Bool
held_in new_line newest nonzero = eqb newest 0 && eqb nonzero 0
held_in open_line newest nonzero = leb 1 newest && leb newest 2 && leb nonzero 4
held_in adjusted_line newest nonzero = eqb newest 0 && eqb nonzero 0
held_in shut_line newest nonzero = eqb newest 0 && eqb nonzero 0

-- and its phase is one that there is
abbrev pub sound_held : (phase newest nonzero : ℕ) → Bool
sound_held phase newest nonzero = phase_exists phase && held_in (phase_word phase) newest nonzero

-- their days never rise from newest to oldest nor pass the station's day
abbrev pub days_fall : ℕ → List PastSet → Bool
days_fall day [] = true
days_fall day (p ∷ older) = leb p.day day && days_fall p.day older

-- N is even from 2 to twice the row's samples, and |S| is at most 11000 times N
abbrev pub sound_set : ℕ → PastSet → Bool
sound_set n p =
    eqb (p.count % 2) 0 && leb 2 p.count && leb p.count (2 * n) && leb (nat_abs p.sum) (11000 * p.count)

-- the sets of either kind, by themselves: their days, and each one's N and S
abbrev pub sound_sets : (n day : ℕ) → List PastSet → Bool
sound_sets n day past = days_fall day past && all (sound_set n) past

-- of the non-zero ones S is not 0 besides
abbrev pub sound_nonzero : (n day : ℕ) → List PastSet → Bool
sound_nonzero n day past = sound_sets n day past && all is_nonzero past

-- a line of a station with that day, whose row has n samples
unfoldable pub sound_line : (n day : ℕ) → Line → Bool
sound_line n day l =
    let v = line_values l in
    sound_intercept v.intercept && sound_held l.phase l.newest_held l.nonzero_held && sound_sets n day v.newest && sound_nonzero n day v.nonzero

-- its row exists, its day is 0..99999, and its row's lines are sound
unfoldable pub sound : Station → Bool
sound s =
    row_exists s.row && leb s.day 99999 && all (sound_line (samples s.row) s.day) (take (line_count s.row) s.lines)

-- number 0: the station handed in isn't sound
abbrev pub sound_check : Station → Check ℕ
sound_check s = record { answer = 0; applies = not (sound s) }

-- docs/SPECIFICATION.md, "A line between sheets": a station, and the line that it holds, fresh, after a sheet and after a repair.
use Rattle.std.specs.Prelude.{ℕ, suc, min, Bool, cond, List, [], ◌∷◌, length, get_or, take, replicate, ltb, ℤ, pos, ◌+ℤ◌}
use Rattle.station_rules.specs.Lines.{LinePhase, new_line, open_line, adjusted_line, shut_line, Phase, new_phase, open_phase, check_due_phase, phase_of, Values, is_nonzero, phase_after}
use Rattle.station_rules.specs.declared.PastSet.{PastSet}
use Rattle.station_rules.specs.declared.Line.{Line}
use Rattle.station_rules.specs.declared.Verdict.{Verdict}
use Rattle.station_rules.specs.declared.Verdict.TheVariants.{Met, Adjusted, Shut}

-- a station holds its row, the day of its last accepted call, and its lines
pub record Station : Type 0 where
  pub row : ℕ
  pub day : ℕ
  pub lines : List Line

-- the phases by the number that a line holds: 0 new, 1 open, 2 adjusted, 3 shut
abbrev pub phases : List LinePhase
phases = new_line ∷ open_line ∷ adjusted_line ∷ shut_line ∷ []

abbrev pub phase_exists : ℕ → Bool
phase_exists code = ltb code (length phases)

-- no call is judged by what stands for a phase that there isn't (number 0)
abbrev pub phase_word : ℕ → LinePhase
phase_word code = get_or phases code shut_line

abbrev pub phase_code : LinePhase → ℕ
phase_code new_line = 0
phase_code open_line = 1
phase_code adjusted_line = 2
phase_code shut_line = 3

-- and by the number that an outcome carries: 0 new, 1 open, 2 check due; any other would be taken for new, which no sheet leaves
abbrev pub said_word : ℕ → Phase
said_word code = get_or (new_phase ∷ open_phase ∷ check_due_phase ∷ []) code new_phase

-- the number of each
abbrev pub said_code : Phase → ℕ
said_code new_phase = 0
said_code open_phase = 1
said_code check_due_phase = 2

-- an emptied place holds a blank set
abbrev pub no_set : PastSet
no_set = record { day = 0; sum = pos 0; count = 0 }

-- a line that holds no set
abbrev pub emptied : (intercept : ℤ) (phase : ℕ) → Line
emptied intercept phase =
    record { intercept = intercept; phase = phase; newest_held = 0; newest = replicate 2 no_set; nonzero_held = 0; nonzero = replicate 4 no_set }

-- a fresh line: intercept 0, new, no past
abbrev pub fresh_line : Line
fresh_line = emptied (pos 0) (phase_code new_line)

-- what the rules judge the line by
abbrev pub line_values : Line → Values
line_values l =
    record { intercept = l.intercept; phase = phase_word l.phase; newest = take l.newest_held l.newest; nonzero = take l.nonzero_held l.nonzero }

-- the line is open and the set joins the newest, only two being held, and, where it isn't zero, the non-zero ones, only four being held
abbrev pub joined : Line → PastSet → Line
joined l p =
    record {
      intercept = l.intercept;
      phase = phase_code open_line;
      newest_held = min 2 (suc l.newest_held);
      newest = p ∷ take 1 l.newest;
      nonzero_held = cond (is_nonzero p) (min 4 (suc l.nonzero_held)) l.nonzero_held;
      nonzero = cond (is_nonzero p) (p ∷ take 3 l.nonzero) l.nonzero;
    }

-- the line is open with this set as its only past
abbrev pub only_past : Line → PastSet → Line
only_past l p = joined (emptied l.intercept l.phase) p

-- the line after a sheet that met every average due, by the phase before
abbrev pub opened : LinePhase → Line → PastSet → Line
opened new_line l p = joined l p
opened open_line l p = joined l p
opened adjusted_line l p = only_past l p
opened shut_line l p = only_past l p

-- the line after a sheet that didn't: past sets go and the phase is check due
abbrev pub closed : Line → LinePhase → ℤ → Line
closed l phase change = emptied (l.intercept +ℤ change) (phase_code phase)

-- the line after a sheet; where it is shut the intercept stays
abbrev pub line_after : Line → PastSet → Verdict → Line
line_after l p Met = opened (phase_word l.phase) l p
line_after l p (Adjusted change) = closed l adjusted_line change
line_after l p Shut = closed l shut_line (pos 0)

-- what its outcome says of the phase
abbrev pub phase_said : Verdict → ℕ
phase_said v = said_code (phase_of (phase_after v))

-- a repair: new and open lines become new; check due stays, and which of the two it is
abbrev pub repaired_phase : LinePhase → LinePhase
repaired_phase new_line = new_line
repaired_phase open_line = new_line
repaired_phase adjusted_line = adjusted_line
repaired_phase shut_line = shut_line

-- the same of the number that a line holds; one that is no phase stays as it is
abbrev pub repaired_code : ℕ → ℕ
repaired_code code = cond (phase_exists code) (phase_code (repaired_phase (phase_word code))) code

-- a repair empties the past; the intercept stays
abbrev pub repaired_line : Line → Line
repaired_line l = emptied l.intercept (repaired_code l.phase)

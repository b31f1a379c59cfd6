-- The four calls on a station in its caller's places: each answers as the call of `Stations` does on the station that the places hold, a refused one
-- writes nothing, and an accepted one writes what is listed here. The places after it hold the station that the call of `Stations` hands back.
use Rattle.std.specs.Prelude.{Result, Ok, Err, ℕ, ◌+◌, ◌≡◌, cond, List, [], ◌∷◌, ◌++◌, ltb, ℤ, pos, ◌+ℤ◌, take, drop, set, replicate}
use Rattle.station_rules.specs.Lines.{LinePhase, new_line, open_line, adjusted_line, shut_line, is_nonzero, past_set}
use Rattle.station_rules.specs.Held.{phase_word, phase_code}
use Rattle.station_rules.specs.Judging.{sheet_set, sheet_verdict}
use Rattle.station_rules.specs.Stations.{open_of, values_of, sheet_of, repair_of, market_of}
use Rattle.station_rules.specs.Replies.{Reply, sheet_reply, repair_reply, market_reply}
use Rattle.station_rules.specs.Calls.{Call, sheet_call, repair_call, market_call, replies, station_after_all}
use Rattle.whole.specs.Places.{place, joined_sets}
use Rattle.station_rules.specs.Places.{line_in, line_start, line_places, station_in}
use Rattle.station_rules.specs.declared.Scan.{Scan}
use Rattle.station_rules.specs.declared.Asked.{Asked}
use Rattle.station_rules.specs.declared.Basis.{Basis}
use Rattle.station_rules.specs.declared.PastSet.{PastSet}
use Rattle.station_rules.specs.declared.Verdict.{Verdict}
use Rattle.station_rules.specs.declared.Verdict.TheVariants.{Met, Adjusted, Shut}
use Rattle.station_rules.specs.declared.Outcome.{Outcome}
use Rattle.station_rules.specs.declared.Certificate.{Certificate}
use Rattle.station_refusals.specs.declared.Refusal.{Refusal}

-- what a call leaves: its answer, and what stands in the places
pub record Left (A : Type 0) : Type 0 where
  pub answer : A
  pub places : List ℤ

-- ---- a line's 22 places after a sheet and after a repair

-- a past set's three places
abbrev pub set_places : PastSet → List ℤ
set_places p = pos p.day ∷ p.sum ∷ pos p.count ∷ []

-- the places of a line's newest sets, and of its non-zero ones: how many, then the sets
abbrev pub newest_places : List ℤ → List ℤ
newest_places line = take 7 (drop 2 line)

abbrev pub nonzero_places : List ℤ → List ℤ
nonzero_places line = take 13 (drop 9 line)

-- no set held, their places blank
abbrev pub emptied_places : (intercept phase : ℤ) → List ℤ
emptied_places intercept phase = intercept ∷ phase ∷ replicate 20 (pos 0)

-- open, and the set in front of the newest, and of the non-zero ones where it is one
abbrev pub joined_places : List ℤ → PastSet → List ℤ
joined_places line p =
    place line 0 ∷ pos (phase_code open_line) ∷ joined_sets 2 (newest_places line) (set_places p)
    ++ cond (is_nonzero p) (joined_sets 4 (nonzero_places line) (set_places p)) (nonzero_places line)

-- open with this set alone
abbrev pub only_places : List ℤ → PastSet → List ℤ
only_places line p = joined_places (emptied_places (place line 0) (place line 1)) p

-- by the phase before
abbrev pub opened_places : LinePhase → List ℤ → PastSet → List ℤ
opened_places new_line line p = joined_places line p
opened_places open_line line p = joined_places line p
opened_places adjusted_line line p = only_places line p
opened_places shut_line line p = only_places line p

-- the intercept changed, the phase, no set held
abbrev pub closed_places : List ℤ → LinePhase → ℤ → List ℤ
closed_places line phase change = emptied_places (place line 0 +ℤ change) (pos (phase_code phase))

-- after a sheet
unfoldable pub sheet_line : List ℤ → PastSet → Verdict → List ℤ
sheet_line line p Met = opened_places (phase_word (line_in line).phase) line p
sheet_line line p (Adjusted change) = closed_places line adjusted_line change
sheet_line line p Shut = closed_places line shut_line (pos 0)

-- after a repair: a new or open line is new, any other phase stays; no set held
unfoldable pub repaired_places : List ℤ → List ℤ
repaired_places line = emptied_places (place line 0) (cond (ltb (line_in line).phase 2) (pos (phase_code new_line)) (place line 1))

-- ---- a station's 68 places after an accepted call

-- with another day
abbrev pub with_day : List ℤ → ℕ → List ℤ
with_day words day = set words 1 (pos day)

-- with a line's places written
abbrev pub with_line : List ℤ → ℕ → List ℤ → List ℤ
with_line words line written = take (line_start line) words ++ (written ++ drop (line_start line + 22) words)

-- an opening writes every place: the row, and 0
abbrev pub opened_station : ℕ → List ℤ
opened_station row = pos row ∷ replicate 67 (pos 0)

-- a sheet writes the day and its line
unfoldable pub sheet_places : List ℤ → ℕ → ℕ → List ℤ → List ℤ
sheet_places words day line numbers =
    let s = station_in words in
    let v = values_of s line in
    let p = past_set day (sheet_set s.row v day line numbers) in
    with_day (with_line words line (sheet_line (line_places words line) p (sheet_verdict s.row v day line numbers))) day

-- with a line repaired
abbrev pub with_repaired : List ℤ → ℕ → List ℤ
with_repaired words line = with_line words line (repaired_places (line_places words line))

-- a repair writes the day and all three lines
unfoldable pub repair_places : List ℤ → ℕ → List ℤ
repair_places words day = with_day (with_repaired (with_repaired (with_repaired words 0) 1) 2) day

-- a market test writes the day
abbrev pub market_places : List ℤ → ℕ → List ℤ
market_places words day = with_day words day

-- ---- the calls

-- a refused opening leaves a fresh station of row 0
abbrev pub open_left : ℕ → (Result Unit Refusal) → List ℤ
open_left row (Ok tt) = opened_station row
open_left row (Err r) = opened_station 0

unfoldable pub open_in : ℕ → Left (Result Unit Refusal)
open_in row = record { answer = (open_of row).answer; places = open_left row (open_of row).answer }

-- any other refused call leaves the places as they came
abbrev pub sheet_left : Result Outcome Refusal → (came written : List ℤ) → List ℤ
sheet_left (Ok o) came written = written
sheet_left (Err r) came written = came

unfoldable pub sheet_in : List ℤ → ℕ → ℕ → List ℤ → Left (Result Outcome Refusal)
sheet_in words day line numbers =
    let answer = (sheet_of (station_in words) day line numbers).answer in
    record { answer = answer; places = sheet_left answer words (sheet_places words day line numbers) }

abbrev pub repair_left : Result Unit Refusal → (came written : List ℤ) → List ℤ
repair_left (Ok tt) came written = written
repair_left (Err r) came written = came

unfoldable pub repair_in : List ℤ → ℕ → Left (Result Unit Refusal)
repair_in words day =
    let answer = (repair_of (station_in words) day).answer in
    record { answer = answer; places = repair_left answer words (repair_places words day) }

abbrev pub market_left : Result Certificate Refusal → (came written : List ℤ) → List ℤ
market_left (Ok c) came written = written
market_left (Err r) came written = came

unfoldable pub market_in : List ℤ → ℕ → ℕ → Scan → Asked → Basis → Left (Result Certificate Refusal)
market_in words day line scan asked basis =
    let answer = (market_of (station_in words) day line scan asked basis).answer in
    record { answer = answer; places = market_left answer words (market_places words day) }

-- ---- lists of calls, each on the places that the call before left

-- the places after a call
unfoldable pub places_after : List ℤ → Call → List ℤ
places_after words (sheet_call day line numbers) = (sheet_in words day line numbers).places
places_after words (repair_call day) = (repair_in words day).places
places_after words (market_call day line scan asked basis) = (market_in words day line scan asked basis).places

-- what it is answered
unfoldable pub reply_in : List ℤ → Call → Reply
reply_in words (sheet_call day line numbers) = sheet_reply (sheet_in words day line numbers).answer
reply_in words (repair_call day) = repair_reply (repair_in words day).answer
reply_in words (market_call day line scan asked basis) = market_reply (market_in words day line scan asked basis).answer

abbrev pub replies_in : List ℤ → List Call → List Reply
replies_in words [] = []
replies_in words (c ∷ cs) = reply_in words c ∷ replies_in (places_after words c) cs

abbrev pub places_after_all : List ℤ → List Call → List ℤ
places_after_all words [] = words
places_after_all words (c ∷ cs) = places_after_all (places_after words c) cs

-- the places after each call hold the station that the call of `Stations` hands back, whatever stood in them before
pub record HoldsStation : Type 0 where
  pub opening : (row : ℕ) → station_in (open_in row).places ≡ (open_of row).station
  pub sheet : (words : List ℤ) (day line : ℕ) (numbers : List ℤ)
      → station_in (sheet_in words day line numbers).places ≡ (sheet_of (station_in words) day line numbers).station
  pub repair : (words : List ℤ) (day : ℕ) → station_in (repair_in words day).places ≡ (repair_of (station_in words) day).station
  pub market : (words : List ℤ) (day line : ℕ) (scan : Scan) (asked : Asked) (basis : Basis)
      → station_in (market_in words day line scan asked basis).places ≡ (market_of (station_in words) day line scan asked basis).station

-- so every list of calls on places is answered as the same list on the station that they hold, of which demand 3 speaks
pub record AsHeld (words : List ℤ) (calls : List Call) : Type 0 where
  pub answers : replies_in words calls ≡ replies (station_in words) calls
  pub after : station_in (places_after_all words calls) ≡ station_after_all (station_in words) calls

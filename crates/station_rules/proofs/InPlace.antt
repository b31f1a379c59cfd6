-- The places after a call hold the station that the call hands back: the places are spelled out, and the rest is computed.
use mathlib.Core.Path.{◌≡◌, refl, ◌∙◌, ap, subst}
use mathlib.Core.Bool.{Bool, true, false, ◌&&◌, cond}
use mathlib.Core.List.{List, [], ◌∷◌, ◌++◌}
use Rattle.std.specs.Prelude.{Ok, Err, Option, None, Some}
use Prim.Native.Nat.{ℕ, zero, suc, min, ◌<◌}
use native.Mathlib.Omega.{arith}
use lib.Dec.{T, eqb, leb, ltb}
use lib.IntN.{ℤ, pos, ◌+ℤ◌}
use lib.ListN.{length, take, set}
use borrow.Author.Tests.{eqb-true, not-false}
use Rattle.whole.specs.Lists.{all, Check}
use Rattle.whole.proofs.Spelled.{elements, spelled}
use Rattle.std.specs.Bool.{passes}
use Rattle.std.proofs.lemmas.Bool.{and_parts}
use Rattle.station_rules.specs.Rows.{row_exists, samples, line_count, limits_of}
use Rattle.station_rules.specs.Refusals.{first_number, refusal_of}
use Rattle.station_rules.specs.Lines.{LinePhase, new_line, open_line, adjusted_line, shut_line, is_nonzero, past_set}
use Rattle.station_rules.specs.Held.{Station, phase_word, phase_code, emptied, joined, opened, line_after, repaired_line}
use Rattle.station_rules.specs.Soundness.{sound_line, sound, sound_check}
use Rattle.station_rules.specs.Sheets.{sheet_checks}
use Rattle.station_rules.specs.Judging.{day_check, line_check, repair_numbers, sheet_numbers, market_numbers, sheet_set, sheet_verdict}
use Rattle.station_rules.specs.Markets.{certificate_of}
use Rattle.station_rules.specs.Stations.{Opening, fresh_station, open_of, line_of, values_of, sheet_station, sheet_result, outcome_of, sheet_of, repair_station, repair_result, repair_of, market_station, market_result, market_of}
use Rattle.station_rules.specs.Calls.{Call, sheet_call, repair_call, market_call, station_after, station_reply, replies, station_after_all}
use Rattle.whole.specs.Places.{place, natural, joined_sets}
use Rattle.station_rules.specs.Places.{line_in, line_places, row_in, station_in}
use Rattle.station_rules.specs.InPlace.{set_places, newest_places, nonzero_places, emptied_places, joined_places, opened_places, sheet_line, repaired_places, with_day, with_line, with_repaired, open_left, open_in, sheet_places, sheet_left, sheet_in, repair_places, repair_left, repair_in, market_places, market_left, market_in, places_after, reply_in, HoldsStation, AsHeld}
use Rattle.station_rules.specs.declared.PastSet.{PastSet}
use Rattle.station_rules.specs.declared.Line.{Line}
use Rattle.station_rules.specs.declared.Verdict.{Verdict}
use Rattle.station_rules.specs.declared.Verdict.TheVariants.{Met, Adjusted, Shut}
use Rattle.station_rules.specs.declared.Scan.{Scan}
use Rattle.station_rules.specs.declared.Asked.{Asked}
use Rattle.station_rules.specs.declared.Basis.{Basis}
use Rattle.station_rules.proofs.Phases.{repaired_code_lem}
use Rattle.station_rules.proofs.Checks.{none_head, none_tail}
use Rattle.station_rules.proofs.RowFacts.{row_facts}
use Rattle.station_rules.proofs.Agreement.{line_ok}

-- ---- a sound station has 68 places

no_row : (b : Bool) (n : ℕ) → T (row_exists (cond b n 4294967295)) → b ≡ true
no_row true n t = refl
no_row false n t = absurd t

pub all_places : (words : List ℤ) → sound (station_in words) ≡ true → length words ≡ 68
unfolding sound station_in row_in
all_places words e =
    let s = station_in words in
    let row = row_exists s.row in
    let day = leb s.day 99999 in
    let lines = all (sound_line (samples s.row) s.day) (take (line_count s.row) s.lines) in
    let there = (and_parts row day (and_parts (row && day) lines e).0).0 in
    eqb-true (length words) 68 (no_row (eqb (length words) 68) (natural (place words 0)) (passes row there))

-- ---- a line's places

-- places of a line are spelled out
module _ (line : List ℤ) (full : length line ≡ 22) where
  spelled_line : elements (pos 0) line 22 0 ≡ line
  spelled_line = spelled (pos 0) line 22 full

  abbrev IsJoined : PastSet → List ℤ → Type 0
  IsJoined p w = (line_in (joined_places w p) ≡ joined (line_in w) p) × (length (joined_places w p) ≡ 22)

  joined_line : (p : PastSet) → IsJoined p line
  unfolding line_in elements
  joined_line p = subst (IsJoined p) spelled_line (go (is_nonzero p))
    where
      -- whether it isn't zero
      go : (b : Bool) → let w = elements (pos 0) line 22 0 in
          let written = place w 0 ∷ pos (phase_code open_line) ∷ joined_sets 2 (newest_places w) (set_places p)
          ++ cond b (joined_sets 4 (nonzero_places w) (set_places p)) (nonzero_places w) in
          let l = line_in w in
          (line_in written ≡ record {
            intercept = l.intercept;
            phase = phase_code open_line;
            newest_held = min 2 (suc l.newest_held);
            newest = p ∷ take 1 l.newest;
            nonzero_held = cond b (min 4 (suc l.nonzero_held)) l.nonzero_held;
            nonzero = cond b (p ∷ take 3 l.nonzero) l.nonzero;
          }) × (length written ≡ 22)
      go true = (refl, refl)
      go false = (refl, refl)

emptied_line : (intercept phase : ℤ) → line_in (emptied_places intercept phase) ≡ emptied intercept (natural phase)
unfolding line_in
emptied_line intercept phase = refl

module _ (line : List ℤ) (full : length line ≡ 22) where
  opened_line : (phase : LinePhase) (p : PastSet) → (line_in (opened_places phase line p) ≡ opened phase (line_in line) p) × (length (opened_places phase line p) ≡ 22)
  unfolding line_in
  opened_line new_line p = joined_line line full p
  opened_line open_line p = joined_line line full p
  opened_line adjusted_line p = joined_line (emptied_places (place line 0) (place line 1)) refl p
  opened_line shut_line p = joined_line (emptied_places (place line 0) (place line 1)) refl p

  pub sheet_line_lem : (p : PastSet) (v : Verdict) → line_in (sheet_line line p v) ≡ line_after (line_in line) p v
  unfolding sheet_line line_in
  sheet_line_lem p Met = (opened_line (phase_word (line_in line).phase) p).0
  sheet_line_lem p (Adjusted change) = refl
  sheet_line_lem p Shut = emptied_line (place line 0 +ℤ pos 0) (pos (phase_code shut_line))

  pub sheet_full : (p : PastSet) (v : Verdict) → length (sheet_line line p v) ≡ 22
  unfolding sheet_line
  sheet_full p Met = (opened_line (phase_word (line_in line).phase) p).1
  sheet_full p (Adjusted change) = refl
  sheet_full p Shut = refl

pub repaired_line_lem : (line : List ℤ) → line_in (repaired_places line) ≡ repaired_line (line_in line)
unfolding repaired_places line_in
repaired_line_lem line = ap (emptied (place line 0)) (go (ltb (natural (place line 1)) 2) ∙ repaired_code_lem (natural (place line 1)))
  where
    go : (early : Bool) → natural (cond early (pos 0) (place line 1)) ≡ cond early 0 (natural (place line 1))
    go true = refl
    go false = refl

repaired_full : (line : List ℤ) → length (repaired_places line) ≡ 22
unfolding repaired_places
repaired_full line = refl

-- ---- a station's places

module _ (words : List ℤ) (full : length words ≡ 68) where
  spelled_station : elements (pos 0) words 68 0 ≡ words
  spelled_station = spelled (pos 0) words 68 full

  pub line_full : (line : ℕ) → line < 3 → length (line_places words line) ≡ 22
  unfolding elements
  line_full zero h = subst (λ (w : List ℤ). length (line_places w 0) ≡ 22) spelled_station refl
  line_full (suc zero) h = subst (λ (w : List ℤ). length (line_places w 1) ≡ 22) spelled_station refl
  line_full (suc (suc zero)) h = subst (λ (w : List ℤ). length (line_places w 2) ≡ 22) spelled_station refl
  line_full (suc (suc (suc n))) h = absurd (omega arith)

  pub day_written : (day : ℕ) → station_in (with_day words day) ≡ market_station (station_in words) day
  unfolding station_in row_in elements
  day_written day = subst (λ (w : List ℤ). station_in (with_day w day) ≡ market_station (station_in w) day) spelled_station refl

  module _ (written : List ℤ) (whole_line : length written ≡ 22) where
    -- with a line written: the station of places spelled out, and of a line spelled out
    abbrev IsWritten : ℕ → List ℤ → List ℤ → Type 0
    IsWritten line w l =
        (station_in (with_line w line l) ≡ record { row = (station_in w).row; day = (station_in w).day; lines = set (station_in w).lines line (line_in l) })
        × (length (with_line w line l) ≡ 68)

    abbrev both_spelled : (line : ℕ) → IsWritten line (elements (pos 0) words 68 0) (elements (pos 0) written 22 0) → IsWritten line words written
    both_spelled line r =
        subst (λ (l : List ℤ). IsWritten line words l) (spelled (pos 0) written 22 whole_line)
        (subst (λ (w : List ℤ). IsWritten line w (elements (pos 0) written 22 0)) spelled_station r)

    pub line_written : (line : ℕ) → line < 3 → IsWritten line words written
    unfolding station_in row_in line_in elements
    line_written zero h = both_spelled 0 (refl, refl)
    line_written (suc zero) h = both_spelled 1 (refl, refl)
    line_written (suc (suc zero)) h = both_spelled 2 (refl, refl)
    line_written (suc (suc (suc n))) h = absurd (omega arith)

-- the line of a number
pub line_there : (words : List ℤ) (line : ℕ) → line < 3 → line_in (line_places words line) ≡ line_of (station_in words) line
unfolding station_in
line_there words zero h = refl
line_there words (suc zero) h = refl
line_there words (suc (suc zero)) h = refl
line_there words (suc (suc (suc n))) h = absurd (omega arith)

-- ---- an accepted call's places

module _ (words : List ℤ) (full : length words ≡ 68) where
  pub sheet_written : (day line : ℕ) (numbers : List ℤ) → line < 3
      → station_in (sheet_places words day line numbers) ≡ sheet_station (station_in words) day line numbers
  unfolding sheet_places sheet_station
  sheet_written day line numbers h =
      let s = station_in words in
      let v = values_of s line in
      let p = past_set day (sheet_set s.row v day line numbers) in
      let verdict = sheet_verdict s.row v day line numbers in
      let part = line_places words line in
      let there = line_full words full line h in
      let w = line_written words full (sheet_line part p verdict) (sheet_full part there p verdict) line h in
      day_written (with_line words line (sheet_line part p verdict)) w.1 day
      ∙ ap (λ (x : Station). market_station x day) w.0
      ∙ (λ i. record {
        row = s.row;
        day = day;
        lines = set s.lines line ((sheet_line_lem part there p verdict ∙ ap (λ (l : Line). line_after l p verdict) (line_there words line h)) i);
      })

  module _ (line : ℕ) (h : line < 3) where
    pub repaired_one : station_in (with_repaired words line)
        ≡ record { row = (station_in words).row; day = (station_in words).day; lines = set (station_in words).lines line (repaired_line (line_of (station_in words) line)) }
    repaired_one =
        let part = line_places words line in
        (line_written words full (repaired_places part) (repaired_full part) line h).0
        ∙ (λ i. record {
          row = (station_in words).row;
          day = (station_in words).day;
          lines = set (station_in words).lines line ((repaired_line_lem part ∙ ap repaired_line (line_there words line h)) i);
        })

    pub repaired_68 : length (with_repaired words line) ≡ 68
    repaired_68 = (line_written words full (repaired_places (line_places words line)) (repaired_full (line_places words line)) line h).1

pub repair_written : (words : List ℤ) → length words ≡ 68 → (day : ℕ) → station_in (repair_places words day) ≡ repair_station (station_in words) day
unfolding repair_places station_in
repair_written words full day =
    let a = with_repaired words 0 in
    let b = with_repaired a 1 in
    let a68 = repaired_68 words full 0 (omega arith) in
    let b68 = repaired_68 a a68 1 (omega arith) in
    let c68 = repaired_68 b b68 2 (omega arith) in
    let with : (line : ℕ) → Station → Station = λ line s. record { row = s.row; day = s.day; lines = set s.lines line (repaired_line (line_of s line)) } in
    day_written (with_repaired b 2) c68 day
    ∙ ap (λ (s : Station). market_station s day)
    (repaired_one b b68 2 (omega arith) ∙ ap (with 2) (repaired_one a a68 1 (omega arith) ∙ ap (with 1) (repaired_one words full 0 (omega arith))))

-- ---- the calls

pub open_holds : (row : ℕ) → station_in (open_in row).places ≡ (open_of row).station
unfolding open_in open_of station_in row_in line_in
open_holds row = go (row_exists row)
  where
    opening : Bool → Opening
    opening there =
        cond there (record { station = fresh_station row; answer = Ok tt }) (record { station = fresh_station 0; answer = Err (refusal_of 1) })

    go : (there : Bool) → station_in (open_left row (opening there).answer) ≡ (opening there).station
    go true = refl
    go false = refl

-- a call on a station in its places: a refused one leaves them, and where no number applies, the station is sound, so it has 68 places
module _ (words : List ℤ) (numbers : List (Check ℕ)) (left : Option ℕ → List ℤ) (station : Option ℕ → Station) where
  abbrev checks : List (Check ℕ)
  checks = sound_check (station_in words) ∷ numbers

  settled : ((n : ℕ) → station_in (left (Some n)) ≡ station (Some n))
      → (first_number checks ≡ None → length words ≡ 68 → station_in (left None) ≡ station None)
      → station_in (left (first_number checks)) ≡ station (first_number checks)
  settled refused accepted = go (first_number checks) refl
    where
      go : (o : Option ℕ) → first_number checks ≡ o → station_in (left o) ≡ station o
      go (Some n) e = refused n
      go None e = accepted e (all_places words (not-false (sound (station_in words)) (none_head (sound_check (station_in words)) numbers e)))

pub sheet_holds : (words : List ℤ) (day line : ℕ) (numbers : List ℤ)
    → station_in (sheet_in words day line numbers).places ≡ (sheet_of (station_in words) day line numbers).station
unfolding sheet_in sheet_of sheet_numbers
sheet_holds words day line numbers =
    let s = station_in words in
    let v = values_of s line in
    let result = λ (o : Option ℕ). sheet_result o s (sheet_station s day line numbers) (outcome_of s day line numbers) in
    let cs = sheet_checks (limits_of s.row line) v.intercept (samples s.row) numbers in
    settled words (sheet_numbers s.row s.day v day line numbers) (λ o. sheet_left (result o).answer words (sheet_places words day line numbers)) (λ o. (result o).station)
    (λ n. refl)
    (λ e full.
    let here = line_ok s.row line (day_check s.day day) cs (none_tail (sound_check s) (day_check s.day day ∷ line_check s.row line ∷ cs) e) in
    sheet_written words full day line numbers (omega (arith, (row_facts s.row).three_lines)))

pub repair_holds : (words : List ℤ) (day : ℕ) → station_in (repair_in words day).places ≡ (repair_of (station_in words) day).station
unfolding repair_in repair_of
repair_holds words day =
    let s = station_in words in
    let result = λ (o : Option ℕ). repair_result o s (repair_station s day) in
    settled words (repair_numbers s.day day) (λ o. repair_left (result o).answer words (repair_places words day)) (λ o. (result o).station)
    (λ n. refl) (λ e full. repair_written words full day)

pub market_holds : (words : List ℤ) (day line : ℕ) (scan : Scan) (asked : Asked) (basis : Basis)
    → station_in (market_in words day line scan asked basis).places ≡ (market_of (station_in words) day line scan asked basis).station
unfolding market_in market_of
market_holds words day line scan asked basis =
    let s = station_in words in
    let v = values_of s line in
    let result = λ (o : Option ℕ). market_result o s (market_station s day) (certificate_of s.row v line scan asked basis) in
    settled words (market_numbers s.row s.day v day line scan asked basis) (λ o. market_left (result o).answer words (market_places words day)) (λ o. (result o).station)
    (λ n. refl) (λ e full. day_written words full day)

pub holds_station : HoldsStation
holds_station = record { opening = open_holds; sheet = sheet_holds; repair = repair_holds; market = market_holds }

-- ---- lists of calls

after_holds : (words : List ℤ) (c : Call) → station_in (places_after words c) ≡ station_after (station_in words) c
unfolding places_after station_after
after_holds words (sheet_call day line numbers) = sheet_holds words day line numbers
after_holds words (repair_call day) = repair_holds words day
after_holds words (market_call day line scan asked basis) = market_holds words day line scan asked basis

reply_holds : (words : List ℤ) (c : Call) → reply_in words c ≡ station_reply (station_in words) c
unfolding reply_in station_reply sheet_in repair_in market_in
reply_holds words (sheet_call day line numbers) = refl
reply_holds words (repair_call day) = refl
reply_holds words (market_call day line scan asked basis) = refl

pub as_held : (words : List ℤ) (calls : List Call) → AsHeld words calls
as_held words [] = record { answers = refl; after = refl }
as_held words (c ∷ cs) =
    let later = as_held (places_after words c) cs in
    let held = after_holds words c in
    record {
      answers = (λ i. reply_holds words c i ∷ later.answers i) ∙ ap (λ (s : Station). station_reply (station_in words) c ∷ replies s cs) held;
      after = later.after ∙ ap (λ (s : Station). station_after_all s cs) held;
    }

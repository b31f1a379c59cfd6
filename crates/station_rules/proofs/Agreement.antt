-- The station answers every list of calls as the book does, by an invariant between a station and a book.
use mathlib.Core.Path.{◌≡◌, refl, sym, ◌∙◌, ap, ap₂, subst⁻¹}
use mathlib.Core.Logic.{◌≢◌}
use mathlib.Core.Bool.{Bool, true, false, not, ◌&&◌, cond}
use mathlib.Core.List.{List, [], ◌∷◌, map}
use Rattle.std.specs.Prelude.{Ok, Err, Option, None, Some}
use Prim.Native.Nat.{ℕ, ◌≤◌, ◌<◌}
use native.Mathlib.Omega.{arith}
use native.Mathlib.Decide.{ℕ_discrete}
use lib.Dec.{T, eqb, leb, ltb, le→leb}
use lib.ListN.{length, take, get_or, set, replicate, length-set, length-map, get_or-map}
use lib.Seq.{get_or-set_same, get_or-set_other}
use lib.IntN.{ℤ, ◌+ℤ◌}
use lib.Ieee.Fits.{and_i}
use Rattle.std.specs.Bool.{passes}
use Rattle.std.proofs.lemmas.Bool.{ltb-true, ltb-false, eq-eqb, ne_eqb, not-false, or_parts}
use Rattle.std.proofs.lemmas.Bool.Decides.{nat_tests}
use Rattle.std.proofs.lemmas.Grind.{common_steps}
use Rattle.whole.specs.Lists.{all, Check}
use lib.Ieee.Bits.{is_true}
use Rattle.station_rules.specs.Rows.{row_exists, samples, line_count, limits_of}
use Rattle.station_rules.specs.Refusals.{first_number, number_of, refusal_of}
use Rattle.station_rules.specs.Sheets.{sheet_checks}
use Rattle.station_rules.specs.Lines.{open_phase, check_due_phase, Values, past_set, change_of, is_met}
use Rattle.station_rules.specs.Markets.{certificate_of, market_checks}
use Rattle.station_rules.specs.Judging.{day_check, line_check, sheet_numbers, market_numbers, repair_numbers, sheet_set, sheet_verdict}
use Rattle.station_rules.specs.Held.{said_word, phase_said, repaired_phase, fresh_line, line_after, repaired_line}
use Rattle.station_rules.specs.Soundness.{sound, sound_line, sound_set, sound_check}
use Rattle.station_rules.specs.Stations.{fresh_station, open_of, values_of, sheet_station, repair_station, market_station, outcome_of, sheet_result, sheet_of, repair_result, repair_of, market_result, market_of}
use Rattle.station_rules.specs.Replies.{Reply, refused_by, outcome, repaired, certificate, sheet_reply, repair_reply, market_reply}
use Rattle.station_rules.specs.Calls.{Call, sheet_call, repair_call, market_call, station_after, station_reply, replies, station_after_all}
use Rattle.station_rules.specs.Books.{Book, SheetEntry, sheet_entry, fresh_book, book_values, book_intercept, book_phase, book_past, book_number, entry_phase, entry_of, accepted, granted_reply, or_refused, or_same, book_reply, book_after, book_replies, book_after_all}
use Rattle.station_rules.specs.Laws.{held_values, HeldServe, OpensFresh, StaysSound}
use Rattle.station_rules.specs.declared.Outcome.{Outcome}
use Rattle.station_rules.specs.declared.Certificate.{Certificate}
use Rattle.station_rules.specs.declared.Scan.{Scan}
use Rattle.station_rules.specs.declared.Asked.{Asked}
use Rattle.station_rules.specs.declared.Basis.{Basis}
use Rattle.station_rules.specs.declared.Line.{Line}
use Rattle.station_rules.specs.declared.Set.{Set}
use Rattle.station_rules.specs.declared.Verdict.{Verdict}
use Rattle.station_rules.specs.declared.Verdict.TheVariants.{Met, Adjusted, Shut}
use Rattle.station_rules.specs.Held.{Station}
use Rattle.station_rules.proofs.Checks.{has_refusal, known_number, none_head, none_tail, passed_over}
use Rattle.whole.proofs.Elements.{all_take, all_at}
use Rattle.station_rules.proofs.RowFacts.{row_facts}
use Rattle.station_rules.proofs.HeldSets.{held_serve}
use Rattle.station_rules.proofs.SheetBounds.{Bounded, set_bounded}
use Rattle.station_rules.proofs.BookValues.{without_sets, other_values, met_values, unmet_values, repair_values}
use Rattle.station_rules.proofs.Verdicts.{met_is_met, verdict_met, verdict_small}
use Rattle.station_rules.proofs.Adjustments.{adjustment_changes}
use Rattle.station_rules.proofs.Invariant.{LineAgrees, same_values, later_line, line_sound, fresh_line_lem, after_met, after_unmet, after_repair}

-- ---- a station's call, as a number or what it comes to when accepted

unfoldable pub checks_of : Station → Call → List (Check ℕ)
checks_of s (sheet_call day line numbers) = sound_check s ∷ sheet_numbers s.row s.day (values_of s line) day line numbers
checks_of s (repair_call day) = sound_check s ∷ repair_numbers s.day day
checks_of s (market_call day line scan asked basis) = sound_check s ∷ market_numbers s.row s.day (values_of s line) day line scan asked basis

next_of : Station → Call → Station
next_of s (sheet_call day line numbers) = sheet_station s day line numbers
next_of s (repair_call day) = repair_station s day
next_of s (market_call day line scan asked basis) = market_station s day

unfoldable pub granted_of : Station → Call → Reply
granted_of s (sheet_call day line numbers) =
    let o = outcome_of s day line numbers in
    outcome o.sum o.count (said_word o.phase) o.change
granted_of s (repair_call day) = repaired
granted_of s (market_call day line scan asked basis) =
    let c = certificate_of s.row (values_of s line) line scan asked basis in
    certificate c.day c.intercept c.basis c.figure c.converted

or_stays : Option ℕ → Station → Station → Station
or_stays None s next = next
or_stays (Some number) s next = s

-- every check's number is that of a refusal
pub all_known : (s : Station) (c : Call) → T (all (λ k. has_refusal k.answer) (checks_of s c))
unfolding checks_of sheet_numbers sheet_checks market_numbers market_checks
all_known s (sheet_call day line numbers) = tt
all_known s (repair_call day) = tt
all_known s (market_call day line scan asked basis) = tt

-- each kind of call, whatever number applies: the station that is left, and the reply
abbrev Known : Option ℕ → Type 0
Known o = (n : ℕ) → o ≡ Some n → number_of (refusal_of n) ≡ n

module _ (s next : Station) where
  abbrev Settled : Option ℕ → Station → Reply → Reply → Type 0
  Settled o left reply granted = (left ≡ or_stays o s next) × (reply ≡ or_refused o granted)

  sheet_settled : (x : Outcome) (o : Option ℕ) → Known o
      → let r = sheet_result o s next x in Settled o r.station (sheet_reply r.answer) (outcome x.sum x.count (said_word x.phase) x.change)
  unfolding or_stays
  sheet_settled x None k = (refl, refl)
  sheet_settled x (Some n) k = (refl, ap refused_by (k n refl))

  repair_settled : (o : Option ℕ) → Known o → let r = repair_result o s next in Settled o r.station (repair_reply r.answer) repaired
  unfolding or_stays
  repair_settled None k = (refl, refl)
  repair_settled (Some n) k = (refl, ap refused_by (k n refl))

  market_settled : (x : Certificate) (o : Option ℕ) → Known o
      → let r = market_result o s next x in Settled o r.station (market_reply r.answer) (certificate x.day x.intercept x.basis x.figure x.converted)
  unfolding or_stays
  market_settled x None k = (refl, refl)
  market_settled x (Some n) k = (refl, ap refused_by (k n refl))

settled : (s : Station) (c : Call) → Settled s (next_of s c) (first_number (checks_of s c)) (station_after s c) (station_reply s c) (granted_of s c)
unfolding station_after station_reply checks_of next_of granted_of sheet_of repair_of market_of
settled s c = by c (λ n. known_number (checks_of s c) n (all_known s c))
  where
    by : (c : Call) → Known (first_number (checks_of s c))
        → Settled s (next_of s c) (first_number (checks_of s c)) (station_after s c) (station_reply s c) (granted_of s c)
    by (sheet_call day line numbers) k = sheet_settled s (sheet_station s day line numbers) (outcome_of s day line numbers) _ k
    by (repair_call day) k = repair_settled s (repair_station s day) _ k
    by (market_call day line scan asked basis) k = market_settled s (market_station s day) (certificate_of s.row (values_of s line) line scan asked basis) _ k

pub reply_is : (s : Station) (c : Call) → station_reply s c ≡ or_refused (first_number (checks_of s c)) (granted_of s c)
reply_is s c = (settled s c).1

-- ---- the invariant

-- the station with the book's row and day, and some lines
abbrev pub station_of : Book → List Line → Station
station_of b ls = record { row = b.row; day = b.day; lines = ls }

-- each line has the book's values, with the newest two sets and the newest four that aren't zero, and is sound
pub record Agrees (ls : List Line) (b : Book) : Type 0 where
  pub exists : T (row_exists b.row)
  pub last : b.day ≤ 99999
  pub three : length ls ≡ 3
  pub lines : (i : ℕ) → LineAgrees (samples b.row) b.day (get_or ls i fresh_line) (book_values i b.entries)

pub sound_station : (b : Book) (ls : List Line) → Agrees ls b → sound (station_of b ls) ≡ true
unfolding sound
sound_station b ls a =
    let n = samples b.row in
    let k = line_count b.row in
    is_true (row_exists b.row && leb b.day 99999 && all (sound_line n b.day) (take k ls))
    (and_i (row_exists b.row && leb b.day 99999) (all (sound_line n b.day) (take k ls))
    (and_i (row_exists b.row) (leb b.day 99999) a.exists (le→leb b.day 99999 a.last))
    (all_take (sound_line n b.day) k ls
    (all_at (sound_line n b.day) fresh_line ls (λ i. line_sound n b.day (get_or ls i fresh_line) (book_values i b.entries) (a.lines i)))))

-- ---- a call is judged alike

module _ (b : Book) (ls : List Line) (a : Agrees ls b) where
  -- a station's line is judged by what it holds, the book's by all its sets
  held_of : (line : ℕ) → values_of (station_of b ls) line ≡ held_values (book_values line b.entries)
  held_of line = same_values (samples b.row) b.day (get_or ls line fresh_line) (book_values line b.entries) (a.lines line)

  serve : (day line : ℕ) → HeldServe b.row (book_values line b.entries) day line
  serve day line = held_serve b.row (book_values line b.entries) day line

  passed : (cs : List (Check ℕ)) → first_number (sound_check (station_of b ls) ∷ cs) ≡ first_number cs
  passed cs = passed_over (not (sound (station_of b ls))) 0 (first_number cs) (ap not (sound_station b ls a))

  number_same : (c : Call) → first_number (checks_of (station_of b ls) c) ≡ book_number b c
  unfolding checks_of book_number
  number_same (sheet_call day line numbers) =
      passed (sheet_numbers b.row b.day (values_of (station_of b ls) line) day line numbers)
      ∙ ap (λ (w : Values). first_number (sheet_numbers b.row b.day w day line numbers)) (held_of line)
      ∙ ap first_number ((serve day line).numbers b.day numbers)
  number_same (repair_call day) = passed (repair_numbers b.day day)
  number_same (market_call day line scan asked basis) =
      passed (market_numbers b.row b.day (values_of (station_of b ls) line) day line scan asked basis)
      ∙ ap (λ (w : Values). first_number (market_numbers b.row b.day w day line scan asked basis)) (held_of line)
      ∙ ap first_number ((serve day line).market b.day scan asked basis)

  set_path : (day line : ℕ) (numbers : List ℤ)
      → sheet_set b.row (values_of (station_of b ls) line) day line numbers ≡ sheet_set b.row (book_values line b.entries) day line numbers
  set_path day line numbers =
      ap (λ (w : Values). sheet_set b.row w day line numbers) (held_of line)
      ∙ (serve day line).set numbers

  verdict_path : (day line : ℕ) (numbers : List ℤ)
      → sheet_verdict b.row (values_of (station_of b ls) line) day line numbers ≡ sheet_verdict b.row (book_values line b.entries) day line numbers
  verdict_path day line numbers =
      ap (λ (w : Values). sheet_verdict b.row w day line numbers) (held_of line)
      ∙ (serve day line).verdict b.day (a.lines line).good.newest.falls (a.lines line).good.nonzero.falls numbers

  -- the phase that an outcome says, by whether the sheet met every average due
  phase_path : (day line : ℕ) (numbers : List ℤ)
      → said_word (phase_said (sheet_verdict b.row (values_of (station_of b ls) line) day line numbers)) ≡ entry_phase (entry_of b day line numbers)
  unfolding entry_of sheet_verdict
  phase_path day line numbers =
      let v = book_values line b.entries in
      ap (λ (w : Verdict). said_word (phase_said w)) (verdict_path day line numbers)
      ∙ said (sheet_verdict b.row v day line numbers)
      ∙ ap (λ (m : Bool). cond m open_phase check_due_phase) (met_is_met (limits_of b.row line) v day (sheet_set b.row v day line numbers))
    where
      said : (w : Verdict) → said_word (phase_said w) ≡ cond (is_met w) open_phase check_due_phase
      said Met = refl
      said (Adjusted change) = refl
      said Shut = refl

  granted_same : (c : Call) → granted_of (station_of b ls) c ≡ granted_reply b c
  unfolding granted_of granted_reply outcome_of entry_of
  granted_same (sheet_call day line numbers) =
      λ i. outcome (set_path day line numbers i).sum (set_path day line numbers i).count (phase_path day line numbers i) (change_of (verdict_path day line numbers i))
  granted_same (repair_call day) = refl
  granted_same (market_call day line scan asked basis) =
      ap (λ (c : Certificate). certificate c.day c.intercept c.basis c.figure c.converted)
      (ap (λ (w : Values). certificate_of b.row w line scan asked basis) (held_of line)
      ∙ (serve day line).certificate scan asked basis)

-- ---- what no number leaves

day_ok : (last day : ℕ) (cs : List (Check ℕ)) → first_number (day_check last day ∷ cs) ≡ None → (last ≤ day) × (day ≤ 99999)
day_ok last day cs e =
    let f = or_parts (ltb day last) (ltb 99999 day) (none_head (day_check last day) cs e) in
    (ltb-false day last f.0, ltb-false 99999 day f.1)

pub line_ok : (row line : ℕ) (c : Check ℕ) (cs : List (Check ℕ)) → first_number (c ∷ line_check row line ∷ cs) ≡ None → line < line_count row
line_ok row line c cs e =
    ltb-true line (line_count row) (not-false (ltb line (line_count row)) (none_head (line_check row line) cs (none_tail c (line_check row line ∷ cs) e)))

-- a set that counts has the bounds that number 0 asks for
set_sound : (n day : ℕ) (set : Set) → Bounded n set → eqb set.count 0 ≡ false → T (sound_set n (past_set day set))
set_sound n day set h e =
    let even = h.even in
    let most = h.most in
    let size = h.size in
    passes (sound_set n (past_set day set)) (grind (arith, nat_tests))

-- ---- what an accepted call leaves

-- the lines that agree with the book after an accepted call, with the station
record Next (b : Book) (ls : List Line) (c : Call) : Type 0 where
  lines : List Line
  station : next_of (station_of b ls) c ≡ station_of (accepted b c) lines
  agrees : Agrees lines (accepted b c)

module _ (b : Book) (ls : List Line) (a : Agrees ls b) where
  module _ (day line : ℕ) (numbers : List ℤ) (e : book_number b (sheet_call day line numbers) ≡ None) where
    sheet_day : (b.day ≤ day) × (day ≤ 99999)
    unfolding book_number sheet_numbers
    sheet_day =
        day_ok b.day day
        (line_check b.row line ∷ sheet_checks (limits_of b.row line) (book_values line b.entries).intercept (samples b.row) numbers) e

    here : line < line_count b.row
    unfolding book_number sheet_numbers
    here =
        let cs = sheet_checks (limits_of b.row line) (book_values line b.entries).intercept (samples b.row) numbers in
        line_ok b.row line (day_check b.day day) cs e

    sheet_line_lem : line < length ls
    sheet_line_lem = omega (arith, here, (row_facts b.row).three_lines, a.three)

    sheet_bounded : Bounded (samples b.row) (sheet_set b.row (book_values line b.entries) day line numbers)
    unfolding book_number sheet_numbers sheet_set
    sheet_bounded =
        let cs = sheet_checks (limits_of b.row line) (book_values line b.entries).intercept (samples b.row) numbers in
        set_bounded (limits_of b.row line) (book_values line b.entries).intercept (samples b.row) numbers (a.lines line).good.small
        (none_tail (line_check b.row line) cs (none_tail (day_check b.day day) (line_check b.row line ∷ cs) e))

    -- the line after the sheet
    after : Line
    after =
        line_after (get_or ls line fresh_line) (past_set day (sheet_set b.row (book_values line b.entries) day line numbers))
        (sheet_verdict b.row (book_values line b.entries) day line numbers)

    -- the entry in the book
    entry : SheetEntry
    entry = entry_of b day line numbers

    -- the verdict meets as the entry says
    met_path : is_met (sheet_verdict b.row (book_values line b.entries) day line numbers) ≡ entry.met
    unfolding entry entry_of sheet_verdict
    met_path = met_is_met (limits_of b.row line) (book_values line b.entries) day (sheet_set b.row (book_values line b.entries) day line numbers)

    own : LineAgrees (samples b.row) day after (book_values line (sheet_entry entry ∷ b.entries))
    unfolding after entry entry_of sheet_verdict
    own = go (is_met (sheet_verdict b.row (book_values line b.entries) day line numbers)) refl
      where
        go : (m : Bool) → is_met (sheet_verdict b.row (book_values line b.entries) day line numbers) ≡ m
            → LineAgrees (samples b.row) day after (book_values line (sheet_entry entry ∷ b.entries))
        go true m =
            let v = book_values line b.entries in
            let set = sheet_set b.row v day line numbers in
            let f = verdict_met (limits_of b.row line) v day set m in
            subst⁻¹ (λ (w : Values). LineAgrees (samples b.row) day after w)
            (met_values line entry b.entries (eq-eqb line line refl) (sym met_path ∙ m))
            (after_met (samples b.row) b.day day (get_or ls line fresh_line) v (a.lines line) sheet_day.0 (past_set day set) refl
            (set_sound (samples b.row) day set sheet_bounded f) (sheet_verdict b.row v day line numbers) m)
        go false m =
            let v = book_values line b.entries in
            let set = sheet_set b.row v day line numbers in
            subst⁻¹ (λ (w : Values). LineAgrees (samples b.row) day after w)
            (unmet_values line entry b.entries (eq-eqb line line refl) (sym met_path ∙ m)
            ∙ ap (without_sets (entry.change +ℤ v.intercept)) (sym (adjustment_changes.told b.row line here v day set (sym met_path ∙ m))))
            (after_unmet (samples b.row) b.day day (get_or ls line fresh_line) v (a.lines line) sheet_day.0 (past_set day set)
            (sheet_verdict b.row v day line numbers) m (verdict_small (limits_of b.row line) v day set (a.lines line).good.small))

    other : (i : ℕ) → i ≢ line → LineAgrees (samples b.row) day (get_or ls i fresh_line) (book_values i (sheet_entry entry ∷ b.entries))
    unfolding entry entry_of
    other i h =
        subst⁻¹ (λ (w : Values). LineAgrees (samples b.row) day (get_or ls i fresh_line) w)
        (other_values i entry b.entries (ne_eqb line i (λ q. h (sym q))))
        (later_line (samples b.row) b.day day (get_or ls i fresh_line) (book_values i b.entries) sheet_day.0 (a.lines i))

    sheet_lines : (i : ℕ) → LineAgrees (samples b.row) day (get_or (set ls line after) i fresh_line) (book_values i (sheet_entry entry ∷ b.entries))
    sheet_lines i = go (ℕ_discrete i line)
      where
        go : Dec (i ≡ line) → LineAgrees (samples b.row) day (get_or (set ls line after) i fresh_line) (book_values i (sheet_entry entry ∷ b.entries))
        go (yes q) =
            subst⁻¹ (λ (k : ℕ). LineAgrees (samples b.row) day (get_or (set ls line after) k fresh_line) (book_values k (sheet_entry entry ∷ b.entries))) q
            (subst⁻¹ (λ (l : Line). LineAgrees (samples b.row) day l (book_values line (sheet_entry entry ∷ b.entries)))
            (get_or-set_same ls line after fresh_line sheet_line_lem) own)
        go (no q) =
            subst⁻¹ (λ (l : Line). LineAgrees (samples b.row) day l (book_values i (sheet_entry entry ∷ b.entries)))
            (get_or-set_other ls line i after fresh_line q) (other i q)

    sheet_next : Next b ls (sheet_call day line numbers)
    unfolding next_of accepted sheet_station after entry
    sheet_next =
        record {
          lines = set ls line after;
          station = λ i. record {
            row = b.row;
            day = day;
            lines = set ls line (line_after (get_or ls line fresh_line) (past_set day (set_path b ls a day line numbers i)) (verdict_path b ls a day line numbers i));
          };
          agrees = record { exists = a.exists; last = sheet_day.1; three = length-set ls line after ∙ a.three; lines = sheet_lines };
        }

  repair_next : (day : ℕ) → book_number b (repair_call day) ≡ None → Next b ls (repair_call day)
  unfolding next_of accepted book_number
  repair_next day e =
      let d = day_ok b.day day [] e in
      record {
        lines = map repaired_line ls;
        station = refl;
        agrees = record {
          exists = a.exists;
          last = d.1;
          three = length-map ls repaired_line ∙ a.three;
          lines = λ i.
              subst⁻¹ (λ (w : Values). LineAgrees (samples b.row) day (get_or (map repaired_line ls) i fresh_line) w) (repair_values i day b.entries)
              (subst⁻¹ (λ (l : Line). LineAgrees (samples b.row) day l (without_sets (book_values i b.entries).intercept (repaired_phase (book_values i b.entries).phase)))
              (get_or-map repaired_line ls i fresh_line)
              (after_repair (samples b.row) b.day day (get_or ls i fresh_line) (book_values i b.entries) (a.lines i) d.0));
        };
      }

  market_next : (day line : ℕ) (scan : Scan) (asked : Asked) (basis : Basis) → book_number b (market_call day line scan asked basis) ≡ None → Next b ls (market_call day line scan asked basis)
  unfolding next_of accepted book_number market_numbers
  market_next day line scan asked basis e =
      let d = day_ok b.day day (line_check b.row line ∷ market_checks b.row (book_values line b.entries) line scan asked basis day) e in
      record {
        lines = ls;
        station = refl;
        agrees = record {
          exists = a.exists;
          last = d.1;
          three = a.three;
          lines = λ i. later_line (samples b.row) b.day day (get_or ls i fresh_line) (book_values i b.entries) d.0 (a.lines i);
        };
      }

  next : (c : Call) → book_number b c ≡ None → Next b ls c
  next (sheet_call day line numbers) e = sheet_next day line numbers e
  next (repair_call day) e = repair_next day e
  next (market_call day line scan asked basis) e = market_next day line scan asked basis e

-- ---- one call

-- the station answers as the book does, and the invariant holds after the call
record Step (b : Book) (ls : List Line) (c : Call) : Type 0 where
  reply : station_reply (station_of b ls) c ≡ book_reply b c
  lines : List Line
  station : station_after (station_of b ls) c ≡ station_of (book_after b c) lines
  agrees : Agrees lines (book_after b c)

step : (b : Book) (ls : List Line) → Agrees ls b → (c : Call) → Step b ls c
unfolding book_reply book_after or_stays
step b ls a c = go (book_number b c) refl
  where
    s : Station
    s = station_of b ls

    reply_same : station_reply s c ≡ book_reply b c
    reply_same = reply_is s c ∙ ap₂ or_refused (number_same b ls a c) (granted_same b ls a c)

    go : (o : Option ℕ) → book_number b c ≡ o → Step b ls c
    go None e =
        let k = next b ls a c e in
        let same : book_after b c ≡ accepted b c = ap (λ (o : Option ℕ). or_same o b (accepted b c)) e in
        record {
          reply = reply_same;
          lines = k.lines;
          station = (settled s c).0 ∙ ap (λ (o : Option ℕ). or_stays o s (next_of s c)) (number_same b ls a c ∙ e)
              ∙ k.station ∙ sym (ap (λ (x : Book). station_of x k.lines) same);
          agrees = subst⁻¹ (λ (x : Book). Agrees k.lines x) same k.agrees;
        }
    go (Some n) e =
        let same : book_after b c ≡ b = ap (λ (o : Option ℕ). or_same o b (accepted b c)) e in
        record {
          reply = reply_same;
          lines = ls;
          station = (settled s c).0 ∙ ap (λ (o : Option ℕ). or_stays o s (next_of s c)) (number_same b ls a c ∙ e)
              ∙ sym (ap (λ (x : Book). station_of x ls) same);
          agrees = subst⁻¹ (λ (x : Book). Agrees ls x) same a;
        }

-- ---- every list of calls

pub agrees_from : (b : Book) (ls : List Line) → Agrees ls b → (calls : List Call) → replies (station_of b ls) calls ≡ book_replies b calls
agrees_from b ls a [] = refl
agrees_from b ls a (c ∷ cs) =
    let k = step b ls a c in
    ap₂ (λ (x : Reply) (r : List Reply). x ∷ r) k.reply
    (ap (λ (s : Station). replies s cs) k.station ∙ agrees_from (book_after b c) k.lines k.agrees cs)

-- the invariant holds after every list of calls
pub reached : (b : Book) (ls : List Line) → Agrees ls b → (calls : List Call) → (after : List Line) × Agrees after (book_after_all b calls)
reached b ls a [] = (ls, a)
reached b ls a (c ∷ cs) = let k = step b ls a c in reached (book_after b c) k.lines k.agrees cs

fresh_get_or : (i : ℕ) → get_or (replicate 3 fresh_line) i fresh_line ≡ fresh_line
fresh_get_or i = grind (arith, common_steps)

pub fresh_agrees : (row : ℕ) → T (row_exists row) → Agrees (replicate 3 fresh_line) (fresh_book row)
unfolding book_values book_intercept book_phase book_past
fresh_agrees row h =
    record {
      exists = h;
      last = omega arith;
      three = refl;
      lines = λ i. subst⁻¹ (λ (l : Line). LineAgrees (samples row) 0 l (book_values i [])) (fresh_get_or i) (fresh_line_lem (samples row) 0);
    }

-- for every list of calls from a fresh station of any product row, each call is answered as the book answers it
pub agrees : (row : ℕ) → T (row_exists row) → (calls : List Call) → replies (fresh_station row) calls ≡ book_replies (fresh_book row) calls
agrees row h calls = agrees_from (fresh_book row) (replicate 3 fresh_line) (fresh_agrees row h) calls

pub stays_sound : StaysSound
stays_sound row h calls = go (fresh_book row) (replicate 3 fresh_line) (fresh_agrees row h) calls
  where
    go : (b : Book) (ls : List Line) → Agrees ls b → (calls : List Call) → sound (station_after_all (station_of b ls) calls) ≡ true
    go b ls a [] = sound_station b ls a
    go b ls a (c ∷ cs) =
        let k = step b ls a c in
        ap (λ (s : Station). sound (station_after_all s cs)) k.station ∙ go (book_after b c) k.lines k.agrees cs

pub opens_fresh : OpensFresh
unfolding open_of
opens_fresh row h =
    ap (λ (b : Bool). cond b (record { station = fresh_station row; answer = Ok tt }) (record { station = fresh_station 0; answer = Err (refusal_of 1) }))
    (is_true (row_exists row) h)

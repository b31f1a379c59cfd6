-- docs/SPECIFICATION.md, "The book": fed only the row and the calls' arguments other than the station, it holds the row, the day of the last accepted call and all
-- accepted sheets and repairs, and answers by what it reads off them.
use Rattle.std.specs.Prelude.{ℕ, Bool, true, false, not, ◌&&◌, cond, List, [], ◌∷◌, map, eqb, ℤ, pos, nat_abs}
use Rattle.std.specs.Prelude.{Option, None, Some}
use Rattle.whole.specs.Lists.{total}
use Rattle.station_rules.specs.Lists.{up_to}
use Rattle.station_rules.specs.Rows.{limits_of}
use Rattle.station_rules.specs.Refusals.{first_number}
use Rattle.station_rules.specs.Lines.{LinePhase, new_line, open_line, adjusted_line, shut_line, Phase, open_phase, check_due_phase, Values, nonzero_of, change_of, met_every}
use Rattle.station_rules.specs.Markets.{certificate_of}
use Rattle.station_rules.specs.Judging.{sheet_numbers, market_numbers, repair_numbers, sheet_set, sheet_verdict}
use Rattle.station_rules.specs.Replies.{Reply, refused_by, outcome, repaired, certificate}
use Rattle.station_rules.specs.Calls.{Call, sheet_call, repair_call, market_call}
use Rattle.station_rules.specs.declared.PastSet.{PastSet}

-- an accepted sheet: its day, line, S, N, change and whether it met every average due
pub record SheetEntry : Type 0 where
  pub day : ℕ
  pub line : ℕ
  pub sum : ℤ
  pub count : ℕ
  pub change : ℤ
  pub met : Bool

-- an accepted sheet, or a repair with its day
pub data Entry : Type 0 where
  sheet_entry : SheetEntry → Entry
  repair_entry : (day : ℕ) → Entry

-- the row, the day of the last accepted call, and the entries, the newest first
pub record Book : Type 0 where
  pub row : ℕ
  pub day : ℕ
  pub entries : List Entry

abbrev pub fresh_book : ℕ → Book
fresh_book row = record { row = row; day = 0; entries = [] }

-- ---- a line's values

module _ (line : ℕ) where
  -- the line's sheets, newest first
  abbrev pub sheets_of : List Entry → List SheetEntry
  sheets_of [] = []
  sheets_of (sheet_entry e ∷ es) = cond (eqb e.line line) (e ∷ sheets_of es) (sheets_of es)
  sheets_of (repair_entry d ∷ es) = sheets_of es

  -- the newest sheet or repair touching the line; a repair touches all lines
  abbrev pub newest_touching : List Entry → Option Entry
  newest_touching [] = None
  newest_touching (sheet_entry e ∷ es) = cond (eqb e.line line) (Some (sheet_entry e)) (newest_touching es)
  newest_touching (repair_entry d ∷ es) = Some (repair_entry d)

  -- a repair, or a sheet of the line that didn't meet
  abbrev pub ends_past : Entry → Bool
  ends_past (sheet_entry e) = eqb e.line line && not e.met
  ends_past (repair_entry d) = true

-- a sheet that met
abbrev pub is_met_sheet : Option Entry → Bool
is_met_sheet None = false
is_met_sheet (Some (sheet_entry e)) = e.met
is_met_sheet (Some (repair_entry d)) = false

-- the newest sheet didn't meet
abbrev pub newest_unmet : List SheetEntry → Bool
newest_unmet [] = false
newest_unmet (e ∷ older) = not e.met

-- the newest sheet's change, asked only where there is one
abbrev pub newest_change : List SheetEntry → ℤ
newest_change [] = pos 0
newest_change (e ∷ older) = e.change

-- a check due line's phase by that change, which is 0 just when the sheet shut the line
abbrev pub check_due_by : ℤ → LinePhase
check_due_by change = cond (eqb (nat_abs change) 0) shut_line adjusted_line

abbrev pub entry_set : SheetEntry → PastSet
entry_set e = record { day = e.day; sum = e.sum; count = e.count }

module _ (line : ℕ) (entries : List Entry) where
  -- a line's intercept is the sum of its sheets' changes
  unfoldable pub book_intercept : ℤ
  book_intercept = total (map (λ e. e.change) (sheets_of line entries))

  -- it is open if the newest sheet or repair touching it is a sheet that met, check due if its newest sheet didn't meet, else new
  unfoldable pub book_phase : LinePhase
  book_phase =
      let sheets = sheets_of line entries in
      cond (is_met_sheet (newest_touching line entries)) open_line (cond (newest_unmet sheets) (check_due_by (newest_change sheets)) new_line)

  -- its past sets are its sheets later than its last repair and its last sheet that didn't meet
  unfoldable pub book_past : List PastSet
  book_past = map entry_set (sheets_of line (up_to (ends_past line) entries))

  -- by these values the rules judge a call on the line: a test takes the newest that count for it, of all past sets or of those that aren't zero
  unfoldable pub book_values : Values
  unfolding book_intercept book_phase book_past
  book_values = record { intercept = book_intercept; phase = book_phase; newest = book_past; nonzero = nonzero_of book_past }

-- ---- a call

-- the number that applies; 0 never applies
unfoldable pub book_number : Book → Call → Option ℕ
book_number b (sheet_call day line numbers) = first_number (sheet_numbers b.row b.day (book_values line b.entries) day line numbers)
book_number b (repair_call day) = first_number (repair_numbers b.day day)
book_number b (market_call day line scan asked basis) = first_number (market_numbers b.row b.day (book_values line b.entries) day line scan asked basis)

-- what an accepted sheet writes into the book
unfoldable pub entry_of : Book → ℕ → ℕ → List ℤ → SheetEntry
entry_of b day line numbers =
    let v = book_values line b.entries in
    let set = sheet_set b.row v day line numbers in
    record {
      day = day;
      line = line;
      sum = set.sum;
      count = set.count;
      change = change_of (sheet_verdict b.row v day line numbers);
      met = met_every (limits_of b.row line) v day set;
    }

-- the phase that its outcome says: open if it met every average due, else check due
abbrev pub entry_phase : SheetEntry → Phase
entry_phase e = cond e.met open_phase check_due_phase

-- the book after an accepted call: its day, and a sheet's or repair's entry
unfoldable pub accepted : Book → Call → Book
accepted b (sheet_call day line numbers) =
    record { row = b.row; day = day; entries = sheet_entry (entry_of b day line numbers) ∷ b.entries }
accepted b (repair_call day) = record { row = b.row; day = day; entries = repair_entry day ∷ b.entries }
accepted b (market_call day line scan asked basis) = record { row = b.row; day = day; entries = b.entries }

-- the answer to an accepted call
unfoldable pub granted_reply : Book → Call → Reply
granted_reply b (sheet_call day line numbers) =
    let e = entry_of b day line numbers in
    outcome e.sum e.count (entry_phase e) e.change
granted_reply b (repair_call day) = repaired
granted_reply b (market_call day line scan asked basis) =
    let c = certificate_of b.row (book_values line b.entries) line scan asked basis in
    certificate c.day c.intercept c.basis c.figure c.converted

abbrev pub or_refused : Option ℕ → Reply → Reply
or_refused None reply = reply
or_refused (Some number) reply = refused_by number

abbrev pub or_same : Option ℕ → Book → Book → Book
or_same None b next = next
or_same (Some number) b next = b

-- the book's answer
unfoldable pub book_reply : Book → Call → Reply
book_reply b c = or_refused (book_number b c) (granted_reply b c)

-- a refused call changes nothing
unfoldable pub book_after : Book → Call → Book
book_after b c = or_same (book_number b c) b (accepted b c)

-- the book's answers to a list of calls
abbrev pub book_replies : Book → List Call → List Reply
book_replies b [] = []
book_replies b (c ∷ cs) = book_reply b c ∷ book_replies (book_after b c) cs

-- the book after a list of calls
abbrev pub book_after_all : Book → List Call → Book
book_after_all b [] = b
book_after_all b (c ∷ cs) = book_after_all (book_after b c) cs

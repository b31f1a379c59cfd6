-- The third demand (docs/SPECIFICATION.md, "The book"): one claim about a list of calls from a fresh station of a row. Every answer is spoken of as a `Reply`.
use Rattle.std.specs.Prelude.{◌≡◌, ◌↔◌, Bool, true, false, cond, List, [], ◌∷◌, ◌++◌, ℕ, ◌+◌, ◌-◌, ◌*◌, ◌≤◌, ◌<◌, T, eqb, length, ℤ, pos, nat_abs, ◌+ℤ◌, ◌-ℤ◌, ◌*ℤ◌, ◌≤ℤ◌, Float}
use Rattle.std.specs.Prelude.{Option, Some}
use Rattle.std.specs.List.{slice_get}
use Rattle.std.specs.Float.{fin, binary32}
use Rattle.std.specs.Float.Ieee.{fits, up, down}
use Rattle.reading.specs.Reading.{unit, units_of, reading_of, in_range}
use Rattle.station_rules.specs.Rows.{standard_basis, line_count}
use Rattle.station_rules.specs.Readings.{line_float, gluten_float, scan_serves, asked_float}
use Rattle.station_rules.specs.Lines.{new_line, adjusted_line, shut_line}
use Rattle.station_rules.specs.Markets.{basis_of, basis_from, derived_intercept, asked_intercept, newest_day}
use Rattle.station_rules.specs.Soundness.{sound as is_sound}
use Rattle.station_rules.specs.Stations.{fresh_station}
use Rattle.station_rules.specs.Replies.{Reply, refused_by, opening, outcome, repaired, certificate}
use Rattle.station_rules.specs.Calls.{Call, sheet_call, repair_call, market_call, replies, station_after_all}
use Rattle.station_rules.specs.Books.{Book, SheetEntry, sheet_entry, fresh_book, newest_touching, book_intercept, book_phase, book_past, book_replies, book_after_all}
use Rattle.station_rules.specs.InPlace.{open_in, replies_in}
use Rattle.station_rules.specs.declared.Scan.{Scan}
use Rattle.station_rules.specs.declared.WheatClass.{WheatClass}
use Rattle.station_rules.specs.declared.WheatClass.TheVariants.{Other}
use Rattle.station_rules.specs.declared.Asked.{Asked}
use Rattle.station_rules.specs.declared.Asked.TheVariants.{LineFigure, Gluten}
use Rattle.station_rules.specs.declared.Basis.{Basis}
use Rattle.station_rules.specs.declared.Basis.TheVariants.{Standard}

module _ (b : Book) (day line : ℕ) (scan : Scan) (asked : Asked) (basis : Basis) where
  -- A, B and h by the book
  abbrev pub book_a : ℕ
  book_a = basis_from b.row asked

  abbrev pub book_b : ℤ
  book_b = basis_of book_a basis

  abbrev pub book_h : ℤ
  book_h = pos (reading_of (asked_float scan asked line)) +ℤ asked_intercept asked (book_intercept line b.entries)

  -- the market conditions by the book: none of these numbers applies
  pub record MarketConditions : Type 0 where
    pub number2 : (b.day ≤ day) × (day ≤ 99999)
    pub number3 : line < line_count b.row
    pub number8 : T (scan_serves b.row scan asked)
    pub number23 : asked ≡ Gluten Other → ⊥
    pub number24 : (class : WheatClass) → asked ≡ Gluten class → basis ≡ Standard
    pub number9 : T (in_range (asked_float scan asked line))
    pub number10 : (pos 0 ≤ℤ book_b) × (book_b ≤ℤ pos 5000)
    pub number11 : (pos 0 ≤ℤ book_h) × (book_h ≤ℤ pos 10000)
    pub number12 : book_phase line b.entries ≡ new_line → ⊥
    pub number25 : book_phase line b.entries ≡ adjusted_line → ⊥
    pub number26 : book_phase line b.entries ≡ shut_line → ⊥
    pub number13 : day ≤ newest_day (book_past line b.entries) + 7
    pub number14 : nat_abs book_h * (10000 - nat_abs book_b) ≤ 10000 * (10000 - book_a)

-- the newest accepted sheet or repair touching the line is a sheet that met every average due, at most 7 days earlier
pub record RestsOn (b : Book) (day line : ℕ) : Type 0 where
  pub entry : SheetEntry
  pub newest : newest_touching line b.entries ≡ Some (sheet_entry entry)
  pub met : entry.met ≡ true
  pub earlier : entry.day ≤ day
  pub at_most7 : day ≤ entry.day + 7

-- the intercept change that a reply gives
abbrev pub change_in : Reply → ℤ
change_in (refused_by number) = pos 0
change_in opening = pos 0
change_in (outcome sum count phase change) = change
change_in repaired = pos 0
change_in (certificate day intercept basis figure converted) = pos 0

-- a sheet of the line
abbrev pub is_sheet_of : ℕ → Call → Bool
is_sheet_of line (sheet_call day l numbers) = eqb l line
is_sheet_of line (repair_call day) = false
is_sheet_of line (market_call day l scan asked basis) = false

-- the sum of all intercept changes that the sheets of a list gave the line, by the replies to the list
abbrev pub changes_given : ℕ → List Call → List Reply → ℤ
changes_given line [] rs = pos 0
changes_given line (c ∷ cs) [] = pos 0
changes_given line (c ∷ cs) (r ∷ rs) = cond (is_sheet_of line c) (change_in r) (pos 0) +ℤ changes_given line cs rs

-- A figure in tenths at basis B from standard basis A, of a float x and intercept changes with this sum, lies within 0.05 + 0.005·(100−B)/(100−A) percent
-- of the exact value (x + sum)·(100−B)/(100−A). Both sides are multiplied by 200 · 2^149 · (10000 − A); x is unitsOf x units of 2^−149 percent.
abbrev pub WithinDistance : (a b figure : ℕ) → Float → (sum : ℤ) → Type 0
WithinDistance a b figure x sum =
    nat_abs (pos (20 * unit * figure * (10000 - a)) -ℤ (pos (200 * units_of x) +ℤ pos (2 * unit) *ℤ sum) *ℤ pos (10000 - b))
    ≤ 10 * unit * (10000 - a) + unit * (10000 - b)

-- how far a gluten figure in tenths lies from its float x plus the intercept derived from a sum of protein intercept changes, in percent times 200 · 2^149
abbrev pub gluten_off : (figure : ℕ) → Float → (sum : ℤ) → ℕ
gluten_off figure x sum = nat_abs (pos (20 * unit * figure) -ℤ (pos (200 * units_of x) +ℤ pos (2 * unit) *ℤ derived_intercept sum))

-- it lies within 0.055 percent
abbrev pub WithinGluten : (figure : ℕ) → Float → (sum : ℤ) → Type 0
WithinGluten figure x sum = gluten_off figure x sum ≤ 11 * unit

-- the distance for what is asked: the line's figure at B, or gluten's
abbrev pub FigureNear : (row line : ℕ) → Scan → Asked → (b : ℤ) (figure : ℕ) (sum : ℤ) → Type 0
FigureNear row line scan LineFigure b figure sum = WithinDistance (standard_basis row) (nat_abs b) figure (line_float scan line) sum
FigureNear row line scan (Gluten class) b figure sum = WithinGluten figure (gluten_float scan) sum

-- what is claimed of the reply to a market test that comes after the calls `before`
module _ (row : ℕ) (before : List Call) (day line : ℕ) (scan : Scan) (asked : Asked) (basis : Basis) (reply : Option Reply) where
  -- the book after the calls before, and the sum of all changes that these gave the line
  abbrev pub book_then : Book
  book_then = book_after_all (fresh_book row) before

  abbrev pub sum_then : ℤ
  sum_then = changes_given line before (replies (fresh_station row) before)

  -- the reply is this certificate
  abbrev pub Certifies : (d : ℕ) (i b : ℤ) (figure converted : ℕ) → Type 0
  Certifies d i b figure converted = reply ≡ Some (certificate d i b figure converted)

  -- the reply is some certificate
  abbrev pub Issued : Type 0
  Issued = (d : ℕ) × (i : ℤ) × (b : ℤ) × (figure : ℕ) × (converted : ℕ) × Certifies d i b figure converted

  pub record MarketClaim : Type 0 where
    -- a certificate is issued exactly when the market conditions hold by the book
    pub exactly : Issued ↔ MarketConditions book_then day line scan asked basis
    -- among them: the newest sheet or repair touching the line
    pub rests : MarketConditions book_then day line scan asked basis → RestsOn book_then day line
    -- the certificate is at the basis asked for, 1400 for gluten; it carries the intercept of what is asked; its figure at B lies within the distance
    pub basis_asked : (d : ℕ) (i b : ℤ) (figure converted : ℕ) → Certifies d i b figure converted → b ≡ basis_of (basis_from row asked) basis
    pub carries : (d : ℕ) (i b : ℤ) (figure converted : ℕ) → Certifies d i b figure converted → i ≡ asked_intercept asked sum_then
    pub distance : (d : ℕ) (i b : ℤ) (figure converted : ℕ) → Certifies d i b figure converted → FigureNear row line scan asked b converted sum_then
    -- the units are the exact value: for every f32 fin s m e they are its magnitude m · up e / down e, and it is not negative unless zero
    pub exact : (s : Bool) (m : ℕ) (e : ℤ) → asked_float scan asked line ≡ fin s m e → T (fits binary32 (asked_float scan asked line))
        → units_of (asked_float scan asked line) * down e ≡ m * up e * unit
    pub not_negative : MarketConditions book_then day line scan asked basis → (s : Bool) (m : ℕ) (e : ℤ) → asked_float scan asked line ≡ fin s m e → s ≡ true → m ≡ 0

-- demand 3 of a list of calls
pub record Demand3 (row : ℕ) (calls : List Call) : Type 0 where
  -- the calls as they run, each on the places that the call before left, from those of an opening, are answered as those on the station
  pub in_place : replies_in (open_in row).places calls ≡ replies (fresh_station row) calls
  -- each call is answered as the book answers it
  pub answers : replies (fresh_station row) calls ≡ book_replies (fresh_book row) calls
  -- number 0 never applies: the station is sound before each call of the list, and no reply is that number
  pub sound : (before after : List Call) → calls ≡ before ++ after → is_sound (station_after_all (fresh_station row) before) ≡ true
  pub never0 : (before after : List Call) (c : Call) → calls ≡ before ++ c ∷ after
      → slice_get (replies (fresh_station row) calls) (length before) ≡ Some (refused_by 0) → ⊥
  -- and for each market test of the list
  pub markets : (before after : List Call) (day line : ℕ) (scan : Scan) (asked : Asked) (basis : Basis)
      → calls ≡ before ++ market_call day line scan asked basis ∷ after
      → MarketClaim row before day line scan asked basis (slice_get (replies (fresh_station row) calls) (length before))

-- Statements that follow from the rules, promised for every station.
use Rattle.std.specs.Prelude.{Ok, ◌≡◌, ◌↔◌, true, false, ℕ, ◌*◌, ◌≤◌, ◌<◌, T, length, take, ℤ, pos, nat_abs, ◌-ℤ◌, ◌*ℤ◌, Float}
use mathlib.Core.List.{List, [], ◌∷◌, Permᴰ, map}
use Rattle.std.specs.Prelude.{Some}
use Rattle.std.specs.List.{slice_get}
use Rattle.station_rules.specs.Rows.{row_exists, line_count, limits_of}
use Rattle.station_rules.specs.Sheets.{samples_of, numbers_of}
use Rattle.station_rules.specs.declared.Sample.{Sample}
use Rattle.station_rules.specs.Lines.{Values, five_test, verdict_of, met_every, is_met, change_of, phase_after}
use Rattle.station_rules.specs.Markets.{derived_intercept, corrected_value, newest_day, tenths, certificate_of}
use Rattle.station_rules.specs.Judging.{sheet_numbers, market_numbers, sheet_set, sheet_verdict}
use Rattle.station_rules.specs.Soundness.{days_fall, sound}
use Rattle.station_rules.specs.Stations.{fresh_station, values_of, open_of, sheet_of, market_of}
use Rattle.station_rules.specs.Replies.{refused_by, certificate, market_reply}
use Rattle.station_rules.specs.Calls.{Call, replies, station_after_all}
use Rattle.station_rules.specs.Books.{SheetEntry, Entry, sheet_entry, fresh_book, book_values, check_due_by, book_replies}
use Rattle.station_rules.specs.Former.{former_replies, former_after_all, as_formerly}
use Rattle.station_rules.specs.InPlace.{sheet_in}
use Rattle.station_rules.specs.declared.Limits.{Limits}
use Rattle.station_rules.specs.declared.PastSet.{PastSet}
use Rattle.station_rules.specs.declared.Set.{Set}
use Rattle.station_rules.specs.declared.Verdict.TheVariants.{Adjusted}
use Rattle.station_rules.specs.declared.Scan.{Scan}
use Rattle.station_rules.specs.declared.WheatSet.{WheatSet}
use Rattle.station_rules.specs.declared.WheatClass.{WheatClass}
use Rattle.station_rules.specs.declared.Asked.{Asked}
use Rattle.station_rules.specs.declared.Basis.{Basis}
use Rattle.station_rules.specs.Held.{Station}
use Rattle.station_rules.specs.declared.Certificate.{Certificate}

-- an opening of an existing row hands back its fresh station
abbrev pub OpensFresh : Type 0
OpensFresh = (row : ℕ) → T (row_exists row) → open_of row ≡ record { station = fresh_station row; answer = Ok tt }

-- the station stays sound along every list of calls
abbrev pub StaysSound : Type 0
StaysSound = (row : ℕ) → T (row_exists row) → (calls : List Call) → sound (station_after_all (fresh_station row) calls) ≡ true

-- a verdict meets exactly where the sheet met every average due
abbrev pub MetIsMet : Type 0
MetIsMet = (limits : Limits) (v : Values) (day : ℕ) (set : Set) → is_met (verdict_of limits v day set) ≡ met_every limits v day set

-- by the limits of every row's lines an adjustment's change is never 0, so that the book's sheet entry tells the phase after a sheet that didn't meet
pub record AdjustmentChanges : Type 0 where
  pub not_zero : (row line : ℕ) → line < line_count row → (v : Values) (day : ℕ) (set : Set) (change : ℤ)
      → verdict_of (limits_of row line) v day set ≡ Adjusted change → change ≡ pos 0 → ⊥
  pub told : (row line : ℕ) → line < line_count row → (v : Values) (day : ℕ) (set : Set) → met_every (limits_of row line) v day set ≡ false
      → phase_after (verdict_of (limits_of row line) v day set) ≡ check_due_by (change_of (verdict_of (limits_of row line) v day set))

-- what is held of a line's sets: the newest two, and the newest four that aren't zero
abbrev pub held_values : Values → Values
held_values v = record { intercept = v.intercept; phase = v.phase; newest = take 2 v.newest; nonzero = take 4 v.nonzero }

-- a line is judged alike by these and by all its past sets, where their days never rise from newest to oldest
pub record HeldServe (row : ℕ) (v : Values) (day line : ℕ) : Type 0 where
  pub numbers : (last : ℕ) (numbers : List ℤ) → sheet_numbers row last (held_values v) day line numbers ≡ sheet_numbers row last v day line numbers
  pub set : (numbers : List ℤ) → sheet_set row (held_values v) day line numbers ≡ sheet_set row v day line numbers
  pub verdict : (d : ℕ) → T (days_fall d v.newest) → T (days_fall d v.nonzero) → (numbers : List ℤ)
      → sheet_verdict row (held_values v) day line numbers ≡ sheet_verdict row v day line numbers
  pub market : (last : ℕ) (scan : Scan) (asked : Asked) (basis : Basis)
      → market_numbers row last (held_values v) day line scan asked basis ≡ market_numbers row last v day line scan asked basis
  pub certificate : (scan : Scan) (asked : Asked) (basis : Basis)
      → certificate_of row (held_values v) line scan asked basis ≡ certificate_of row v line scan asked basis

-- zero sets are passed over: one at hand isn't tested for five, and one that met leaves the book's non-zero sets as they were
pub record ZeroPassedOver : Type 0 where
  pub present : (limits : Limits) (set : Set) (nonzero : List PastSet) → set.sum ≡ pos 0 → five_test limits set nonzero ≡ []
  pub past : (line : ℕ) (e : SheetEntry) (es : List Entry) → e.line ≡ line → e.met ≡ true → e.sum ≡ pos 0
      → (book_values line (sheet_entry e ∷ es)).nonzero ≡ (book_values line es).nonzero

-- by the numbers 12, 25 and 26 every list of calls on any station is answered as by the former number 12, but for that number
pub record CertifiedAsBefore : Type 0 where
  pub answers : (s : Station) (calls : List Call) → former_replies s calls ≡ map as_formerly (replies s calls)
  pub after : (s : Station) (calls : List Call) → former_after_all s calls ≡ station_after_all s calls
  -- from a fresh station: as the book answers, but for that number
  pub book : (row : ℕ) → T (row_exists row) → (calls : List Call) → former_replies (fresh_station row) calls ≡ map as_formerly (book_replies (fresh_book row) calls)
  -- so a certificate is issued exactly where it was, and it is the same one
  pub certificates : (s : Station) (calls : List Call) (place d : ℕ) (i b : ℤ) (figure converted : ℕ)
      → (slice_get (replies s calls) place ≡ Some (certificate d i b figure converted)) ↔ (slice_get (former_replies s calls) place ≡ Some (certificate d i b figure converted))

-- for the standard basis both figures are equal
abbrev pub StandardEqual : Type 0
StandardEqual = (row : ℕ) (v : Values) (line : ℕ) (scan : Scan) (asked : Asked)
    → (certificate_of row v line scan asked Basis.Standard).converted ≡ (certificate_of row v line scan asked Basis.Standard).figure

-- given to one station on one day and line, the same samples in another order get the same outcome and station, or the same refusal: any samples,
-- however many, and any station
pub record OrderFree : Type 0 where
  pub station : (s : Station) (day line : ℕ) (ss ts : List Sample) → Permᴰ ss ts
      → sheet_of s day line (numbers_of ss) ≡ sheet_of s day line (numbers_of ts)
  -- on a station in its caller's places: the answer and every place
  pub places : (words : List ℤ) (day line : ℕ) (ss ts : List Sample) → Permᴰ ss ts
      → sheet_in words day line (numbers_of ss) ≡ sheet_in words day line (numbers_of ts)
  -- numbers that end within a sample too: as many of them, and the whole samples in another order
  pub numbers : (words : List ℤ) (day line : ℕ) (l k : List ℤ) → length l ≡ length k → Permᴰ (samples_of l) (samples_of k)
      → sheet_in words day line l ≡ sheet_in words day line k

-- ---- wet gluten

-- the derived intercept is the hundredth nearest to 3.029 times the intercept (multiplied by 1000), and for an intercept of −1000..1000 lies in −3029..3029
pub record DerivedNearest (i : ℤ) : Type 0 where
  pub nearest : 2 * nat_abs (pos 1000 *ℤ derived_intercept i -ℤ pos 3029 *ℤ i) ≤ 1000
  pub small : nat_abs i ≤ 1000 → nat_abs (derived_intercept i) ≤ 3029

-- a gluten certificate carries the day of the line's newest set, the derived intercept, 1400 as B, and the one figure twice
abbrev pub gluten_certificate : Values → (line : ℕ) → Scan → WheatClass → Certificate
gluten_certificate v line scan class =
    let figure = tenths (nat_abs (corrected_value v scan (Asked.Gluten class) line)) in
    record { day = newest_day v.newest; intercept = derived_intercept v.intercept; basis = pos 1400; figure = figure; converted = figure }

-- and every one that is issued is this
abbrev pub GlutenCertificate : Type 0
GlutenCertificate = (s : Station) (day line : ℕ) (scan : Scan) (class : WheatClass) (basis : Basis) (c : Certificate)
    → (market_of s day line scan (Asked.Gluten class) basis).answer ≡ Ok c → c ≡ gluten_certificate (values_of s line) line scan class

-- 10 and 14 are never answered where gluten is asked
pub record GlutenNumbers : Type 0 where
  pub never10 : (s : Station) (day line : ℕ) (scan : Scan) (class : WheatClass) (basis : Basis)
      → market_reply (market_of s day line scan (Asked.Gluten class) basis).answer ≡ refused_by 10 → ⊥
  pub never14 : (s : Station) (day line : ℕ) (scan : Scan) (class : WheatClass) (basis : Basis)
      → market_reply (market_of s day line scan (Asked.Gluten class) basis).answer ≡ refused_by 14 → ⊥

-- only the float asked for is looked at: with gluten asked the protein float may be any; without, the scan serves as a wheat value
pub record OnlyAsked : Type 0 where
  pub gluten : (s : Station) (day line : ℕ) (p q g : Float) (class : WheatClass) (basis : Basis)
      → market_of s day line (Scan.WheatGluten (record { protein = p; gluten = g })) (Asked.Gluten class) basis
      ≡ market_of s day line (Scan.WheatGluten (record { protein = q; gluten = g })) (Asked.Gluten class) basis
  pub wheat : (s : Station) (day line : ℕ) (w : WheatSet) (basis : Basis)
      → market_of s day line (Scan.WheatGluten w) Asked.LineFigure basis ≡ market_of s day line (Scan.Wheat w.protein) Asked.LineFigure basis

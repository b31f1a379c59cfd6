-- Demand 3 holds of every list of calls from a fresh station of any product row.
use mathlib.Core.Path.{◌≡◌, refl, sym, ◌∙◌, ap, subst, subst⁻¹}
use mathlib.Core.List.{List, ◌∷◌, ◌++◌}
use Rattle.std.specs.Prelude.{Option, None, Some}
use Prim.Native.Nat.{ℕ}
use native.Mathlib.Omega.{arith}
use lib.Dec.{T, ltb, ltb→lt}
use lib.ListN.{length, replicate}
use Rattle.std.specs.List.{slice_get}
use lib.IntN.{ℤ, pos, nat_abs, ◌+ℤ◌}
use lib.Signed.{yes_non_neg, pos-nat_abs}
use Rattle.reading.specs.Reading.{reading_of}
use Rattle.reading.proofs.Laws.{reading_laws}
use Rattle.station_rules.specs.Rows.{row_exists, standard_basis}
use Rattle.station_rules.specs.Readings.{line_float, gluten_float, asked_float}
use Rattle.station_rules.specs.Sheets.{sheet_checks}
use Rattle.station_rules.specs.Markets.{basis_of, basis_from, derived_intercept, asked_intercept, tenths, tenths_at, certificate_of, corrected_value, market_checks}
use Rattle.station_rules.specs.Judging.{sheet_numbers, market_numbers, repair_numbers}
use Rattle.station_rules.specs.Held.{Station, fresh_line}
use Rattle.station_rules.specs.Soundness.{days_fall}
use Rattle.station_rules.specs.Stations.{Opening, fresh_station}
use Rattle.station_rules.specs.Replies.{Reply, refused_by, certificate}
use Rattle.station_rules.specs.Calls.{Call, sheet_call, repair_call, market_call, replies}
use Rattle.station_rules.specs.Books.{Book, fresh_book, book_intercept, book_past, book_values, book_number, granted_reply, or_refused, book_reply, book_replies, book_after_all}
use Rattle.station_rules.specs.InPlace.{open_in}
use Rattle.station_rules.specs.Demand3.{MarketConditions, WithinGluten, FigureNear, changes_given, MarketClaim, Demand3}
use Rattle.station_rules.specs.declared.Scan.{Scan}
use Rattle.station_rules.specs.declared.Asked.{Asked}
use Rattle.station_rules.specs.declared.Asked.TheVariants.{LineFigure, Gluten}
use Rattle.station_rules.specs.declared.Basis.{Basis}
use Rattle.station_rules.specs.declared.Certificate.{Certificate}
use Rattle.station_rules.proofs.Checks.{number_passes}
use Rattle.station_rules.proofs.Agreement.{agrees, reached, fresh_agrees, stays_sound, opens_fresh}
use Rattle.station_rules.proofs.InPlace.{holds_station, as_held}
use Rattle.station_rules.proofs.Distance.{within, within_gluten}
use Rattle.station_rules.proofs.Figures.{same_tenths, basis_room}
use Rattle.station_rules.proofs.Conditions.{conditions_from, conditions_to, rests_on}
use Rattle.station_rules.proofs.Changes.{changes, row_after_all, reply_at}

-- ---- the book never answers number 0

applies_above : (b : Book) (c : Call) (n : ℕ) → book_number b c ≡ Some n → T (ltb 0 n)
unfolding book_number sheet_numbers sheet_checks market_numbers market_checks
applies_above b (sheet_call day line numbers) n e =
    number_passes (ltb 0) (sheet_numbers b.row b.day (book_values line b.entries) day line numbers) n tt e
applies_above b (repair_call day) n e = number_passes (ltb 0) (repair_numbers b.day day) n tt e
applies_above b (market_call day line scan asked basis) n e =
    number_passes (ltb 0) (market_numbers b.row b.day (book_values line b.entries) day line scan asked basis) n tt e

granted_not : (b : Book) (c : Call) → granted_reply b c ≡ refused_by 0 → ⊥
unfolding granted_reply
granted_not b (sheet_call day line numbers) e = grind arith
granted_not b (repair_call day) e = grind arith
granted_not b (market_call day line scan asked basis) e = grind arith

book_never0 : (b : Book) (c : Call) → book_reply b c ≡ refused_by 0 → ⊥
unfolding book_reply
book_never0 b c e = go (book_number b c) refl e
  where
    go : (o : Option ℕ) → book_number b c ≡ o → or_refused o (granted_reply b c) ≡ refused_by 0 → ⊥
    go None q e = granted_not b c e
    go (Some n) q e = let z : n ≡ 0 = cc in omega (arith, ltb→lt 0 n (applies_above b c n q))

-- ---- the book's answer to a market test

module _ (b : Book) (day line : ℕ) (scan : Scan) (asked : Asked) (basis : Basis) where
  -- the certificate of the book's values
  abbrev ours : Certificate
  ours = certificate_of b.row (book_values line b.entries) line scan asked basis

  -- where the book replies with a certificate no number applies, and the intercept, B and the figure at B are the book's
  record Given (d : ℕ) (i basis' : ℤ) (figure converted : ℕ) : Type 0 where
    none_applies : book_number b (market_call day line scan asked basis) ≡ None
    intercept_is : i ≡ ours.intercept
    basis_is : basis' ≡ ours.basis
    figure_is : converted ≡ ours.converted

  given : (d : ℕ) (i basis' : ℤ) (figure converted : ℕ) → book_reply b (market_call day line scan asked basis) ≡ certificate d i basis' figure converted
      → Given d i basis' figure converted
  unfolding book_reply granted_reply
  given d i basis' figure converted e = go (book_number b (market_call day line scan asked basis)) refl e
    where
      go : (o : Option ℕ) → book_number b (market_call day line scan asked basis) ≡ o
          → or_refused o (granted_reply b (market_call day line scan asked basis)) ≡ certificate d i basis' figure converted
          → Given d i basis' figure converted
      go None r e = record { none_applies = r; intercept_is = cc; basis_is = cc; figure_is = cc }
      go (Some n) r e = grind arith

  -- where the conditions hold it does
  issued : MarketConditions b day line scan asked basis
      → book_reply b (market_call day line scan asked basis) ≡ certificate ours.day ours.intercept ours.basis ours.figure ours.converted
  unfolding book_reply granted_reply
  issued c =
      ap (λ (o : Option ℕ). or_refused o (granted_reply b (market_call day line scan asked basis))) (conditions_to b day line scan asked basis c)

  basis_asked_lem : ours.basis ≡ basis_of (basis_from b.row asked) basis
  unfolding certificate_of
  basis_asked_lem = refl

  intercept_asked : ours.intercept ≡ asked_intercept asked (book_intercept line b.entries)
  unfolding certificate_of book_values
  intercept_asked = refl

-- and the figure at B lies within the distance
figure_within : (b : Book) (day line : ℕ) (scan : Scan) (asked : Asked) (basis : Basis) → MarketConditions b day line scan asked basis
    → FigureNear b.row line scan asked (ours b day line scan asked basis).basis (ours b day line scan asked basis).converted (book_intercept line b.entries)
unfolding certificate_of corrected_value book_values basis_from asked_float asked_intercept
figure_within b day line scan LineFigure basis c =
    let h = pos (reading_of (line_float scan line)) +ℤ book_intercept line b.entries in
    within (line_float scan line) (standard_basis b.row) (nat_abs (basis_of (standard_basis b.row) basis)) (nat_abs h)
    (book_intercept line b.entries) (basis_room b.row LineFigure) (sym (pos-nat_abs h (yes_non_neg c.number11.0)))
figure_within b day line scan (Gluten class) basis c =
    let sum = book_intercept line b.entries in
    let h = pos (reading_of (gluten_float scan)) +ℤ derived_intercept sum in
    let e : tenths_at 1400 (nat_abs (basis_of 1400 basis)) (nat_abs h) ≡ tenths (nat_abs h) =
    ap (λ (z : Basis). tenths_at 1400 (nat_abs (basis_of 1400 z)) (nat_abs h)) (c.number24 class refl) ∙ same_tenths 1400 (nat_abs h) (basis_room b.row (Gluten class)) in
    subst⁻¹ (λ (n : ℕ). WithinGluten n (gluten_float scan) sum) e (within_gluten (gluten_float scan) (nat_abs h) sum (sym (pos-nat_abs h (yes_non_neg c.number11.0))))

-- ---- the claim

module _ (row : ℕ) (exists : T (row_exists row)) where
  falls : (before : List Call) (line : ℕ)
      → T (days_fall (book_after_all (fresh_book row) before).day (book_past line (book_after_all (fresh_book row) before).entries))
  unfolding book_values
  falls before line = ((reached (fresh_book row) (replicate 3 fresh_line) (fresh_agrees row exists) before).1.lines line).good.newest.falls

  changes_given_lem : (before : List Call) (line : ℕ)
      → book_intercept line (book_after_all (fresh_book row) before).entries ≡ changes_given line before (replies (fresh_station row) before)
  changes_given_lem before line = changes line row before ∙ ap (changes_given line before) (sym (agrees row exists before))

  -- the reply at a place of the list is the book's
  reply_there : (calls before after : List Call) (c : Call) → calls ≡ before ++ c ∷ after
      → slice_get (replies (fresh_station row) calls) (length before) ≡ Some (book_reply (book_after_all (fresh_book row) before) c)
  reply_there calls before after c split =
      ap (λ (r : List Reply). slice_get r (length before)) (agrees row exists calls)
      ∙ ap (λ (cs : List Call). slice_get (book_replies (fresh_book row) cs) (length before)) split
      ∙ reply_at (fresh_book row) before after c

  module _ (before : List Call) (day line : ℕ) (scan : Scan) (asked : Asked) (basis : Basis) where
    claim : (reply : Option Reply) → reply ≡ Some (book_reply (book_after_all (fresh_book row) before) (market_call day line scan asked basis))
        → MarketClaim row before day line scan asked basis reply
    claim reply e =
        record {
          exactly = (
            (λ w. conditions_from b day line scan asked basis (ours_of w.0 w.1 w.2 w.3 w.4 w.5).none_applies),
            (λ c. let o = ours b day line scan asked basis in (o.day, o.intercept, o.basis, o.figure, o.converted, e ∙ ap Some (issued b day line scan asked basis c))),
          );
          rests = rests_on b day line scan asked basis (falls before line);
          basis_asked = λ d i basis' figure converted w.
              (ours_of d i basis' figure converted w).basis_is ∙ basis_asked_lem b day line scan asked basis ∙ ap (λ (r : ℕ). basis_of (basis_from r asked) basis) same_row;
          carries = λ d i basis' figure converted w.
              (ours_of d i basis' figure converted w).intercept_is ∙ intercept_asked b day line scan asked basis ∙ ap (asked_intercept asked) (changes_given_lem before line);
          distance = λ d i basis' figure converted w.
              let f = ours_of d i basis' figure converted w in
              let sum = changes_given line before (replies (fresh_station row) before) in
              subst (λ (r : ℕ). FigureNear r line scan asked basis' converted sum) same_row
              (subst (λ (z : ℤ). FigureNear b.row line scan asked basis' converted z) (changes_given_lem before line)
              (subst⁻¹ (λ (z : ℤ). FigureNear b.row line scan asked z converted (book_intercept line b.entries)) f.basis_is
              (subst⁻¹ (λ (n : ℕ). FigureNear b.row line scan asked (ours b day line scan asked basis).basis n (book_intercept line b.entries)) f.figure_is
              (figure_within b day line scan asked basis (conditions_from b day line scan asked basis f.none_applies)))));
          exact = (reading_laws (asked_float scan asked line)).exact;
          not_negative = λ c s m e q. (reading_laws (asked_float scan asked line)).sign s m e q c.number9;
        }
      where
        b : Book
        b = book_after_all (fresh_book row) before

        same_row : b.row ≡ row
        same_row = row_after_all (fresh_book row) before

        ours_of : (d : ℕ) (i basis' : ℤ) (figure converted : ℕ) → reply ≡ Some (certificate d i basis' figure converted)
            → Given b day line scan asked basis d i basis' figure converted
        ours_of d i basis' figure converted w =
            given b day line scan asked basis d i basis' figure converted
            (let q : book_reply b (market_call day line scan asked basis) ≡ certificate d i basis' figure converted = cc in q)

-- for every list of calls from a fresh station of any product row
pub demand3 : (row : ℕ) → T (row_exists row) → (calls : List Call) → Demand3 row calls
demand3 row exists calls =
    record {
      in_place = (as_held (open_in row).places calls).answers
          ∙ ap (λ (s : Station). replies s calls) (holds_station.opening row ∙ ap (λ (o : Opening). o.station) (opens_fresh row exists));
      answers = agrees row exists calls;
      sound = λ before after split. stays_sound row exists before;
      never0 = λ before after c split e.
          book_never0 (book_after_all (fresh_book row) before) c
          (let r = reply_there row exists calls before after c split in
          let q : book_reply (book_after_all (fresh_book row) before) c ≡ refused_by 0 = cc in q);
      markets = λ before after day line scan asked basis split.
          claim row exists before day line scan asked basis (slice_get (replies (fresh_station row) calls) (length before))
          (reply_there row exists calls before after (market_call day line scan asked basis) split);
    }

-- docs/SPECIFICATION.md, "Cases": zero sets are passed over, by lists of calls from a fresh wheat station and by stations handed in, on the definitions that the calls'
-- contracts cite and demand 3 folds.
use Rattle.std.specs.Prelude.{ℕ, List, [], ◌∷◌, ◌++◌, map, replicate, ℤ, pos, negsuc}
use Rattle.std.specs.Float.Ieee.{of_bits}
use Rattle.std.specs.Float.{binary32}
use Rattle.station_rules.specs.Sheets.{numbers_of}
use Rattle.station_rules.specs.Lines.{open_line, open_phase, check_due_phase}
use Rattle.station_rules.specs.Held.{Station, phase_code, no_set, fresh_line}
use Rattle.station_rules.specs.Stations.{fresh_station, line_of}
use Rattle.station_rules.specs.Replies.{refused_by, outcome, certificate}
use Rattle.station_rules.specs.Calls.{Call, sheet_call, repair_call, market_call, station_after, station_reply, station_after_all}
use Rattle.station_rules.specs.Books.{fresh_book, book_after_all, book_after, book_reply, book_intercept}
use Rattle.station_rules.specs.Cases.{Seen, sheet, market, Case, none_kept, off}
use Rattle.station_rules.specs.declared.Scan.{Scan}
use Rattle.station_rules.specs.declared.Asked.{Asked}
use Rattle.station_rules.specs.declared.Basis.{Basis}
use Rattle.station_rules.specs.declared.PastSet.{PastSet}

-- a sheet of five samples that deviate alike and one more; S is their sum
abbrev pub sums_to : (day : ℕ) (each last : ℤ) → Call
sums_to day each last = sheet_call day 0 (numbers_of (map off (replicate 5 each ++ last ∷ [])))

-- S 37, 60, 0
abbrev pub s37 : ℕ → Call
s37 day = sums_to day (pos 6) (pos 7)

abbrev pub s60 : ℕ → Call
s60 day = sums_to day (pos 10) (pos 10)

abbrev pub s0 : ℕ → Call
s0 day = sums_to day (pos 0) (pos 0)

-- a sheet on a station, and after a list of calls from a fresh one
abbrev pub sheet_from : Station → Call → Seen
sheet_from s c = sheet (station_reply s c) (line_of (station_after s c) 0).intercept

abbrev pub sheet_after : List Call → Call → Seen
sheet_after calls c = sheet_from (station_after_all (fresh_station 0) calls) c

-- the same by the book
abbrev pub book_sheet_after : List Call → Call → Seen
book_sheet_after calls c = let b = book_after_all (fresh_book 0) calls in sheet (book_reply b c) (book_intercept 0 (book_after b c).entries)

-- what an open sheet of S 37 shows, and one whose five adjust by 3
abbrev pub stays : Seen
stays = sheet (outcome (pos 37) 12 open_phase (pos 0)) (pos 0)

abbrev pub five_adjusts : Seen
five_adjusts = sheet (outcome (pos 37) 12 check_due_phase (negsuc 2)) (negsuc 2)

-- a past set with N 12
abbrev pub past : (day : ℕ) (sum : ℤ) → PastSet
past day sum = record { day = day; sum = sum; count = 12 }

-- a wheat station of day 20 whose line is open and holds these sets
abbrev pub holding : (newest nonzero : ℕ) → (past_newest past_nonzero : List PastSet) → Station
holding newest nonzero past_newest past_nonzero =
    record {
      row = 0;
      day = 20;
      lines = record { intercept = pos 0; phase = phase_code open_line; newest_held = newest; newest = past_newest; nonzero_held = nonzero; nonzero = past_nonzero } ∷ fresh_line ∷ fresh_line ∷ [];
    }

unfoldable pub zero_cases : List Case
zero_cases =
    -- 37, 37, 0, 37, 37, 37: the five pass over the zero and adjust by 3
    record { gives = sheet_after (s37 1 ∷ s37 2 ∷ s0 3 ∷ s37 4 ∷ s37 5 ∷ []) (s37 6); says = five_adjusts }
    ∷ record { gives = book_sheet_after (s37 1 ∷ s37 2 ∷ s0 3 ∷ s37 4 ∷ s37 5 ∷ []) (s37 6); says = five_adjusts }
    -- four of 60, then 0: a zero set at hand isn't tested for five
    ∷ record { gives = sheet_after (s60 1 ∷ s60 2 ∷ s60 3 ∷ s60 4 ∷ []) (s0 5); says = sheet (outcome (pos 0) 12 open_phase (pos 0)) (pos 0) }
    -- 70, 0, 99: the two take the zero
    ∷ record { gives = sheet_after (sums_to 1 (pos 12) (pos 10) ∷ s0 2 ∷ []) (sums_to 3 (pos 16) (pos 19)); says = sheet (outcome (pos 99) 12 open_phase (pos 0)) (pos 0) }
    -- four of 60, −1, 60: another sign still breaks the five
    ∷ record { gives = sheet_after (s60 1 ∷ s60 2 ∷ s60 3 ∷ s60 4 ∷ sums_to 5 (pos 0) (negsuc 0) ∷ []) (s60 6); says = sheet (outcome (pos 60) 12 open_phase (pos 0)) (pos 0) }
    -- day 0 S 5, day 6 S 0: a market test on day 13 rests on the zero set
    ∷ record {
      gives = market (station_reply (station_after_all (fresh_station 0) (sums_to 0 (pos 1) (pos 0) ∷ s0 6 ∷ [])) (market_call 13 0 (Scan.Wheat (of_bits binary32 0x4158_a3d7)) Asked.LineFigure Basis.Dry));
      says = market (certificate 6 (pos 0) (pos 0) 135 154);
    }
    -- each kind ages by itself: the fourth non-zero set is 14 days old, then 15, the newest two are zeros of the day before
    ∷ record { gives = sheet_after (s37 0 ∷ s37 1 ∷ s37 2 ∷ s37 3 ∷ s0 13 ∷ s0 13 ∷ []) (s37 14); says = five_adjusts }
    ∷ record { gives = sheet_after (s37 0 ∷ s37 1 ∷ s37 2 ∷ s37 3 ∷ s0 14 ∷ s0 14 ∷ []) (s37 15); says = stays }
    -- a repair empties both kinds
    ∷ record { gives = sheet_after (s37 1 ∷ s37 2 ∷ s37 3 ∷ s37 4 ∷ repair_call 4 ∷ []) (s37 5); says = stays }
    -- opened by a check with S = 0: no non-zero set; with S = 37: one
    ∷ record { gives = sheet_after (none_kept ∷ s0 2 ∷ s37 2 ∷ s37 2 ∷ s37 2 ∷ []) (s37 2); says = stays }
    ∷ record { gives = sheet_after (none_kept ∷ s37 2 ∷ s37 2 ∷ s37 2 ∷ s37 2 ∷ []) (s37 2); says = five_adjusts }
    -- the kinds are not compared: with one newest set of 19 days and four non-zero ones of the day the five are tested, the two are not
    ∷ record { gives = sheet_from (holding 1 4 (past 1 (pos 1000) ∷ no_set ∷ []) (replicate 4 (past 20 (pos 37)))) (s37 20); says = five_adjusts }
    -- number 0: three newest sets; no newest set; five non-zero ones; one of them zero; days that rise within a kind
    ∷ record { gives = sheet_from (holding 3 0 (replicate 2 (past 20 (pos 5))) (replicate 4 no_set)) (s37 20); says = sheet (refused_by 0) (pos 0) }
    ∷ record { gives = sheet_from (holding 0 1 (replicate 2 no_set) (replicate 4 (past 20 (pos 5)))) (s37 20); says = sheet (refused_by 0) (pos 0) }
    ∷ record { gives = sheet_from (holding 2 5 (replicate 2 (past 20 (pos 5))) (replicate 4 (past 20 (pos 5)))) (s37 20); says = sheet (refused_by 0) (pos 0) }
    ∷ record { gives = sheet_from (holding 1 1 (replicate 2 (past 20 (pos 0))) (past 20 (pos 0) ∷ replicate 3 no_set)) (s37 20); says = sheet (refused_by 0) (pos 0) }
    ∷ record { gives = sheet_from (holding 1 2 (replicate 2 (past 20 (pos 5))) (past 19 (pos 5) ∷ past 20 (pos 5) ∷ replicate 2 no_set)) (s37 20); says = sheet (refused_by 0) (pos 0) }
    ∷ []

-- docs/SPECIFICATION.md, "Cases": which state a line is in, by market tests after lists of calls, on the definitions that the calls' contracts cite and demand 3 folds.
use Rattle.std.specs.Prelude.{List, [], ◌∷◌, replicate, ℤ, pos, negsuc}
use Rattle.station_rules.specs.Sheets.{numbers_of}
use Rattle.station_rules.specs.Lines.{new_line, adjusted_line, check_due_phase}
use Rattle.station_rules.specs.Held.{Station}
use Rattle.station_rules.specs.Stations.{fresh_station}
use Rattle.station_rules.specs.Replies.{refused_by, outcome, certificate}
use Rattle.station_rules.specs.Calls.{Call, sheet_call, repair_call, station_after_all}
use Rattle.station_rules.specs.Cases.{Seen, sheet, market, Case, station_at, twice, far_apart, none_kept, sheet_in, sheet_on, dry_from}

-- calls on day 2: a sheet of six samples whose results are alike
abbrev pub alike : ℤ → Call
alike r = sheet_call 2 0 (numbers_of (replicate 6 (twice r)))

-- a repair
abbrev pub repairs : Call
repairs = repair_call 2

-- a test of 13.54 percent, dry, on day 2 after a list of calls on a station
abbrev pub tested_from : Station → List Call → Seen
tested_from s calls = dry_from (station_after_all s calls) 2 0x4158_a3d7

-- from a fresh wheat station
abbrev pub tested_after : List Call → Seen
tested_after calls = tested_from (fresh_station 0) calls

-- which state the line is in: new is 12, adjusted 25, shut 26. Results of 1011 adjust a new line by −11 and then meet its check, 1022 fail it
unfoldable pub phase_cases : List Case
phase_cases =
    record { gives = tested_after []; says = market (refused_by 12) }
    ∷ record { gives = tested_after (alike (pos 1011) ∷ []); says = market (refused_by 25) }
    ∷ record { gives = tested_after (none_kept ∷ []); says = market (refused_by 26) }
    -- an outcome says check due of all three: adjusted, shut by N = 0, shut at the bound of the intercept
    ∷ record { gives = sheet_on new_line [] (replicate 6 (twice (pos 1011))); says = sheet (outcome (pos 132) 12 check_due_phase (negsuc 10)) (negsuc 10) }
    ∷ record { gives = sheet_on new_line [] far_apart; says = sheet (outcome (pos 0) 0 check_due_phase (pos 0)) (pos 0) }
    ∷ record { gives = sheet_in (station_at (negsuc 994) new_line []) (replicate 6 (twice (pos 2006))); says = sheet (outcome (pos 132) 12 check_due_phase (pos 0)) (negsuc 994) }
    -- the newest sheet decides: shut and then adjusted by its check, adjusted and then shut, shut twice, adjusted twice
    ∷ record { gives = tested_after (none_kept ∷ alike (pos 1011) ∷ []); says = market (refused_by 25) }
    ∷ record { gives = tested_after (alike (pos 1011) ∷ none_kept ∷ []); says = market (refused_by 26) }
    ∷ record { gives = tested_after (none_kept ∷ none_kept ∷ []); says = market (refused_by 26) }
    ∷ record { gives = tested_after (alike (pos 1011) ∷ alike (pos 1022) ∷ []); says = market (refused_by 25) }
    -- an intercept of −995 that would leave −1000 by 11: shut, of a new line and of an adjusted one
    ∷ record { gives = tested_from (station_at (negsuc 994) new_line []) (alike (pos 2006) ∷ []); says = market (refused_by 26) }
    ∷ record { gives = tested_from (station_at (negsuc 994) adjusted_line []) (alike (pos 2006) ∷ []); says = market (refused_by 26) }
    -- a repair alters neither, and the next sheet is the check: results of 1006 are within the one set's limit, but not within the check's
    ∷ record { gives = tested_after (alike (pos 1011) ∷ repairs ∷ []); says = market (refused_by 25) }
    ∷ record { gives = tested_after (none_kept ∷ repairs ∷ []); says = market (refused_by 26) }
    ∷ record { gives = tested_after (none_kept ∷ repairs ∷ alike (pos 1006) ∷ []); says = market (refused_by 25) }
    ∷ record { gives = tested_after (none_kept ∷ repairs ∷ alike (pos 1005) ∷ []); says = market (certificate 2 (pos 0) (pos 0) 135 154) }
    -- a line that its check opened is new after a repair
    ∷ record { gives = tested_after (none_kept ∷ alike (pos 1005) ∷ repairs ∷ []); says = market (refused_by 12) }
    ∷ record { gives = tested_after (alike (pos 1011) ∷ alike (pos 1011) ∷ repairs ∷ []); says = market (refused_by 12) }
    ∷ []

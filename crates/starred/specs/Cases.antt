-- docs/SPECIFICATION.md, "Cases": the cases marked by a star, on the definitions that the calls' contracts cite; wheat, N 12 and n 5.
use Rattle.std.specs.Prelude.{List, [], ◌∷◌, replicate, ℤ, pos, negsuc}
use Rattle.reading.specs.Reading.{hundredths}
use Rattle.station_rules.specs.Lines.{new_line, open_line, adjusted_line, shut_line, open_phase, check_due_phase}
use Rattle.station_rules.specs.Replies.{refused_by, outcome, certificate}
use Rattle.station_rules.specs.Cases.{Seen, read, sheet, market, charted, Case, read_of, again, results, deviations, two_deviations, dry_on}
use Rattle.chart_rules.specs.Cases.{averages}

-- the last of sets with these sums, n 5, each monitor result 1000, in weeks 1, 2, .. of a fresh wheat chart
abbrev pub sums : List ℤ → Seen
sums ss = charted (averages ss)

-- the cases marked by a star
unfoldable pub starred : List Case
starred =
    -- just below 0.005 reads 0; 0.125 reads 13
    record { gives = read_of 0x3ba3_d70a; says = read (hundredths 0) }
    ∷ record { gives = read_of 0x3e00_0000; says = read (hundredths 13) }
    -- first 1300, second 1330: no third, so one is refused; without it S is 1300 + 1330 − 2600
    ∷ record { gives = results (pos 1300) (pos 1330) (pos 1316); says = sheet (refused_by 6) (pos 0) }
    ∷ record { gives = results (pos 1300) (pos 1330) (negsuc 0); says = sheet (outcome (pos 30) 12 open_phase (pos 0)) (pos 0) }
    -- 1331 with 1316: the pair is 1331, 1316; with 1362 it is 1300, 1331
    ∷ record { gives = results (pos 1300) (pos 1331) (pos 1316); says = sheet (outcome (pos 47) 12 open_phase (pos 0)) (pos 0) }
    ∷ record { gives = results (pos 1300) (pos 1331) (pos 1362); says = sheet (outcome (pos 31) 12 open_phase (pos 0)) (pos 0) }
    -- 82 and −20: again due for the first, and for it alone
    ∷ record { gives = two_deviations (λ s. s) (λ s. s); says = sheet (refused_by 7) (pos 0) }
    ∷ record { gives = two_deviations (again (pos 1000)) (again (pos 1000)); says = sheet (refused_by 7) (pos 0) }
    ∷ record { gives = two_deviations (again (pos 1000)) (λ s. s); says = sheet (outcome (negsuc 19) 12 open_phase (pos 0)) (pos 0) }
    -- new, S 120: open; 121: intercept −10
    ∷ record { gives = deviations new_line [] (pos 20 ∷ pos 20 ∷ pos 20 ∷ pos 20 ∷ pos 20 ∷ pos 20 ∷ []); says = sheet (outcome (pos 120) 12 open_phase (pos 0)) (pos 0) }
    ∷ record { gives = deviations new_line [] (pos 20 ∷ pos 20 ∷ pos 20 ∷ pos 20 ∷ pos 20 ∷ pos 21 ∷ []); says = sheet (outcome (pos 121) 12 check_due_phase (negsuc 9)) (negsuc 9) }
    -- open, past S 70: S 98 stays open, 99 adjusts by 7
    ∷ record { gives = deviations open_line (pos 70 ∷ []) (pos 16 ∷ pos 16 ∷ pos 16 ∷ pos 16 ∷ pos 17 ∷ pos 17 ∷ []); says = sheet (outcome (pos 98) 12 open_phase (pos 0)) (pos 0) }
    ∷ record { gives = deviations open_line (pos 70 ∷ []) (pos 16 ∷ pos 16 ∷ pos 16 ∷ pos 17 ∷ pos 17 ∷ pos 17 ∷ []); says = sheet (outcome (pos 99) 12 check_due_phase (negsuc 6)) (negsuc 6) }
    -- fifth set, five S of 36: open; of 37: adjusts by 3
    ∷ record { gives = deviations open_line (replicate 4 (pos 36)) (replicate 6 (pos 6)); says = sheet (outcome (pos 36) 12 open_phase (pos 0)) (pos 0) }
    ∷ record { gives = deviations open_line (replicate 4 (pos 37)) (pos 7 ∷ replicate 5 (pos 6)); says = sheet (outcome (pos 37) 12 check_due_phase (negsuc 2)) (negsuc 2) }
    -- check due, after an adjustment and after shutting: S 60 opens, 61 adjusts by 5
    ∷ record { gives = deviations adjusted_line [] (replicate 6 (pos 10)); says = sheet (outcome (pos 60) 12 open_phase (pos 0)) (pos 0) }
    ∷ record { gives = deviations adjusted_line [] (pos 11 ∷ replicate 5 (pos 10)); says = sheet (outcome (pos 61) 12 check_due_phase (negsuc 4)) (negsuc 4) }
    ∷ record { gives = deviations shut_line [] (replicate 6 (pos 10)); says = sheet (outcome (pos 60) 12 open_phase (pos 0)) (pos 0) }
    ∷ record { gives = deviations shut_line [] (pos 11 ∷ replicate 5 (pos 10)); says = sheet (outcome (pos 61) 12 check_due_phase (negsuc 4)) (negsuc 4) }
    -- h 1354 dry: 135 and 154; h 1350 dry: 135 and 153 (13.54 and 13.5)
    ∷ record { gives = dry_on open_line (pos 0 ∷ []) 0x4158_a3d7; says = market (certificate 1 (pos 0) (pos 0) 135 154) }
    ∷ record { gives = dry_on open_line (pos 0 ∷ []) 0x4158_0000; says = market (certificate 1 (pos 0) (pos 0) 135 153) }
    -- chart, n 5: sum 98 plots 20, which is absolute; 97 plots 19, which isn't
    ∷ record { gives = sums (pos 98 ∷ []); says = charted (pos 1 ∷ pos 0 ∷ pos 0 ∷ []) }
    ∷ record { gives = sums (pos 97 ∷ []); says = charted (pos 0 ∷ pos 0 ∷ pos 0 ∷ []) }
    -- 75 then 75, which plot 15 each: tolerance; 75 then −75: none
    ∷ record { gives = sums (pos 75 ∷ pos 75 ∷ []); says = charted (pos 0 ∷ pos 1 ∷ pos 0 ∷ []) }
    ∷ record { gives = sums (pos 75 ∷ negsuc 74 ∷ []); says = charted (pos 0 ∷ pos 0 ∷ pos 0 ∷ []) }
    ∷ []

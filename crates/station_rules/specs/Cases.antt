-- What a call of the cases shows, how the station's cases are made, "Misreadings of the handbook", the place of 25 and 26, and the cases of "Wet gluten". The cases marked by a star
-- and those of a line's phase are in the crate `starred`.
use Rattle.std.specs.Prelude.{◌≡◌, List, [], ◌∷◌, ◌++◌, map, ℕ, ◌*◌, min, length, take, replicate, ℤ, pos, negsuc, ◌+ℤ◌}
use Rattle.std.specs.Float.Ieee.{of_bits}
use Rattle.std.specs.Float.{binary32}
use Rattle.reading.specs.Reading.{unit, Said, hundredths, answer_of, said_by}
use Rattle.station_rules.specs.Sheets.{numbers_of}
use Rattle.station_rules.specs.declared.Sample.{Sample}
use Rattle.station_rules.specs.Lines.{LinePhase, new_line, open_line, adjusted_line, shut_line, nonzero_of, open_phase}
use Rattle.station_rules.specs.Held.{phase_code, no_set, fresh_line}
use Rattle.station_rules.specs.declared.PastSet.{PastSet}
use Rattle.station_rules.specs.declared.Line.{Line}
use Rattle.station_rules.specs.Stations.{fresh_station, line_of, sheet_of, market_of}
use Rattle.station_rules.specs.Replies.{Reply, refused_by, outcome, certificate, sheet_reply, market_reply}
use Rattle.station_rules.specs.Calls.{Call, sheet_call}
use Rattle.station_rules.specs.Demand3.{gluten_off}
use Rattle.station_rules.specs.declared.Scan.{Scan}
use Rattle.station_rules.specs.declared.WheatClass.{WheatClass}
use Rattle.station_rules.specs.declared.WheatClass.TheVariants.{HardRedWinter, HardRedSpring, Other}
use Rattle.station_rules.specs.declared.Asked.{Asked}
use Rattle.station_rules.specs.declared.Basis.{Basis}
use Rattle.station_rules.specs.declared.Basis.TheVariants.{Standard, Dry, Specified, AsIs}
use Rattle.station_rules.specs.Held.{Station}

-- what a call shows: what a reading says; a sheet's reply and the line's intercept after it; a market test's reply; a charted set's average absolute, tolerance and
-- run, 1 or 0 each
pub data Seen : Type 0 where
  read : Said → Seen
  sheet : Reply → (intercept : ℤ) → Seen
  market : Reply → Seen
  charted : (limits : List ℤ) → Seen

pub record Case : Type 0 where
  pub gives : Seen
  pub says : Seen

-- the reading of a float, by its pattern
abbrev pub read_of : (bits : ℕ) → Seen
read_of bits = read (said_by (answer_of (of_bits binary32 bits)))

-- a line that holds the newest of past sets
abbrev pub line_with : (intercept : ℤ) → LinePhase → List PastSet → Line
line_with intercept phase past =
    record {
      intercept = intercept;
      phase = phase_code phase;
      newest_held = min 2 (length past);
      newest = take 2 (past ++ replicate 2 no_set);
      nonzero_held = min 4 (length (nonzero_of past));
      nonzero = take 4 (nonzero_of past ++ replicate 4 no_set);
    }

-- a wheat station of day 1 whose line has this intercept and phase, and past sets of day 1 with N 12 and these S
abbrev pub station_at : (intercept : ℤ) → LinePhase → List ℤ → Station
station_at intercept phase sums =
    record { row = 0; day = 1; lines = line_with intercept phase (map (λ s. record { day = 1; sum = s; count = 12 }) sums) ∷ fresh_line ∷ fresh_line ∷ [] }

-- the same with intercept 0
abbrev pub station_with : LinePhase → List ℤ → Station
station_with phase sums = station_at (pos 0) phase sums

-- a sample; one that deviates by so much; one measured again, with both results alike
abbrev pub sample : (baseline first second third : ℤ) → Sample
sample baseline first second third =
    record { baseline = baseline; first = first; second = second; third = third; again_first = negsuc 0; again_second = negsuc 0 }

abbrev pub off : ℤ → Sample
off d = sample (pos 1000) (pos 1000 +ℤ d) (pos 1000) (negsuc 0)

abbrev pub again : ℤ → Sample → Sample
again r s = record { baseline = s.baseline; first = s.first; second = s.second; third = s.third; again_first = r; again_second = r }

-- a sample of baseline 1000 whose results are alike
abbrev pub twice : ℤ → Sample
twice r = sample (pos 1000) r r (negsuc 0)

-- six samples that deviate, and again: none is kept
abbrev pub far_apart : List Sample
far_apart = replicate 3 (again (pos 1100) (twice (pos 1100))) ++ replicate 3 (again (pos 900) (twice (pos 900)))

-- a sheet on day 2 of which no sample is kept
abbrev pub none_kept : Call
none_kept = sheet_call 2 0 (numbers_of far_apart)

-- a sheet on day 2 of a station's line 0
abbrev pub sheet_in : Station → List Sample → Seen
sheet_in s ss =
    let r = sheet_of s 2 0 (numbers_of ss) in
    sheet (sheet_reply r.answer) (line_of r.station 0).intercept

-- on a line with a phase and past S
abbrev pub sheet_on : LinePhase → List ℤ → List Sample → Seen
sheet_on phase past ss = sheet_in (station_with phase past) ss

-- one sample of baseline 1300 with these results, and five that don't deviate
abbrev pub results : (first second third : ℤ) → Seen
results first second third = sheet_on new_line [] (sample (pos 1300) first second third ∷ replicate 5 (off (pos 0)))

-- six deviations
abbrev pub deviations : LinePhase → List ℤ → List ℤ → Seen
deviations phase past ds = sheet_on phase past (map off ds)

-- deviations 82 and −20, and four zeros; the first and the second sample measured again or not
abbrev pub two_deviations : (first second : Sample → Sample) → Seen
two_deviations first second =
    sheet_on new_line [] (first (sample (pos 1000) (pos 1041) (pos 1041) (negsuc 0)) ∷ second (off (negsuc 19)) ∷ replicate 4 (off (pos 0)))

-- a wheat scan on a day of a station's line 0, dry
abbrev pub dry_from : Station → (day bits : ℕ) → Seen
dry_from s day bits = market (market_reply (market_of s day 0 (Scan.Wheat (of_bits binary32 bits)) Asked.LineFigure Basis.Dry).answer)

-- on day 2; on an open line of intercept 0 h is the float's reading
abbrev pub dry_on : LinePhase → List ℤ → (bits : ℕ) → Seen
dry_on phase past bits = dry_from (station_with phase past) 2 bits

-- a wheat scan with gluten, by the patterns of its two floats
abbrev pub wheat_gluten : (protein gluten : ℕ) → Scan
wheat_gluten protein gluten = Scan.WheatGluten (record { protein = of_bits binary32 protein; gluten = of_bits binary32 gluten })

-- gluten asked on day 2 of a station's line
abbrev pub gluten_on : Station → (line : ℕ) → Scan → WheatClass → Basis → Seen
gluten_on s line scan class basis = market (market_reply (market_of s 2 line scan (Asked.Gluten class) basis).answer)

-- and of a wheat line that is open with an intercept
abbrev pub gluten_at : (intercept : ℤ) → Scan → WheatClass → Basis → Seen
gluten_at intercept scan class basis = gluten_on (station_at intercept open_line (pos 0 ∷ [])) 0 scan class basis

-- what comes out where the handbook may be misread
unfoldable pub misreadings : List Case
misreadings =
    -- the float is not multiplied in single precision: 3BA3D70A reads 0, not 1
    record { gives = read_of 0x3ba3_d70a; says = read (hundredths 0) }
    -- the rounded figure is not converted: h 1354 dry is 154, not 153
    ∷ record { gives = dry_on open_line (pos 0 ∷ []) 0x4158_a3d7; says = market (certificate 1 (pos 0) (pos 0) 135 154) }
    -- set averages are not averaged after a dropped sample: S 83 of N 10 and past S 70 of N 12 are 153 of 22, at most 7, though the averages' mean is above 7
    ∷ record {
      gives =
          sheet_on open_line (pos 70 ∷ [])
          (again (pos 1100) (sample (pos 1000) (pos 1100) (pos 1100) (negsuc 0)) ∷ map off (pos 17 ∷ pos 17 ∷ pos 17 ∷ pos 16 ∷ pos 16 ∷ []));
      says = sheet (outcome (pos 83) 10 open_phase (pos 0)) (pos 0);
    }
    -- an adjusted line doesn't test before its check
    ∷ record { gives = dry_on adjusted_line [] 0x4158_0000; says = market (refused_by 25) }
    ∷ []

-- a line that is adjusted (25) or shut (26); 11 comes before, 13 and 14 after: intercept −10 and reading 5; day 30; 99.99 percent, dry above 100
unfoldable pub phase_order : List Case
phase_order =
    record { gives = dry_from (station_at (negsuc 9) adjusted_line []) 2 0x3d4c_cccd; says = market (refused_by 11) }
    ∷ record { gives = dry_from (station_at (negsuc 9) shut_line []) 2 0x3d4c_cccd; says = market (refused_by 11) }
    ∷ record { gives = dry_from (station_with adjusted_line []) 30 0x4158_a3d7; says = market (refused_by 25) }
    ∷ record { gives = dry_from (station_with shut_line []) 30 0x4158_a3d7; says = market (refused_by 26) }
    ∷ record { gives = dry_from (station_with adjusted_line []) 2 0x42c7_fae1; says = market (refused_by 25) }
    ∷ record { gives = dry_from (station_with shut_line []) 2 0x42c7_fae1; says = market (refused_by 26) }
    ∷ []

-- wet gluten
unfoldable pub gluten_cases : List Case
gluten_cases =
    -- the intercept is derived: 0 gives 0, 11 gives 33, 500 and −500 (the exact halves) give 1515 and −1515
    record { gives = gluten_at (pos 0) (wheat_gluten 0x4158_a3d7 0x41f0_0000) HardRedWinter Standard; says = market (certificate 1 (pos 0) (pos 1400) 300 300) }
    ∷ record { gives = gluten_at (pos 11) (wheat_gluten 0x4158_a3d7 0x41f0_0000) HardRedSpring Standard; says = market (certificate 1 (pos 33) (pos 1400) 303 303) }
    ∷ record { gives = gluten_at (pos 500) (wheat_gluten 0x4158_a3d7 0x41f0_0000) HardRedWinter Standard; says = market (certificate 1 (pos 1515) (pos 1400) 452 452) }
    ∷ record { gives = gluten_at (negsuc 499) (wheat_gluten 0x4158_a3d7 0x41f0_0000) HardRedWinter Standard; says = market (certificate 1 (negsuc 1514) (pos 1400) 149 149) }
    -- intercept 1000 gives 3029: reading 6971 is certified, 6972 is 11
    ∷ record { gives = gluten_at (pos 1000) (wheat_gluten 0x4158_a3d7 0x428b_6b85) HardRedWinter Standard; says = market (certificate 1 (pos 3029) (pos 1400) 1000 1000) }
    ∷ record { gives = gluten_at (pos 1000) (wheat_gluten 0x4158_a3d7 0x428b_70a4) HardRedWinter Standard; says = market (refused_by 11) }
    -- protein may be not a number; gluten that isn't is 9
    ∷ record { gives = gluten_at (pos 0) (wheat_gluten 0x7fc0_0000 0x41f0_0000) HardRedSpring Standard; says = market (certificate 1 (pos 0) (pos 1400) 300 300) }
    ∷ record { gives = gluten_at (pos 0) (wheat_gluten 0x4158_a3d7 0x7fc0_0000) HardRedSpring Standard; says = market (refused_by 9) }
    -- another class is 23, whatever the float and the basis
    ∷ record { gives = gluten_at (pos 0) (wheat_gluten 0x4158_a3d7 0x41f0_0000) Other Standard; says = market (refused_by 23) }
    ∷ record { gives = gluten_at (pos 0) (wheat_gluten 0x4158_a3d7 0x7fc0_0000) Other Standard; says = market (refused_by 23) }
    ∷ record { gives = gluten_at (pos 0) (wheat_gluten 0x4158_a3d7 0x41f0_0000) Other (Specified (pos 1400)); says = market (refused_by 23) }
    -- a basis not asked for as standard is 24, whatever its value and the float
    ∷ record { gives = gluten_at (pos 0) (wheat_gluten 0x4158_a3d7 0x41f0_0000) HardRedWinter Dry; says = market (refused_by 24) }
    ∷ record { gives = gluten_at (pos 0) (wheat_gluten 0x4158_a3d7 0x41f0_0000) HardRedWinter (AsIs (pos 1400)); says = market (refused_by 24) }
    ∷ record { gives = gluten_at (pos 0) (wheat_gluten 0x4158_a3d7 0x41f0_0000) HardRedWinter (Specified (pos 1200)); says = market (refused_by 24) }
    ∷ record { gives = gluten_at (pos 0) (wheat_gluten 0x4158_a3d7 0x41f0_0000) HardRedWinter (Specified (pos 1400)); says = market (refused_by 24) }
    ∷ record { gives = gluten_at (pos 0) (wheat_gluten 0x4158_a3d7 0x41f0_0000) HardRedWinter (Specified (pos 5001)); says = market (refused_by 24) }
    ∷ record { gives = gluten_at (pos 0) (wheat_gluten 0x4158_a3d7 0x41f0_0000) HardRedWinter (Specified (negsuc 0)); says = market (refused_by 24) }
    ∷ record { gives = gluten_at (pos 0) (wheat_gluten 0x4158_a3d7 0x7fc0_0000) HardRedWinter Dry; says = market (refused_by 24) }
    -- a scan without the float is 8, whatever the class and the basis
    ∷ record { gives = gluten_at (pos 0) (Scan.Wheat (of_bits binary32 0x41f0_0000)) HardRedWinter Standard; says = market (refused_by 8) }
    ∷ record { gives = gluten_at (pos 0) (Scan.Wheat (of_bits binary32 0x41f0_0000)) Other Dry; says = market (refused_by 8) }
    ∷ record { gives = gluten_at (pos 0) (Scan.Fault 1) Other Standard; says = market (refused_by 8) }
    ∷ record { gives = gluten_at (pos 0) (Scan.Corn (record { protein = of_bits binary32 0x41f0_0000; oil = of_bits binary32 0x41f0_0000; starch = of_bits binary32 0x41f0_0000 })) HardRedWinter Standard; says = market (refused_by 8) }
    -- wheat has no line 1; corn has no gluten, on none of its lines
    ∷ record { gives = gluten_on (fresh_station 0) 1 (wheat_gluten 0x4158_a3d7 0x41f0_0000) HardRedWinter Standard; says = market (refused_by 3) }
    ∷ record { gives = gluten_on (fresh_station 1) 0 (wheat_gluten 0x4158_a3d7 0x41f0_0000) HardRedWinter Standard; says = market (refused_by 8) }
    ∷ record { gives = gluten_on (fresh_station 1) 2 (Scan.Corn (record { protein = of_bits binary32 0x41f0_0000; oil = of_bits binary32 0x41f0_0000; starch = of_bits binary32 0x41f0_0000 })) Other Dry; says = market (refused_by 8) }
    -- the protein line's permission: new is 12, adjusted 25, shut 26
    ∷ record { gives = gluten_on (fresh_station 0) 0 (wheat_gluten 0x4158_a3d7 0x41f0_0000) HardRedWinter Standard; says = market (refused_by 12) }
    ∷ record { gives = gluten_on (station_at (pos 0) adjusted_line []) 0 (wheat_gluten 0x4158_a3d7 0x41f0_0000) HardRedSpring Standard; says = market (refused_by 25) }
    ∷ record { gives = gluten_on (station_at (pos 0) shut_line []) 0 (wheat_gluten 0x4158_a3d7 0x41f0_0000) HardRedSpring Standard; says = market (refused_by 26) }
    -- without gluten asked its float is not looked at: 13.54 dry
    ∷ record { gives = market (market_reply (market_of (station_with open_line (pos 0 ∷ [])) 2 0 (wheat_gluten 0x4158_a3d7 0x7fc0_0000) Asked.LineFigure Dry).answer); says = market (certificate 1 (pos 0) (pos 0) 135 154) }
    ∷ []

-- the gluten distance of 0.055 percent is reached: 30.125 and a protein intercept of 4, which derives 12, give 30.3
abbrev pub GlutenReached : Type 0
GlutenReached =
    (gluten_at (pos 4) (wheat_gluten 0x7fc0_0000 0x41f1_0000) HardRedWinter Standard ≡ market (certificate 1 (pos 12) (pos 1400) 303 303))
    × (gluten_off 303 (of_bits binary32 0x41f1_0000) (pos 4) ≡ 11 * unit)

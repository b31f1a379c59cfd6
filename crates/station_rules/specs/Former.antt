-- The market rule before numbers 25 and 26, by which 12 was answered on every line that isn't open: kept because certificates are promised in just the same cases.
use Rattle.std.specs.Prelude.{ℕ, ◌+◌, Bool, true, false, not, ◌||◌, cond, List, [], ◌∷◌, ltb, eqb, nat_abs}
use Rattle.whole.specs.Lists.{Check}
use Rattle.reading.specs.Reading.{in_range}
use Rattle.station_rules.specs.Readings.{scan_serves, asked_float}
use Rattle.station_rules.specs.Refusals.{first_number}
use Rattle.station_rules.specs.Lines.{LinePhase, new_line, open_line, adjusted_line, shut_line, Values}
use Rattle.station_rules.specs.Markets.{basis_of, basis_from, corrected_value, other_class, other_basis, newest_day, within, too_high, certificate_of}
use Rattle.station_rules.specs.Judging.{day_check, line_check}
use Rattle.station_rules.specs.Held.{Station}
use Rattle.station_rules.specs.Soundness.{sound_check}
use Rattle.station_rules.specs.Stations.{MarketResult, values_of, market_station, market_result}
use Rattle.station_rules.specs.Replies.{Reply, refused_by, opening, outcome, repaired, certificate, market_reply}
use Rattle.station_rules.specs.Calls.{Call, sheet_call, repair_call, market_call, station_after, station_reply}
use Rattle.station_rules.specs.declared.Scan.{Scan}
use Rattle.station_rules.specs.declared.Asked.{Asked}
use Rattle.station_rules.specs.declared.Basis.{Basis}

-- the line is open
abbrev pub is_open : LinePhase → Bool
is_open new_line = false
is_open open_line = true
is_open adjusted_line = false
is_open shut_line = false

module _ (row : ℕ) (v : Values) (line : ℕ) (scan : Scan) (asked : Asked) (basis : Basis) where
  -- numbers 8, 23, 24 and 9 to 14, of a request on a day; 12: the line is not open
  unfoldable pub former_checks : ℕ → List (Check ℕ)
  former_checks day =
      let a = basis_from row asked in
      let b = basis_of a basis in
      let h = corrected_value v scan asked line in
      record { answer = 8; applies = not (scan_serves row scan asked) }
      ∷ record { answer = 23; applies = other_class asked }
      ∷ record { answer = 24; applies = other_basis asked basis }
      ∷ record { answer = 9; applies = not (in_range (asked_float scan asked line)) }
      ∷ record { answer = 10; applies = not (within 0 5000 b) }
      ∷ record { answer = 11; applies = not (within 0 10000 h) }
      ∷ record { answer = 12; applies = not (is_open v.phase) }
      ∷ record { answer = 13; applies = ltb (newest_day v.newest + 7) day }
      ∷ record { answer = 14; applies = too_high a (nat_abs b) (nat_abs h) }
      ∷ []

-- a market test by these
unfoldable pub former_market : Station → ℕ → ℕ → Scan → Asked → Basis → MarketResult
former_market s day line scan asked basis =
    market_result
    (first_number (sound_check s ∷ day_check s.day day ∷ line_check s.row line ∷ former_checks s.row (values_of s line) line scan asked basis day))
    s (market_station s day) (certificate_of s.row (values_of s line) line scan asked basis)

-- ---- lists of calls with market tests by the former rule; sheets and repairs are as they are

unfoldable pub former_after : Station → Call → Station
former_after s (sheet_call day line numbers) = station_after s (sheet_call day line numbers)
former_after s (repair_call day) = station_after s (repair_call day)
former_after s (market_call day line scan asked basis) = (former_market s day line scan asked basis).station

unfoldable pub former_reply : Station → Call → Reply
former_reply s (sheet_call day line numbers) = station_reply s (sheet_call day line numbers)
former_reply s (repair_call day) = station_reply s (repair_call day)
former_reply s (market_call day line scan asked basis) = market_reply (former_market s day line scan asked basis).answer

abbrev pub former_replies : Station → List Call → List Reply
former_replies s [] = []
former_replies s (c ∷ cs) = former_reply s c ∷ former_replies (former_after s c) cs

abbrev pub former_after_all : Station → List Call → Station
former_after_all s [] = s
former_after_all s (c ∷ cs) = former_after_all (former_after s c) cs

-- ---- the answers of both

-- 25 and 26 were 12; every other number is what it was
abbrev pub former_number : ℕ → ℕ
former_number n = cond (eqb n 25 || eqb n 26) 12 n

-- a reply with the former number; all but refusals are the same
abbrev pub as_formerly : Reply → Reply
as_formerly (refused_by n) = refused_by (former_number n)
as_formerly opening = opening
as_formerly (outcome sum count phase change) = outcome sum count phase change
as_formerly repaired = repaired
as_formerly (certificate day intercept basis figure converted) = certificate day intercept basis figure converted

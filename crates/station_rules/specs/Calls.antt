-- Lists of calls: sheets, repairs and market tests, refused ones included, each on the station that the call before handed back.
use Rattle.std.specs.Prelude.{ℕ, List, [], ◌∷◌, ℤ}
use Rattle.station_rules.specs.Stations.{sheet_of, repair_of, market_of}
use Rattle.station_rules.specs.Replies.{Reply, sheet_reply, repair_reply, market_reply}
use Rattle.station_rules.specs.declared.Scan.{Scan}
use Rattle.station_rules.specs.declared.Asked.{Asked}
use Rattle.station_rules.specs.declared.Basis.{Basis}
use Rattle.station_rules.specs.Held.{Station}

-- a call's arguments other than the station
pub data Call : Type 0 where
  sheet_call : (day line : ℕ) (numbers : List ℤ) → Call
  repair_call : (day : ℕ) → Call
  market_call : (day line : ℕ) → Scan → Asked → Basis → Call

-- the station that a call hands back
unfoldable pub station_after : Station → Call → Station
station_after s (sheet_call day line numbers) = (sheet_of s day line numbers).station
station_after s (repair_call day) = (repair_of s day).station
station_after s (market_call day line scan asked basis) = (market_of s day line scan asked basis).station

-- what the station answers
unfoldable pub station_reply : Station → Call → Reply
station_reply s (sheet_call day line numbers) = sheet_reply (sheet_of s day line numbers).answer
station_reply s (repair_call day) = repair_reply (repair_of s day).answer
station_reply s (market_call day line scan asked basis) = market_reply (market_of s day line scan asked basis).answer

-- the answers to a list of calls
abbrev pub replies : Station → List Call → List Reply
replies s [] = []
replies s (c ∷ cs) = station_reply s c ∷ replies (station_after s c) cs

-- the station after a list of calls
abbrev pub station_after_all : Station → List Call → Station
station_after_all s [] = s
station_after_all s (c ∷ cs) = station_after_all (station_after s c) cs

-- For the proofs of the code, no rule: the float asked for of a scan (docs/SPECIFICATION.md, "Analyser readings", "Wet gluten").
use Rattle.std.specs.Prelude.{Some, None, Option, cond, ℕ, Float}
use Rattle.station_rules.specs.Readings.{scan_serves, asked_float}
use Rattle.station_rules.specs.declared.Scan.{Scan}
use Rattle.station_rules.specs.declared.Asked.{Asked}

-- the float asked for, where the scan serves
unfoldable pub picked_of : ℕ → Scan → Asked → ℕ → Option Float
picked_of row scan asked line = cond (scan_serves row scan asked) (Some (asked_float scan asked line)) None

-- Each case of a line's phase comes out as it says, by computation.
use mathlib.Core.Path.{◌≡◌, refl}
use mathlib.Core.List.{map}
use lib.Ieee.{of_bits}
use Rattle.reading.specs.Reading.{units_of, in_range, reading_of}
use Rattle.whole.specs.Rounding.{rounded_away, nearest_tenth}
use Rattle.station_rules.specs.Rows.{row_of, samples, standard_basis, line_count, limits_of}
use Rattle.station_rules.specs.Readings.{scan_fits, line_float, scan_serves, asked_float}
use Rattle.station_rules.specs.Sheets.{samples_of, wrong_number, spread, closer, closest_pair, third_due, used_pair, first_deviation, again_round, final_deviation, kept_samples, set_of, sheet_checks}
use Rattle.station_rules.specs.Lines.{valid_on, same_side, newest_tests, five_test, tests_by, verdict_of}
use Rattle.station_rules.specs.Markets.{basis_from, asked_intercept, other_class, other_basis, corrected_value, too_high, tenths, tenths_at, market_checks, certificate_of}
use Rattle.station_rules.specs.Judging.{sheet_numbers, market_numbers, sheet_set, sheet_verdict}
use Rattle.station_rules.specs.Soundness.{sound_line, sound}
use Rattle.station_rules.specs.Stations.{sheet_station, outcome_of, sheet_of, repair_of, market_of}
use Rattle.station_rules.specs.Calls.{station_after}
use Rattle.station_rules.specs.Cases.{Case}
use Rattle.starred.specs.Phases.{phase_cases}

pub phase_cases_hold : map (λ (c : Case). c.gives) phase_cases ≡ map (λ (c : Case). c.says) phase_cases
unfolding phase_cases of_bits units_of in_range reading_of row_of samples standard_basis line_count limits_of scan_fits line_float scan_serves asked_float samples_of wrong_number spread closer closest_pair third_due used_pair first_deviation again_round final_deviation kept_samples set_of sheet_checks valid_on same_side newest_tests five_test tests_by rounded_away verdict_of basis_from asked_intercept other_class other_basis corrected_value too_high tenths tenths_at nearest_tenth market_checks certificate_of sheet_numbers market_numbers sheet_set sheet_verdict sound_line sound sheet_station outcome_of sheet_of repair_of market_of station_after
phase_cases_hold = refl

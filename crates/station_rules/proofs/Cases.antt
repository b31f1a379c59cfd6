-- What comes out is what the rules say, by computation: where the handbook may be misread, and where 25 and 26 stand among the numbers.
use mathlib.Core.Path.{◌≡◌, refl}
use mathlib.Core.List.{map}
use lib.Ieee.{of_bits}
use Rattle.reading.specs.Reading.{units_of, in_range, reading_of, answer_of}
use Rattle.whole.specs.Rounding.{rounded_away, nearest_tenth}
use Rattle.station_rules.specs.Rows.{row_of, samples, standard_basis, line_count, limits_of}
use Rattle.station_rules.specs.Readings.{scan_fits, line_float, scan_serves, asked_float}
use Rattle.station_rules.specs.Sheets.{samples_of, wrong_number, spread, closer, closest_pair, third_due, used_pair, first_deviation, again_round, final_deviation, kept_samples, set_of, sheet_checks}
use Rattle.station_rules.specs.Lines.{valid_on, same_side, newest_tests, five_test, tests_by, verdict_of}
use Rattle.station_rules.specs.Markets.{basis_from, asked_intercept, other_class, other_basis, corrected_value, too_high, tenths, tenths_at, market_checks, certificate_of}
use Rattle.station_rules.specs.Judging.{sheet_numbers, market_numbers, sheet_set, sheet_verdict}
use Rattle.station_rules.specs.Soundness.{sound_line, sound}
use Rattle.station_rules.specs.Stations.{sheet_station, outcome_of, sheet_of, market_of}
use Rattle.station_rules.specs.Cases.{Case, misreadings, phase_order}

pub misreadings_avoided : map (λ (c : Case). c.gives) misreadings ≡ map (λ (c : Case). c.says) misreadings
unfolding misreadings of_bits units_of in_range reading_of answer_of row_of samples standard_basis line_count limits_of scan_fits line_float scan_serves asked_float samples_of wrong_number spread closer closest_pair third_due used_pair first_deviation again_round final_deviation kept_samples set_of sheet_checks valid_on same_side newest_tests five_test tests_by rounded_away verdict_of basis_from asked_intercept other_class other_basis corrected_value too_high tenths tenths_at nearest_tenth market_checks certificate_of sheet_numbers market_numbers sheet_set sheet_verdict sound_line sound sheet_station outcome_of sheet_of market_of
misreadings_avoided = refl

pub phase_order_holds : map (λ (c : Case). c.gives) phase_order ≡ map (λ (c : Case). c.says) phase_order
unfolding phase_order of_bits units_of in_range reading_of row_of samples standard_basis line_count scan_fits line_float scan_serves asked_float basis_from asked_intercept other_class other_basis corrected_value too_high tenths tenths_at nearest_tenth market_checks certificate_of market_numbers sound_line sound market_of
phase_order_holds = refl

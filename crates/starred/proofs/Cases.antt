-- Each starred case comes out as it says, by computation.
use mathlib.Core.Path.{◌≡◌, refl}
use mathlib.Core.List.{map}
use lib.Ieee.{of_bits}
use Rattle.reading.specs.Reading.{units_of, in_range, reading_of, answer_of}
use Rattle.whole.specs.Rounding.{rounded_away, nearest_tenth}
use Rattle.station_rules.specs.Rows.{row_of, samples, standard_basis, line_count, limits_of}
use Rattle.station_rules.specs.Readings.{scan_fits, line_float, scan_serves, asked_float}
use Rattle.station_rules.specs.Sheets.{samples_of, wrong_number, spread, closer, closest_pair, third_due, used_pair, first_deviation, again_round, final_deviation, kept_samples, set_of, sheet_checks}
use Rattle.station_rules.specs.Lines.{valid_on, same_side, newest_tests, five_test, tests_by, verdict_of}
use Rattle.station_rules.specs.Markets.{basis_from, asked_intercept, other_class, other_basis, corrected_value, too_high, tenths, tenths_at, market_checks, certificate_of}
use Rattle.station_rules.specs.Judging.{sheet_numbers, market_numbers, sheet_set, sheet_verdict}
use Rattle.station_rules.specs.Soundness.{sound_line, sound}
use Rattle.station_rules.specs.Stations.{sheet_station, outcome_of, sheet_of, market_of}
use Rattle.chart_rules.specs.Refusals.{bad_week, bad_size, outside, bad_result, refusal_of}
use Rattle.chart_rules.specs.Sets.{mean_of, plot_of, set_of as chart_set_of}
use Rattle.chart_rules.specs.Charts.{sound_set, sound as sound_chart, next_chart}
use Rattle.chart_rules.specs.Rows as chart_rows
use Rattle.chart_rules.specs.Limits.{absolute, at_or_above, at_or_below, tolerance, range_tolerance}
use Rattle.chart_rules.specs.Run.{one_side, run_by, run}
use Rattle.chart_rules.specs.Lines.{values_of}
use Rattle.chart_rules.specs.Calls.{decided, accepted, result_of}
use Rattle.station_rules.specs.Cases.{Case}
use Rattle.starred.specs.Cases.{starred}

pub starred_hold : map (λ (c : Case). c.gives) starred ≡ map (λ (c : Case). c.says) starred
unfolding starred of_bits units_of in_range reading_of answer_of row_of samples standard_basis line_count limits_of scan_fits line_float scan_serves asked_float samples_of wrong_number spread closer closest_pair third_due used_pair first_deviation again_round final_deviation kept_samples set_of sheet_checks valid_on same_side newest_tests five_test tests_by rounded_away verdict_of basis_from asked_intercept other_class other_basis corrected_value too_high tenths tenths_at nearest_tenth market_checks certificate_of sheet_numbers market_numbers sheet_set sheet_verdict sound_line sound sheet_station outcome_of sheet_of market_of bad_week bad_size outside bad_result mean_of plot_of chart_set_of sound_set chart_rows.limits_of absolute at_or_above at_or_below tolerance range_tolerance one_side run_by run sound_chart next_chart values_of refusal_of decided accepted result_of
starred_hold = refl

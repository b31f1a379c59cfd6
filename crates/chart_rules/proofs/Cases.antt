-- The cases of charts and texts hold of the definitions that the calls' contracts cite; those of plots and of held sets stand in Plots and Sets.
use mathlib.Core.Path.{◌≡◌, refl}
use mathlib.Core.List.{map}
use Rattle.decimal.specs.Show.{shown, show, show_signed}
use Rattle.chart_rules.specs.Refusals.{bad_week, bad_size, outside, bad_result, refusal_of}
use Rattle.chart_rules.specs.Sets.{mean_of, plot_of, set_of}
use Rattle.chart_rules.specs.Charts.{sound_set, sound, fresh_chart, next_chart}
use Rattle.chart_rules.specs.Rows.{limits_of}
use Rattle.chart_rules.specs.Limits.{absolute, at_or_above, at_or_below, tolerance, range_tolerance}
use Rattle.chart_rules.specs.Run.{one_side, run_by, run}
use Rattle.chart_rules.specs.Lines.{values_of, line_of}
use Rattle.chart_rules.specs.Calls.{decided, accepted, result_of, bytes_of}
use Rattle.chart_rules.specs.Cases.{runs, week26, line26, texts}
use Rattle.chart_rules.specs.TextLines.{digits, number, number_at, ended, field, then, line_at}
use Rattle.chart_rules.specs.Judging.{is_next, is_start, lines_from, lines_at}
use Rattle.chart_rules.specs.Gathering.{finished, closed, kept, sets_of}
use Rattle.chart_rules.specs.Output.{chart_all, text_sets, text_lines, output_of, answer_of}
use Rattle.chart_rules.specs.Printing.{refusal_bytes, spoken, printed}

pub runs_hold : map (λ c. c.gives) runs ≡ map (λ c. c.says) runs
unfolding runs bad_size outside bad_result mean_of plot_of set_of sound_set limits_of absolute at_or_above at_or_below tolerance range_tolerance one_side run_by run sound next_chart values_of bad_week refusal_of decided accepted result_of
runs_hold = refl

-- the output line of week 26
pub line_26 : bytes_of (result_of (fresh_chart 0) 26 week26 40).answer ≡ line26
unfolding shown show show_signed bad_size outside bad_result mean_of plot_of set_of sound_set limits_of absolute at_or_above at_or_below tolerance range_tolerance one_side run_by run sound next_chart values_of line_of bad_week refusal_of decided accepted result_of bytes_of
line_26 = refl

-- the worked texts print what they say
pub texts_hold : map (λ c. c.gives) texts ≡ map (λ c. c.says) texts
unfolding shown show show_signed digits number number_at ended field then line_at bad_size outside bad_result mean_of plot_of set_of sound_set limits_of absolute at_or_above at_or_below tolerance range_tolerance one_side run_by run sound next_chart values_of line_of bad_week refusal_of decided accepted result_of bytes_of lines_from lines_at is_next is_start finished closed kept sets_of chart_all text_sets text_lines output_of answer_of refusal_bytes spoken printed texts
texts_hold = refl

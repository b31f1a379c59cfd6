use mathlib.Core.Path.{sym, ◌∙◌}
use Rattle.station_rules.proofs.InPlace.{all_places}
use Rattle.station_entry.proofs.judge_day.Goals as goal

pub day_of-requires : goal.day_of-requires
day_of-requires c = all_places c.args.state.now (sym c.is_sound.ensures ∙ c.if-not-is_sound.false)

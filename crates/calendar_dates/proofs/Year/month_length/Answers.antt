use mathlib.Core.Path.{sym, ◌∙◌}
use Rattle.calendar_rules.specs.Dates.{month_length}
use Rattle.calendar_dates.proofs.Year.month_length.Goals as goal

pub returns-in-2 : goal.returns-in-2
unfolding month_length
returns-in-2 c = rw (c.in-2.is, sym c.args.self.gregorian ∙ c.if-self.true)

pub returns-in-2-2 : goal.returns-in-2-2
unfolding month_length
returns-in-2-2 c = rw (c.in-2.is, sym c.args.self.gregorian ∙ c.if-self.false)

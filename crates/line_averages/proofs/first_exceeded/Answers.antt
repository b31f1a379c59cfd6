use mathlib.Core.Path.{refl, subst⁻¹, ◌∙◌}
use Rattle.station_rules.specs.Lines.{LinePhase, tests_by, first_exceeded}
use Rattle.station_rules.specs.Held.{phase_word}
use Rattle.station_rules.proofs.Phases.{early, late}
use Rattle.line_averages.specs.Ranges.{FoundFits}
use Rattle.line_averages.proofs.RangeLaws.{found_limited}
use Rattle.line_averages.proofs.first_exceeded.Goals as goal

pub returns-then-phase-lt-ADJUSTED_LINE-clause-found : goal.returns-then-phase-lt-ADJUSTED_LINE-clause-found
unfolding tests_by
returns-then-phase-lt-ADJUSTED_LINE-clause-found c =
    let s = c.args in
    let by = λ (phase : LinePhase). first_exceeded (tests_by s.limits phase s.set s.newest.now s.nonzero.now) in
    c.err.ensures.value ∙ c.meet_averages.ensures.0 ∙ early by refl s.phase c.if-phase-lt-ADJUSTED_LINE.true

pub returns-then-phase-lt-ADJUSTED_LINE-clause-fits : goal.returns-then-phase-lt-ADJUSTED_LINE-clause-fits
returns-then-phase-lt-ADJUSTED_LINE-clause-fits c = subst⁻¹ FoundFits c.err.ensures.value c.meet_averages.ensures.1

pub returns-then-phase-lt-ADJUSTED_LINE-clause-limited : goal.returns-then-phase-lt-ADJUSTED_LINE-clause-limited
returns-then-phase-lt-ADJUSTED_LINE-clause-limited c =
    let s = c.args in
    let e = returns-then-phase-lt-ADJUSTED_LINE-clause-found c in
    found_limited s.limits (phase_word s.phase) s.set s.newest.now s.nonzero.now e

pub returns-else-phase-lt-ADJUSTED_LINE-clause-found : goal.returns-else-phase-lt-ADJUSTED_LINE-clause-found
unfolding tests_by
returns-else-phase-lt-ADJUSTED_LINE-clause-found c =
    let s = c.args in
    let by = λ (phase : LinePhase). first_exceeded (tests_by s.limits phase s.set s.newest.now s.nonzero.now) in
    c.err-else-phase-lt-ADJUSTED_LINE.ensures.value ∙ c.meet.ensures.0 ∙ late by refl s.phase c.if-phase-lt-ADJUSTED_LINE.false

pub returns-else-phase-lt-ADJUSTED_LINE-clause-fits : goal.returns-else-phase-lt-ADJUSTED_LINE-clause-fits
returns-else-phase-lt-ADJUSTED_LINE-clause-fits c =
    subst⁻¹ FoundFits c.err-else-phase-lt-ADJUSTED_LINE.ensures.value c.meet.ensures.1

pub returns-else-phase-lt-ADJUSTED_LINE-clause-limited : goal.returns-else-phase-lt-ADJUSTED_LINE-clause-limited
returns-else-phase-lt-ADJUSTED_LINE-clause-limited c =
    let s = c.args in
    let e = returns-else-phase-lt-ADJUSTED_LINE-clause-found c in
    found_limited s.limits (phase_word s.phase) s.set s.newest.now s.nonzero.now e

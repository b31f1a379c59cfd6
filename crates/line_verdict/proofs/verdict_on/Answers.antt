use mathlib.Core.Path.{◌∙◌, ap}
use native.Mathlib.Omega.{arith}
use lib.IntN.{ℤ}
use mir.Syntax.{w32}
use mir.Val.{SFits}
use borrow.Author.Rules.{rules}
use Rattle.std.proofs.lemmas.Int.{ints, to_z-of_z}
use Rattle.whole.specs.Rounding.{rounded_away}
use Rattle.station_rules.specs.Lines.{valid_on, adjust_by}
use Rattle.line_averages.specs.Ranges.{Together}
use Rattle.line_verdict.proofs.VerdictLaws.{judged_by, valid_due}
use Rattle.line_verdict.proofs.verdict_on.Goals as goal

pub first_exceeded-requires : goal.first_exceeded-requires
first_exceeded-requires c =
    let s = c.args in
    let l = s.l.line in
    let one : Together 1 s.set = record { sets = c.requires; some = omega arith } in (
      valid_due s.day 2 l.newest_held l.newest s.set (omega arith) s.l.fits.newest one (c.valid-newest.ensures ∙ ap (valid_on s.day) c.newest.ensures),
      valid_due s.day 4 l.nonzero_held l.nonzero s.set (omega arith) s.l.fits.nonzero one (c.valid-nonzero.ensures ∙ ap (valid_on s.day) c.nonzero.ensures),
    )

pub returns-in-Some : goal.returns-in-Some
returns-in-Some c =
    let s = c.args in
    let t = c.in-Some.t in
    let e = c.in-Some.ensures.found in
    let ft : SFits w32 t.sum = search rules in
    let fr : SFits w32 c.rounded.result = search rules in
    let average = to_z-of_z w32 c.rounded.result fr ∙ c.rounded.ensures.0 ∙ ap (λ (z : ℤ). rounded_away z t.count) (to_z-of_z w32 t.sum ft) in (
      c.adjust.ensures.0 ∙ ap (adjust_by s.l.line.intercept) average
          ∙ judged_by s.limits s.l.line s.day s.set (λ e. omega arith) e (search rules) (search rules),
      c.adjust.ensures.1,
    )

pub returns-in-None : goal.returns-in-None
returns-in-None c =
    let s = c.args in
    let e = c.in-None.ensures.found in (
      judged_by s.limits s.l.line s.day s.set (λ e. omega arith) e (search rules) (search rules),
      record { over = omega (arith, ints); under = omega (arith, ints) },
    )

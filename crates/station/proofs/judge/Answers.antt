-- `station::judge` meets its contract: a call that numbers 0, 2 or 3 refuse is one law of `sheet_in`, any other another.
use Rattle.std.proofs.Common.{ℕ, ap, ◌∙◌, arith, w32}
use mir.Val.{SFits}
use borrow.Author.Rules.{rules}
use Rattle.std.proofs.lemmas.Int.{ints, to_z-of_z}
use Rattle.std.proofs.lemmas.Result.{err_from_is_err_and}
use Rattle.station_rules.specs.Rows.{samples, limits_of}
use Rattle.station_rules.specs.declared.Line.{Line}
use Rattle.station_rules.proofs.RowFacts.{row_facts}
use Rattle.sheet.specs.Judged.{judged_of}
use Rattle.station_entry.proofs.EntryLaws.{enters}
use Rattle.station.proofs.SheetLaws.{sheet_refused, ruled_by}
use Rattle.station.proofs.judge.Goals as goal

pub returns-in_err-entry : goal.returns-in_err-entry
returns-in_err-entry c =
    let s = c.args in
    let p = err_from_is_err_and c.from_residual.result c.from_residual.ensures.1 in
    rw (p.1, p.2) (sheet_refused s.state.now s.day s.line s.numbers.now _ c.in_err-entry.ensures)

pub judge-requires : goal.judge-requires
judge-requires c =
    let s = c.args in
    let entry = c.in_ok-entry.entry in
    let e = enters s.state.now s.day s.line entry c.in_ok-entry.ensures in
    let small = entry.sound.fits.small in
    let row = row_facts entry.row in
    let n = c.sample_count-samples.ensures in
    (record { over = omega (arith, ints); under = omega (arith, ints) }, (omega (arith, row.some_samples), omega (arith, row.six_samples)))

pub returns : goal.returns
returns c =
    let s = c.args in
    let e = enters s.state.now s.day s.line c.in_ok-entry.entry c.in_ok-entry.ensures in
    let f : SFits w32 c.in_ok-entry.entry.sound.line.intercept = search rules in
    ruled_by s.state.now s.day s.line s.numbers.now e.none _
    (c.judge.ensures
    ∙ (λ i. judged_of ((c.limits_of-limits.ensures ∙ ap (λ (row : ℕ). limits_of row s.line) e.row) i) ((to_z-of_z w32 _ f ∙ ap (λ (x : Line). x.intercept) e.line_is) i) ((c.sample_count-samples.ensures ∙ ap samples e.row) i) s.numbers.now))

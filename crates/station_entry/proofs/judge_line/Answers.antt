use mathlib.Core.Path.{ap, ◌∙◌, subst⁻¹}
use native.Mathlib.Omega.{arith}
use Rattle.station_rules.specs.Rows.{line_count}
use Rattle.station_rules.specs.Places.{station_in}
use Rattle.station_rules.proofs.RowFacts.{row_facts}
use Rattle.line.specs.Ranges.{LineFits}
use Rattle.station_soundness.proofs.FitsLaws.{line_fits}
use Rattle.station_entry.proofs.EntryLaws.{let_through, serves}
use Rattle.station_entry.proofs.judge_line.Goals as goal

pub row_of-row-requires : goal.row_of-row-requires
row_of-row-requires c = (serves c.args.state.now c.args.day (let_through tt _ c.in_ok-judge_day.ensures).0).full

pub line_of-line-requires : goal.line_of-line-requires
line_of-line-requires c =
    let few = c.if-line_count-line.false in
    let lines = c.line_count.ensures in
    let most = (row_facts c.row_of-row.result).three_lines in
    ((serves c.args.state.now c.args.day (let_through tt _ c.in_ok-judge_day.ensures).0).full, omega arith)

pub invariant_of-result : goal.invariant_of-result
invariant_of-result c =
    let few = c.if-line_count-line.false in
    let lines = c.line_count.ensures ∙ ap line_count c.row_of-row.ensures in
    let right = (serves c.args.state.now c.args.day (let_through tt _ c.in_ok-judge_day.ensures).0).right in
    record { fits = subst⁻¹ LineFits c.line_of-line.ensures (line_fits (station_in c.args.state.now) c.args.line right (omega arith)) }

use mathlib.Core.Path.{◌≡◌, sym, ◌∙◌, ap}
use native.Mathlib.Omega.{arith}
use lib.ListN.{length, take, length-take}
use borrow.Author.Rules.{rules}
use borrow.Author.Tests.{ne_eqb}
use Rattle.std.proofs.lemmas.Iterator.{YieldsList-from_slice}
use Rattle.std.proofs.lemmas.Iterator.Search.{all_from_yields_List}
use Rattle.std.proofs.lemmas.List.{take-map}
use Rattle.whole.specs.Lists.{all}
use Rattle.station_rules.specs.Rows.{row_exists, samples, line_count}
use Rattle.station_rules.specs.Soundness.{sound_line}
use Rattle.station_rules.specs.Places.{row_in, line_in, station_in}
use Rattle.station_rules.proofs.RowFacts.{row_facts}
use Rattle.station_soundness.proofs.SoundLaws.{rowless, dayless, by_lines, lines_cut, all_map}
use Rattle.station_soundness.proofs.is_sound.Goals as goal

pub returns-then-state-ne-STATION_PLACES : goal.returns-then-state-ne-STATION_PLACES
unfolding station_in row_in
returns-then-state-ne-STATION_PLACES c =
    let w = c.args.state.now in
    rowless (station_in w) (simp (ne_eqb (length w) 68 c.if-state-ne-STATION_PLACES.true))

pub returns-then-not-row_exists : goal.returns-then-not-row_exists
returns-then-not-row_exists c = rowless (station_in c.args.state.now) (sym (c.if-not-row_exists.ensures ∙ ap row_exists c.row_of-row.ensures))

pub returns-then-day-gt-LAST_DAY : goal.returns-then-day-gt-LAST_DAY
returns-then-day-gt-LAST_DAY c =
    let day = c.day_of-day.ensures in
    let late = c.if-day-gt-LAST_DAY.true in
    dayless (station_in c.args.state.now) (sym (c.if-not-row_exists.ensures ∙ ap row_exists c.row_of-row.ensures)) (omega arith)

pub slice_bounds-iter-end : goal.slice_bounds-iter-end
slice_bounds-iter-end c =
    let few = (row_facts c.row_of-row.result).three_lines in
    let n = c.line_count.ensures in
    let cut = c.as_chunks.ensures.front_len in
    omega (arith, length-take c.line_count.result c.as_chunks.result.0.now, c.if-state-ne-STATION_PLACES.false)

pub returns : goal.returns
returns c =
    let w = c.args.state.now in
    let n = c.sample_count-n in
    let cut = c.as_chunks.result.0.now in
    let day = c.day_of-day.ensures in
    let in-time = c.if-day-gt-LAST_DAY.false in
    let row = c.row_of-row.ensures in
    let tested : c.all.result ≡ all (λ part. sound_line n.result c.day_of-day.result (line_in part)) (take c.line_count.result cut) =
    all_from_yields_List (λ part. sound_line n.result c.day_of-day.result (line_in part)) _ _ c.all.result c.all.ensures.ran (YieldsList-from_slice (take c.line_count.result cut) c.iter.ensures.rest) (λ x b q k. search rules) in
    let lines = lines_cut w cut c.if-state-ne-STATION_PLACES.false c.as_chunks.ensures.front in
    tested
    ∙ all_map (sound_line n.result c.day_of-day.result) line_in (take c.line_count.result cut)
    ∙ ap (all (sound_line n.result c.day_of-day.result)) (sym (take-map line_in c.line_count.result cut))
    ∙ (λ i. all (sound_line ((n.ensures ∙ ap samples row) i) (day i)) (take ((c.line_count.ensures ∙ ap line_count row) i) (lines i)))
    ∙ by_lines (station_in w) (sym (c.if-not-row_exists.ensures ∙ ap row_exists row)) (omega arith)

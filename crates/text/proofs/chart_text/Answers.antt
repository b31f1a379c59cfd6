-- `text::chart_text` meets its contract.
use borrow.Author.Rules.{rules}
use mathlib.Core.Path.{◌≡◌, sym, ap, ◌∙◌}
use native.Mathlib.Omega.{arith}
use Prim.Native.Nat.{◌/◌, ◌≤◌, ◌<◌}
use lib.ListN.{length, length-append}
use Rattle.std.specs.Prelude.{Ok, Err}
use Rattle.decimal.proofs.Put.{put_then, put_whole}
use Rattle.chart_rules.specs.Output.{output_names, text_lines, text_bytes, output_of}
use Rattle.chart_rules.proofs.Judging.{good_fine, fine_text}
use Rattle.chart_rules.proofs.Output.{text_short}
use Rattle.chart_rules.proofs.Answering.{good_count, refused_answer, short_answer, full_answer, text_is, text_refused}
use Rattle.text.proofs.chart_text.Goals as goal

pub returns-in_err-sets : goal.returns-in_err-sets
returns-in_err-sets c =
    let r = c.in_err-sets.field-0.0 in
    let same : c.from_residual.result ≡ Err r = search rules in
    rw same (text_refused c.args.text.now c.args.out.now r (refused_answer c.args.text.now _ r (sym c.judge.ensures ∙ c.in_err-sets.was)))

pub returns-then-out-sets : goal.returns-then-out-sets
returns-then-out-sets c =
    let room = length c.args.out.now in
    let n = c.in_ok-sets.sets in
    let full : room / 40 ≤ n = c.if-out-sets.true in
    rw c.at_line.ensures (text_refused c.args.text.now c.args.out.now _ (short_answer c.args.text.now room n (sym c.judge.ensures ∙ c.in_ok-sets.was) (omega arith)))

pub write_sets-requires-clause-good_lines : goal.write_sets-requires-clause-good_lines
write_sets-requires-clause-good_lines c =
    let text = c.args.text.now in (fine_text text (good_fine text c.in_ok-sets.sets (sym c.judge.ensures ∙ c.in_ok-sets.was))).lines

pub write_sets-requires-clause-text_in_bounds : goal.write_sets-requires-clause-text_in_bounds
write_sets-requires-clause-text_in_bounds c =
    omega (arith, good_count c.args.text.now 0 c.in_ok-sets.sets (sym c.judge.ensures ∙ c.in_ok-sets.was), c.put_bytes-start.ensures.behind, c.put_bytes-start.auto.out, c.if-out-sets.false)

pub returns : goal.returns
unfolding text_bytes output_of
returns c =
    let text = c.args.text.now in
    let old = c.args.out.now in
    let n = c.in_ok-sets.sets in
    let e = sym c.judge.ensures ∙ c.in_ok-sets.was in
    let wide : n < length old / 40 = c.if-out-sets.false in
    let all = put_then c.put_bytes-start.ensures c.write_sets.ensures in
    let whole = put_whole all (omega (arith, length-append output_names (text_lines text), text_short text, good_count text 0 n e)) in
    text_is text old _ (Ok _) (ap Ok whole.1 ∙ sym (full_answer text (length old) n e (omega arith))) whole.0

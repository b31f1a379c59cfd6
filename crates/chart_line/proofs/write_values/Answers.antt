-- `chart_line::write_values` meets its contract.
use Rattle.std.proofs.Common.{◌≡◌, sym, arith, ◌∷◌, to_z, of_z, w32}
use Rattle.std.proofs.lemmas.Int.{ints}
use Rattle.decimal.proofs.Show.{width_5}
use Rattle.decimal.proofs.Signs.{width_signed}
use Rattle.decimal.proofs.Put.{put_then, put_is}
use Rattle.decimal.specs.Show.{show_signed}
use Rattle.chart_line.proofs.Lines.{line_parts, flags_length}
use Rattle.chart_line.proofs.write_values.Goals as goal

pub returns : goal.returns
returns c =
    let plot : to_z w32 (of_z w32 c.args.v.plot) ≡ c.args.v.plot = omega (arith, ints) in
    let plot-text = put_is c.put_signed-c.ensures (λ i. 32 ∷ show_signed (plot i)) in
    let upto-plot = put_then (put_then c.put_number-a.ensures c.put_field-b.ensures) plot-text in
    let upto-flags = put_then (put_then upto-plot c.put_field-d.ensures) c.put_flags-e.ensures in
    (put_is (put_then upto-flags c.put_byte.ensures) (sym (line_parts c.args.v)), grind (arith, width_5, width_signed, flags_length))

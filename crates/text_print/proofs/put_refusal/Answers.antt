-- `text_print::put_refusal` meets its contract.
use native.Mathlib.Omega.{arith}
use Rattle.decimal.proofs.Show.{width_10}
use Rattle.decimal.proofs.Put.{put_then}
use Rattle.chart_rules.specs.Printing.{refusal_bytes}
use Rattle.text_print.proofs.put_refusal.Goals as goal

pub returns : goal.returns
unfolding refusal_bytes
returns c = (
  put_then (put_then (put_then c.put_bytes-a.ensures c.put_field-b.ensures) c.put_field-c.ensures) c.put_byte.ensures,
  omega (arith, width_10 c.args.number (omega arith), width_10 c.args.line (omega arith)),
)

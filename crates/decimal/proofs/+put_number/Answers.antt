-- `decimal::put_number` meets its contract.
use mathlib.Core.Path.{sym}
use Rattle.decimal.proofs.Show.{show_step}
use Rattle.decimal.proofs.Put.{put_byte, put_then, put_is}
use Rattle.decimal.proofs.+put_number.Goals as goal

pub returns : goal.returns
returns t c = put_is (put_then c.put_number-next.ensures (put_byte _ _ _)) (sym (show_step _ c.if-n-lt10.false))

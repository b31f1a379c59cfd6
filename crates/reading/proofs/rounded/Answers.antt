-- `reading::rounded` meets its contract: `proofs/Shift.antt` says what the shift and the half bit are.
use Rattle.reading.proofs.Shift.{shifted, far}
use Rattle.reading.proofs.rounded.Goals as goal

pub returns-then-shift-ge32 : goal.returns-then-shift-ge32
returns-then-shift-ge32 c = far c.args.product c.args.shift c.requires.0 c.if-shift-ge32.true

pub returns : goal.returns
returns c = shifted c.args.product c.args.shift c.requires.1

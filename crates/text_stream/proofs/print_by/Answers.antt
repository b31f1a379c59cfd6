-- `text_stream::print_by` meets its contract: what was printed is the buffer's front, and that is written.
use mathlib.Core.Path.{subst}
use Rattle.std.specs.Io.KnownBytes.{Appends}
use Rattle.text_stream.proofs.Streaming.{front_is}
use Rattle.text_stream.proofs.print_by.Goals as goal

pub returns-clause-written : goal.returns-clause-written
returns-clause-written g c =
    subst (λ bytes. Appends (g.W.Write.contents c.args.output.now) (g.W.Write.contents c.write_all.new.self) bytes)
    (front_is _ _ _ _ c.print_text-printed.ensures.printed)
    c.in_ok-write_all.ensures.bytes

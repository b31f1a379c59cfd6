-- `text_stream::write_chart` meets its contract: its words are those of `print_in` at the program's room.
use mathlib.Core.Path.{subst, sym}
use Rattle.std.proofs.Common.{IfOk, OnOk, ◌≡◌}
use Rattle.std.specs.Io.KnownBytes.{Appends}
use Rattle.text_stream.proofs.Streaming.{refusal_is, written_is}
use Rattle.text_stream.proofs.write_chart.Goals as goal

pub returns-clause-told : goal.returns-clause-told
returns-clause-told g c =
    subst (λ wanted. IfOk c.print_in.result (λ refused. refused ≡ wanted)) (sym (refusal_is c.args.text.now)) c.print_in.ensures.told

pub returns-clause-written : goal.returns-clause-written
returns-clause-written g c =
    subst (λ bytes. OnOk c.print_in.result (Appends (g.W.Write.contents c.args.output.now) (g.W.Write.contents c.print_in.new.output) bytes))
    (sym (written_is c.args.text.now)) c.print_in.ensures.written

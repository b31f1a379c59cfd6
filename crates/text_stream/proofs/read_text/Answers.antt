-- `text_stream::read_text` meets its contract: the text is what was read up to its room.
use Rattle.text_stream.proofs.Streaming.{read_is}
use Rattle.text_stream.proofs.read_text.Goals as goal

pub returns-clause-held : goal.returns-clause-held
returns-clause-held g c = read_is (g.R.Read.remaining c.args.input.now) c.read_up_to.result c.read_up_to.ensures.held

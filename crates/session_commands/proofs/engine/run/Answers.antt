use Rattle.session_commands.specs.Talks.{BytesCome, BytesGo, BytesStop, EndComes, NothingComes}
use Rattle.session_commands.proofs.Answering.{answered_over, broken_over}
use Rattle.session_commands.proofs.engine.run.Goals as goal

pub returns : goal.returns
returns g c = record {
  answered = answered_over BytesCome EndComes BytesGo _ _ _ _ c.answer.result c.answer.ensures.answered;
  breaks_off = broken_over BytesCome EndComes BytesGo NothingComes BytesStop _ _ _ _ c.answer.result c.answer.ensures.breaks_off;
}

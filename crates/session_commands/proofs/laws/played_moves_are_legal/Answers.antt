use Rattle.session_commands.proofs.PlayedLogs.{played_moves_are_legal, sent_moves_are_legal}
use Rattle.session_commands.proofs.laws.played_moves_are_legal.Goals as goal

pub returns : goal.returns
returns g c = record {
  legal = played_moves_are_legal c.ends_are_silent.ensures.silent c.sent_legal.ensures.legal c.sent_once.ensures.answers g.E.Ends.came g.E.Ends.went g.E.Ends.gone;
  out_of_memory = sent_moves_are_legal c.ends_are_silent.ensures.silent c.sent_legal.ensures.legal c.sent_once.ensures.answers g.E.Ends.came g.E.Ends.missed g.E.Ends.went g.E.Ends.gone;
}

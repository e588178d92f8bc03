use Rattle.record_commands.proofs.incoming.Incoming.take_piece.Goals as goal

pub returns-in-Ok-clause-event : goal.returns-in-Ok-clause-event
returns-in-Ok-clause-event g c = rw (← c.self.view_is) c.in-Ok.ensures.event

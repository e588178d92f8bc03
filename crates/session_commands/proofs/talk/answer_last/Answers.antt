use Rattle.session_commands.proofs.Talks.{ends_none, ends_some}
use Rattle.session_commands.proofs.talk.answer_last.Goals as goal

pub returns-in-None : goal.returns-in-None
returns-in-None g c = record {
  talk = ends_none g.X.Wire.came g.X.Wire.ends g.X.Wire.went g.M.Machine.answers c.args.cutter.now c.args.wire.now c.args.machine.now c.in-Ok.last c.in-None.is c.in-Ok.ensures.last;
}

pub returns-in-Some : goal.returns-in-Some
returns-in-Some g c = record {
  talk = ends_some g.X.Wire.came g.X.Wire.ends g.X.Wire.went g.X.Wire.silent g.X.Wire.blocked g.M.Machine.answers c.args.cutter.now c.args.wire.now c.answer.new.wire c.args.machine.now c.answer.new.machine c.in-Ok.last c.in-Some.line c.answer.result c.in-Some.is c.in-Ok.ensures.last c.answer.ensures.replied c.answer.ensures.unsent;
}

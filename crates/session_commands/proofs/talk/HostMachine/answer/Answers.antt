use Rattle.session_commands.proofs.Talks.{ended_state}
use Rattle.session_commands.proofs.talk.HostMachine.answer.Goals as goal

pub returns : goal.returns
returns c = record {
  answer =
      let step = c.in_ok-to_client.ensures in
      ((step.row.0, step.row.1, step.to_client step.row.0 step.row.1), step.config, ended_state _ step.ended);
}

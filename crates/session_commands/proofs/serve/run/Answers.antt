use Rattle.session_commands.proofs.Serving.{hosted_session}
use Rattle.session_commands.proofs.serve.run.Goals as goal

pub returns : goal.returns
returns g c = record { over = hosted_session _ _ _ _ _ _ _ _ _ _ _ _ _ _ _ _ _ c.serve.ensures }

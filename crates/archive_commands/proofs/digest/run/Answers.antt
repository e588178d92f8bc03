use Rattle.record_commands.proofs.Recording.{refused_in_some}
use Rattle.archive_commands.proofs.digest.run.Goals as goal

pub returns : goal.returns
returns g c = record { refused = λ r is. refused_in_some _ _ _ _ c.digest.result r c.digest.ensures.fails is }

use Rattle.archive_commands.proofs.Expanding.{named_so}
use Rattle.archive_commands.proofs.paths.all.Goals as goal

pub returns-clause-paths : goal.returns-clause-paths
returns-clause-paths g c = named_so _ _ _ _ _ _ _ c.new-inputs.ensures.hash_lines c.in_ok-paths.ensures.paths

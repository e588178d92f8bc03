use Rattle.host_and_sample.proofs.HostGame.{host_game}
use Rattle.host_and_sample.proofs.laws.host_game.Goals as goal

pub returns : goal.returns
returns c = record { game = host_game }

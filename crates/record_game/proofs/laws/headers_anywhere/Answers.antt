use Rattle.std.proofs.Common.{ap}
use Rattle.record_game.specs.Canon.{canon}
use Rattle.record_game.proofs.Rearranged.{said_anywhere}
use Rattle.record_game.proofs.laws.headers_anywhere.Goals as goal

pub returns-clause-game : goal.returns-clause-game
returns-clause-game c = λ source other g h stated again r. said_anywhere stated.sayings again.sayings g h stated.says again.says r

pub returns-clause-text : goal.returns-clause-text
returns-clause-text c = λ source other g h stated again r. ap canon (said_anywhere stated.sayings again.sayings g h stated.says again.says r)

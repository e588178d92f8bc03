use Rattle.std.proofs.Common.{ap}
use Rattle.shogi_board.specs.Placed.{Placed}
use Rattle.shogi_board.proofs.position.attacker_towards.Goals as goal

pub attacker_towards-requires : goal.attacker_towards-requires
attacker_towards-requires c = rw (ap (λ (p : Placed). p.material.board) c.position.view_is) c.requires

pub returns : goal.returns
returns c = rw (← ap (λ (p : Placed). p.material.board) c.position.view_is) c.attacker_towards.ensures

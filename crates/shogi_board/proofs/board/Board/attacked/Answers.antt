use Rattle.shogi_board.proofs.Attackers.{some-attacker}
use Rattle.shogi_board.proofs.board.Board.attacked.Goals as goal

pub returns : goal.returns
returns c = some-attacker c.args.self.now c.args.color c.args.square c.attacker.result _ c.is_some.ensures c.attacker.ensures

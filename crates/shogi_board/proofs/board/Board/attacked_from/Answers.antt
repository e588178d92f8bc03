use Rattle.shogi_board.proofs.Attackers.{some-attacker}
use Rattle.shogi_board.proofs.board.Board.attacked_from.Goals as goal

pub returns-in-Towards : goal.returns-in-Towards
returns-in-Towards c = some-attacker c.args.self.now c.args.color c.args.square c.attacker_towards.result _ c.is_some.ensures c.attacker_towards.ensures

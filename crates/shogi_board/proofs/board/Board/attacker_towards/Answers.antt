use Rattle.shogi_board.proofs.Attackers.{some-towards}
use Rattle.shogi_board.proofs.board.Board.attacker_towards.Goals as goal

pub returns-in-Some : goal.returns-in-Some
returns-in-Some c =
    some-towards c.args.self.now c.args.color c.args.square c.args.other c.in-Some.found.direction _ c.attacker_from.result c.requires c.in-Some.ensures c.attacker_from.ensures

pub returns-in-None : goal.returns-in-None
returns-in-None c = λ attacked.
    let seen = c.requires attacked.0 attacked.1 in
    c.in-None.ensures seen.direction seen.distance seen.ray seen.some seen.lies

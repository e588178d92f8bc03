use Rattle.std.proofs.Common.{refl}
use Rattle.shogi_board.proofs.Between.{direction-is}
use Rattle.shogi_board.proofs.square.Square.direction_to.Goals as goal

pub returns-clause-only : goal.returns-clause-only
returns-clause-only c =
    direction-is c.args.self c.args.other _ c.step.result c.step-2.result refl c.step.ensures.only c.step-2.ensures.only

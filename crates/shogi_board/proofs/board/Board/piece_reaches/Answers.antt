use Rattle.std.proofs.Common.{◌⊎◌, subst}
use Rattle.shogi_board.specs.Reach.{Slides, Steps}
use Rattle.shogi_board.proofs.Pieces.{mover-is}
use Rattle.shogi_board.proofs.board.Board.piece_reaches.Goals as goal

pub returns : goal.returns
returns c =
    let cells = c.args.self.now in (
      λ yes. record { mover = c.args.piece; stands = c.requires; moves = c.leads.ensures.0 yes },
      λ reach. c.leads.ensures.1 (subst (λ q. Steps q c.args.from c.args.to ⊎ Slides cells q c.args.from c.args.to) (mover-is cells c.args.from c.args.to c.args.piece c.requires reach) reach.moves),
    )

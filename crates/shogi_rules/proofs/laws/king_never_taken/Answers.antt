use Rattle.std.proofs.Common.{sym}
use Rattle.shogi_board.proofs.Pieces.{mover-is}
use Rattle.shogi_board.proofs.Pieces.{opponent-twice}
use Rattle.shogi_rules.proofs.laws.king_never_taken.Goals as goal

pub returns : goal.returns
returns c = record {
  never = λ p from to kind sound piece reach king.
      sound.safe (
        to,
        king,
        (
          from,
          record {
            reach = reach;
            enemy = rw (mover-is p.material.board from to (record { color = p.side; kind = piece.0 }) piece.1 reach) (sym (opponent-twice p.side));
          },
        ),
      );
}

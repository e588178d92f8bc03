use Rattle.std.proofs.Common.{refl}
use Rattle.shogi_board.specs.Moves.{turned_for}
use Rattle.shogi_board.specs.Squares.{IsAway}
use Rattle.shogi_board.proofs.Attackers.{knight-attacks}
use Rattle.shogi_board.proofs.board.Board.attacker_across.Goals as goal

pub returns-in_err-from : goal.returns-in_err-from
returns-in_err-from c = rw c.from_residual.ensures (λ x. (c.in_err-from.ensures {u = tt}) x.0 (rw c.turned_for.ensures x.1))

pub returns-then-is : goal.returns-then-is
returns-then-is c =
    let a = c.in_ok-from.from in
    let away : IsAway c.args.square (turned_for c.args.color c.args.direction) 1 a = rw c.turned_for.ensures at (c.in_ok-from.ensures {u = tt}) in
    let knight = rw (c.cell_at.ensures, c.not.ensures) at ((c.if-is.ensures {u = tt}).holds.0 refl) in
    knight-attacks c.args.self.now c.args.color a c.args.square c.args.direction c.requires away knight

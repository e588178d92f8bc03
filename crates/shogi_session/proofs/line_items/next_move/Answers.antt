use Rattle.session_lines.specs.ServerLines.{IsMove}
use Rattle.shogi_session.proofs.Nexts.{other_item}
use Rattle.shogi_session.proofs.line_items.next_move.Goals as goal

pub returns-in-None : goal.returns-in-None
returns-in-None c =
    other_item c.args.cutter.now c.next_item.new.cutter c.in-Some.item IsMove (rw c.in-Some.is at c.in_ok-item.ensures)
    (λ move. c.in-None.ensures.stated move.0 move.1 move.2)

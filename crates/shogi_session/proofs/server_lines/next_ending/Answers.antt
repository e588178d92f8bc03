use Rattle.std.proofs.Common.{inr}
use Rattle.shogi_session.specs.NextItems.{IsEnding}
use Rattle.shogi_session.proofs.Nexts.{other_item}
use Rattle.shogi_session.proofs.server_lines.next_ending.Goals as goal

pub returns-in-None : goal.returns-in-None
returns-in-None c =
    inr (other_item c.args.cutter.now c.next_item.new.cutter c.in-Some.item IsEnding (rw c.in-Some.is at c.in_ok-item.ensures)
    (λ said. c.in-None.ensures said.0 said.1))

use Rattle.std.proofs.Common.{inl, inr}
use Rattle.shogi_board.specs.Attackers.{IsAttackedInLine}
use Rattle.shogi_board.specs.Reach.{Attack, Attacked}
use Rattle.shogi_board.proofs.Attackers.{attackers, weaker}
use Rattle.shogi_board.proofs.board.Board.attacker.Goals as goal

pub returns-in-None : goal.returns-in-None
returns-in-None c =
    let cells = c.args.self.now in
    let color = c.args.color in
    let s = c.args.square in
    weaker c.attacker_in_line.result (Attacked cells color s) (IsAttackedInLine cells color s) (λ a. Attack cells color a s) (λ a. Attack cells color a s)
    (λ x. elim (attackers cells color s x) [ inl line ↦ line | inr jump ↦ absurd (c.in-None.ensures jump) ])
    (λ a h. h)
    c.attacker_in_line.ensures

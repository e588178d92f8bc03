use Rattle.std.proofs.Common.{rules, ap, ◌∙◌}
use Rattle.shogi_board.specs.Placed.{Placed}
use Rattle.shogi_session.proofs.Asked.{may_ask_now}
use Rattle.shogi_session.proofs.asking.may_ask.Goals as goal

pub returns : goal.returns
returns c = λ g cl e.
    may_ask_now g c.args.game.now c.args.client c.side.result c.line-line.result.now c.is_over.result cl e c.line-line.ensures.value (c.side.ensures.value ∙ ap (λ (p : Placed). p.side) c.now.ensures.value) (search rules) (search rules) c.is_over.ensures.answer

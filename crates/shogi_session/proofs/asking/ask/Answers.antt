use Rattle.std.proofs.Common.{rules}
use Rattle.shogi_session.proofs.Asked.{asked_text}
use Rattle.shogi_session.proofs.asking.ask.Goals as goal

pub returns : goal.returns
returns c = λ g cl e.
    asked_text c.args.config.now g c.args.game.now c.line.result.now c.in_ok-position.position.items c.args.lines.now c.push.new.self c.push_go.new.lines (search rules) e c.line.ensures.value c.in_ok-position.ensures.text (search rules) (c.in_ok-push_go.ensures g e)

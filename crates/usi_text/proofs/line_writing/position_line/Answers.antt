use Rattle.std.proofs.Common.{subst}
use Rattle.shogi_board.specs.Placed.{Placed}
use Rattle.shogi_board.specs.Sound.{IsSound}
use Rattle.usi_text.specs.LineText.{LineText}
use Rattle.usi_text.proofs.LineAgain.{line_again, line_text}
use Rattle.usi_text.proofs.line_writing.position_line.Goals as goal
use Rattle.usi_text.proofs.line_writing.position_line.Goals.{In_ok-push_moves}

stated : (c : In_ok-push_moves) → LineText c.args.line.now.start c.args.line.now.moves c.push_moves.new.text.items
stated c =
    let line = c.args.line.now in
    let f = c.in_ok-push_start.ensures.text in
    let r = c.in_ok-push_moves.ensures {u = tt} in
    line_text line.start c.start-start.result line.moves c.moves.result.now c.in_ok-text.text.items c.push_start.new.text.items c.push_moves.new.text.items f.0 r.0
    c.start-start.ensures.value c.moves.ensures.value c.in_ok-text.ensures.items f.2 r.2 f.1 r.1

pub returns-clause-text : goal.returns-clause-text
returns-clause-text c = stated c

pub returns-clause-again : goal.returns-clause-again
returns-clause-again c =
    let line = c.args.line.now in
    line_again line.start line.moves c.push_moves.new.text.items (subst (λ (p : Placed). IsSound p) c.start-start.ensures.value c.in_ok-push_start.ensures.sound) c.moves.ensures.game c.moves.ensures.few (stated c)

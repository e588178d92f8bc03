use Rattle.std.proofs.Common.{◌∙◌, ap, ◌++◌}
use Rattle.usi_text.specs.Sfen.{side_text}
use Rattle.usi_text.specs.SfenText.{board_text, hands_text, both_piles}
use Rattle.usi_text.proofs.Written.{sfen_stated}
use Rattle.usi_text.proofs.writing.push_sfen.Goals as goal

pub returns-clause-text : goal.returns-clause-text
returns-clause-text c =
    let p = c.args.position.now in
    sfen_stated c.args.text.now.items c.push_board.new.text.items c.push.new.self.items c.push-2.new.self.items c.push-3.new.self.items c.push_hands.new.text.items c.extend_from_slice.new.self.items (board_text p.material.board) (side_text p.side) (hands_text (both_piles p)) c.in_ok-push_board.ensures c.in_ok-push.ensures.items
    (c.in_ok-push-2.ensures.items ∙ ap (λ x. c.push.new.self.items ++ x) (c.side_byte.ensures ∙ ap side_text c.side.ensures.value))
    c.in_ok-push-3.ensures.items c.in_ok-push_hands.ensures c.in_ok-extend_from_slice.ensures.items

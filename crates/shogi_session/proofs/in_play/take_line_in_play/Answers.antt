use Rattle.std.proofs.Common.{sym, ◌∙◌}
use Rattle.shogi_session.proofs.PlayRows.{ending_row, other_row, stays_same}
use Rattle.shogi_session.proofs.in_play.take_line_in_play.Goals as goal

pub returns-then-is_hash_line-clause-answer : goal.returns-then-is_hash_line-clause-answer
returns-then-is_hash_line-clause-answer c =
    stays_same c.args.config.now _ _ _ _ _ c.take_end.result (c.take_end.ensures.answer c.args.config.now)

pub returns-then-is_ending_line-clause-answer : goal.returns-then-is_ending_line-clause-answer
returns-then-is_ending_line-clause-answer c =
    ending_row _ _ c.args.play.now c.keep_ending.new.play c.args.line.now c.no_lines.result c.requires.on
    (sym c.is_move_line.ensures.answer ∙ c.if-is_move_line.false) (sym c.is_hash_line.ensures.value ∙ c.if-is_hash_line.false)
    (sym c.is_ending_line.ensures.value ∙ c.if-is_ending_line.true) c.keep_ending.ensures
    c.no_lines.ensures.engine c.no_lines.ensures.server c.no_lines.ensures.status

pub returns-clause-answer : goal.returns-clause-answer
returns-clause-answer c =
    other_row _ _ c.args.play.now c.args.line.now c.no_lines-2.result c.requires.on
    (sym c.is_move_line.ensures.answer ∙ c.if-is_move_line.false) (sym c.is_hash_line.ensures.value ∙ c.if-is_hash_line.false)
    (sym c.is_ending_line.ensures.value ∙ c.if-is_ending_line.false)
    c.no_lines-2.ensures.engine c.no_lines-2.ensures.server c.no_lines-2.ensures.status

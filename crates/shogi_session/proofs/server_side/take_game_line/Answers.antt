use Rattle.std.proofs.Common.{refl, sym, ap, ◌∙◌}
use Rattle.shogi_session.proofs.PositionRead.{otherwise}
use Rattle.shogi_session.specs.Phases.{match_in, staged}
use Rattle.shogi_session.proofs.ServerRows.{logged_out, or_stays, quiet}
use Rattle.shogi_session.proofs.Unnamed.{other_closing, other_reason, over_line}
use Rattle.shogi_session.proofs.server_side.take_game_line.Goals as goal

pub returns-then-is_hash_line-clause-answer : goal.returns-then-is_hash_line-clause-answer
returns-then-is_hash_line-clause-answer c = or_stays c.take_end.result _ _ _ _ _ _ _ (c.take_end.ensures.answer c.args.config.now)

pub returns-else-is_hash_line-clause-answer : goal.returns-else-is_hash_line-clause-answer
returns-else-is_hash_line-clause-answer c =
    quiet _ _ _ _ _ _ c.no_lines.result (other_reason _ _ _ _ c.args.line.now (sym c.is_hash_line.ensures.value ∙ c.if-is_hash_line.false)) (ap (staged (match_in c.args.play.now) c.args.play.now.game) c.in-Reason.is) refl
    (c.no_lines.ensures.engine, c.no_lines.ensures.server, c.no_lines.ensures.status)

pub returns-then-is_same-clause-answer : goal.returns-then-is_same-clause-answer
returns-then-is_same-clause-answer c =
    logged_out _ _ c.args.play.now c.in-Closing.stated c.in-Closing.game_result c.args.line.now c.silent.result c.in-Closing.is (c.is_same.ensures.answer.0 c.if-is_same.true)
    (c.silent.ensures.engine, c.silent.ensures.server, c.silent.ensures.status)

pub returns-else-is_same-clause-answer : goal.returns-else-is_same-clause-answer
returns-else-is_same-clause-answer c =
    quiet _ _ _ _ _ _ c.no_lines-else-is_same.result (other_closing _ _ _ _ _ c.args.line.now (otherwise _ _ c.if-is_same.false c.is_same.ensures.answer)) (ap (staged (match_in c.args.play.now) c.args.play.now.game) c.in-Closing.is) refl
    (c.no_lines-else-is_same.ensures.engine, c.no_lines-else-is_same.ensures.server, c.no_lines-else-is_same.ensures.status)

pub returns-in-Ended-clause-answer : goal.returns-in-Ended-clause-answer
returns-in-Ended-clause-answer c =
    quiet _ _ _ _ _ _ c.no_lines-in-Ended.result (over_line _ _ _ _ _ c.args.line.now) (ap (staged (match_in c.args.play.now) c.args.play.now.game) c.in-Ended.is) refl
    (c.no_lines-in-Ended.ensures.engine, c.no_lines-in-Ended.ensures.server, c.no_lines-in-Ended.ensures.status)

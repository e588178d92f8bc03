use Rattle.std.proofs.Common.{refl, ap, ◌∙◌}
use Rattle.shogi_session.proofs.EngineRows.{answered_play, still}
use Rattle.shogi_session.proofs.Unnamed.{no_bestmove}
use Rattle.shogi_rules.specs.Positions.{now_of}
use Rattle.shogi_session.proofs.engine_side.take_answer.Goals as goal

pub returns-in_default-clause-answer : goal.returns-in_default-clause-answer
returns-in_default-clause-answer c = λ d.
    still d _ _ _ _ _ _ c.no_lines.result (no_bestmove d _ c.args.line.now c.in_default.ensures) c.requires.state refl refl
    c.no_lines.ensures.engine c.no_lines.ensures.server c.no_lines.ensures.status

pub returns-clause-answer : goal.returns-clause-answer
returns-clause-answer c = λ d.
    answered_play d _ c.args.play.now c.args.line.now c.in-Some.best c.in_ok-out.out c.now.result c.answer_for-answer.result c.has_slipped-play.result c.requires.state c.requires.stage
    (c.now.ensures.value ∙ ap now_of c.line.ensures.value) c.in-Some.ensures c.answer_for-answer.ensures c.has_slipped-play.ensures.slips c.has_slipped-play.ensures.answers
    c.in_ok-out.ensures.engine c.in_ok-out.ensures.server c.in_ok-out.ensures.status

use Rattle.std.proofs.Common.{refl}
use Rattle.shogi_session.specs.declared.phase.GameStage.TheVariants as stages
use Rattle.shogi_session.proofs.PlayRows.{reason_row, result_row}
use Rattle.shogi_session.proofs.in_play.take_end.Goals as goal

pub returns-in_ok-out-in-Some-clause-answer : goal.returns-in_ok-out-in-Some-clause-answer
returns-in_ok-out-in-Some-clause-answer c = λ d.
    result_row d _ c.args.play.now c.close.new.play c.args.stated c.end_report.result c.args.line.now c.in-Some.game_result c.in_ok-out-in-Some.out c.requires.stated c.requires.play
    c.in-Some.ensures.value c.end_report.ensures.ending c.end_report.ensures.reason c.close.ensures
    c.in_ok-out-in-Some.ensures.engine c.in_ok-out-in-Some.ensures.server c.in_ok-out-in-Some.ensures.status

pub returns-in-None-clause-answer : goal.returns-in-None-clause-answer
returns-in-None-clause-answer c = λ d.
    reason_row d _ c.args.play.now (record c.args.play.now { stage = stages.Reason c.with_reason.result }) c.args.stated c.with_reason.result c.args.line.now c.read_reason.result
    c.no_lines.result c.requires.stated c.requires.hash c.in-None.ensures.value c.with_reason.ensures.reason c.read_reason.ensures.value refl
    c.no_lines.ensures.engine c.no_lines.ensures.server c.no_lines.ensures.status

use Rattle.std.proofs.Common.{ap}
use Rattle.std.proofs.lemmas.Result.{err_from_is_err_and}
use Rattle.csa_record.specs.KeptStage.{stage_of}
use Rattle.record_game.proofs.Answering as answering
use Rattle.record_game.proofs.Progressing as step
use Rattle.csa_record.proofs.builder.RecordBuilder.take_turn.Goals as goal

pub returns : goal.returns
returns c = λ before h.
    step.take_turn before (step.kept c.self.inside.begun c.self.inside.titles (stage_of c.self.inside.stage)) c.in-Laying.laying c.in_ok-course-in-Laying.course c.args.color (step.as_kept before (step.kept c.self.inside.begun c.self.inside.titles (stage_of c.self.inside.stage)) c.args.self.now c.self.view_is h) (ap stage_of c.in-Laying.is) c.in_ok-course-in-Laying.ensures

pub returns-in_err-course-in-Laying : goal.returns-in_err-course-in-Laying
returns-in_err-course-in-Laying c = λ before h.
    let p = err_from_is_err_and c.from_residual.result c.from_residual.ensures.1 in
    rw (p.1, p.2)
    (step.refuse_turn before (step.kept c.self.inside.begun c.self.inside.titles (stage_of c.self.inside.stage)) (step.kept c.self.inside.begun c.self.inside.titles (stage_of c.self.inside.stage)) c.in-Laying.laying c.args.color c.in_err-course-in-Laying.field-0.0 (step.as_kept before (step.kept c.self.inside.begun c.self.inside.titles (stage_of c.self.inside.stage)) c.args.self.now c.self.view_is h) (ap stage_of c.in-Laying.is) c.in_err-course-in-Laying.ensures)

pub returns-in-Playing : goal.returns-in-Playing
returns-in-Playing c = λ before h.
    rw c.late_in.ensures (answering.turn_late before (step.kept c.self.inside.begun c.self.inside.titles (stage_of c.self.inside.stage)) (step.kept c.self.inside.begun c.self.inside.titles (stage_of c.self.inside.stage)) c.in-Playing.course c.args.color (step.as_kept before (step.kept c.self.inside.begun c.self.inside.titles (stage_of c.self.inside.stage)) c.args.self.now c.self.view_is h) (ap stage_of c.in-Playing.is))

use Rattle.std.proofs.Common.{ap}
use Rattle.csa_record.specs.KeptStage.{stage_of}
use Rattle.record_game.proofs.Answering as answering
use Rattle.record_game.proofs.Progressing as step
use Rattle.csa_record.proofs.builder.RecordBuilder.take_time.Goals as goal
use Rattle.csa_record.proofs.builder.RecordBuilder.take_time.Goals.{in-Laying, in-Playing}

pub returns : goal.returns
returns c = λ before h. elim c.match-self.branch [
  | in-Laying w ↦ rw w.result-is
      (answering.time_early before (step.kept c.self.inside.begun c.self.inside.titles (stage_of c.self.inside.stage)) (step.kept c.self.inside.begun c.self.inside.titles (stage_of c.self.inside.stage)) w.in-Laying.field-0 c.args.thousandths (step.as_kept before (step.kept c.self.inside.begun c.self.inside.titles (stage_of c.self.inside.stage)) c.args.self.now c.self.view_is h) (ap stage_of w.in-Laying.is))
  | in-Playing w ↦ rw (w.result-is, w.self-inside-is)
      (step.take_time before (step.kept c.self.inside.begun c.self.inside.titles (stage_of c.self.inside.stage)) w.in-Playing.course w.set_time.new.self c.args.thousandths w.set_time.result (step.as_kept before (step.kept c.self.inside.begun c.self.inside.titles (stage_of c.self.inside.stage)) c.args.self.now c.self.view_is h) (ap stage_of w.in-Playing.is) w.set_time.ensures.answer w.set_time.ensures.changed)
]

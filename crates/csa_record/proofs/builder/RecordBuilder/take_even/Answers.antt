use Rattle.std.proofs.Common.{ap}
use Rattle.csa_text.specs.Saying.{pairs_of}
use Rattle.csa_record.specs.KeptStage.{stage_of}
use Rattle.record_game.proofs.Answering as answering
use Rattle.record_game.proofs.Progressing as step
use Rattle.csa_record.proofs.builder.RecordBuilder.take_even.Goals as goal
use Rattle.csa_record.proofs.builder.RecordBuilder.take_even.Goals.{in-Laying, in-Playing}

pub returns : goal.returns
returns c = λ before h. elim c.match-self.branch [
  | in-Laying w ↦ rw (w.result-is, w.self-inside-is)
      (step.take_even before (step.kept c.self.inside.begun c.self.inside.titles (stage_of c.self.inside.stage)) w.in-Laying.laying w.lay_even.new.self (pairs_of c.args.pairs) w.lay_even.result (step.as_kept before (step.kept c.self.inside.begun c.self.inside.titles (stage_of c.self.inside.stage)) c.args.self.now c.self.view_is h) (ap stage_of w.in-Laying.is) w.lay_even.ensures.taken)
  | in-Playing w ↦ rw (w.result-is, w.late_in.ensures)
      (answering.even_late before (step.kept c.self.inside.begun c.self.inside.titles (stage_of c.self.inside.stage)) (step.kept c.self.inside.begun c.self.inside.titles (stage_of c.self.inside.stage)) w.in-Playing.course (pairs_of c.args.pairs) (step.as_kept before (step.kept c.self.inside.begun c.self.inside.titles (stage_of c.self.inside.stage)) c.args.self.now c.self.view_is h) (ap stage_of w.in-Playing.is))
]

use Rattle.std.proofs.Common.{ap}
use Rattle.csa_text.specs.Saying.{pairs_of}
use Rattle.csa_record.specs.KeptStage.{stage_of}
use Rattle.record_game.proofs.Answering as answering
use Rattle.record_game.proofs.Progressing as step
use Rattle.csa_record.proofs.builder.RecordBuilder.take_pieces.Goals as goal
use Rattle.csa_record.proofs.builder.RecordBuilder.take_pieces.Goals.{in-Laying, in-Playing}

pub returns : goal.returns
returns c = λ before h. elim c.match-self.branch [
  | in-Laying w ↦ rw (w.result-is, w.self-inside-is)
      (step.take_pieces before (step.kept c.self.inside.begun c.self.inside.titles (stage_of c.self.inside.stage)) w.in-Laying.laying w.lay_pieces.new.self c.args.color (pairs_of c.args.pairs) w.lay_pieces.result (step.as_kept before (step.kept c.self.inside.begun c.self.inside.titles (stage_of c.self.inside.stage)) c.args.self.now c.self.view_is h) (ap stage_of w.in-Laying.is) w.lay_pieces.ensures.taken)
  | in-Playing w ↦ rw (w.result-is, w.late_in.ensures)
      (answering.pieces_late before (step.kept c.self.inside.begun c.self.inside.titles (stage_of c.self.inside.stage)) (step.kept c.self.inside.begun c.self.inside.titles (stage_of c.self.inside.stage)) w.in-Playing.course c.args.color (pairs_of c.args.pairs) (step.as_kept before (step.kept c.self.inside.begun c.self.inside.titles (stage_of c.self.inside.stage)) c.args.self.now c.self.view_is h) (ap stage_of w.in-Playing.is))
]

use Rattle.csa_record.specs.KeptStage.{stage_of}
use Rattle.record_game.proofs.Progressing as step
use Rattle.csa_record.proofs.builder.RecordBuilder.take_header.Goals as goal

pub returns : goal.returns
returns c = λ before h. step.take_header before (step.kept c.self.inside.begun c.self.inside.titles (stage_of c.self.inside.stage)) c.set_header.new.self c.args.key.now c.args.text.now c.set_header.result (step.as_kept before (step.kept c.self.inside.begun c.self.inside.titles (stage_of c.self.inside.stage)) c.args.self.now c.self.view_is h) c.set_header.ensures.answer c.set_header.ensures.changed

use Rattle.csa_record.specs.KeptStage.{stage_of}
use Rattle.record_game.proofs.Progressing as step
use Rattle.csa_record.proofs.builder.RecordBuilder.take_name.Goals as goal

pub returns : goal.returns
returns c = λ before h. step.take_name before (step.kept c.self.inside.begun c.self.inside.titles (stage_of c.self.inside.stage)) c.set_name.new.self c.args.color c.args.text.now c.set_name.result (step.as_kept before (step.kept c.self.inside.begun c.self.inside.titles (stage_of c.self.inside.stage)) c.args.self.now c.self.view_is h) c.set_name.ensures.answer c.set_name.ensures.changed

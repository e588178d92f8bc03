use Rattle.csa_record.specs.KeptStage.{stage_of}
use Rattle.record_game.proofs.Answering as answering
use Rattle.record_game.proofs.Progressing as step
use Rattle.csa_record.proofs.builder.RecordBuilder.take_version.Goals as goal

pub returns-then-self : goal.returns-then-self
returns-then-self c = λ before h. answering.version_refused before (step.kept c.self.inside.begun c.self.inside.titles (stage_of c.self.inside.stage)) (step.kept c.self.inside.begun c.self.inside.titles (stage_of c.self.inside.stage)) (step.as_kept before (step.kept c.self.inside.begun c.self.inside.titles (stage_of c.self.inside.stage)) c.args.self.now c.self.view_is h) c.if-self.true

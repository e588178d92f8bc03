use Rattle.std.proofs.Common.{Option, subst}
use Rattle.record_game.specs.declared.fault.Why.{Why}
use Rattle.record_game.specs.Answer.{IsAnswer}
use Rattle.record_game.specs.Building.{course_of}
use Rattle.record_game.specs.Course.{PlayAnswers}
use Rattle.record_game.specs.Game.{Game}
use Rattle.csa_record.proofs.record.Record.play.Goals as goal

pub returns-clause-answer : goal.returns-clause-answer
returns-clause-answer c =
    subst (λ (g : Game). (x : Option Why) × PlayAnswers (course_of g) c.args.color c.args.mv x × IsAnswer x c.play.result) c.self.view_is c.play.ensures.answer

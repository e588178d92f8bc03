use Rattle.std.proofs.Common.{refl, sym, ap, ◌∙◌, subst}
use Rattle.record_game.specs.Keeping.{playing}
use Rattle.csa_record.specs.KeptStage.{stage_of}
use Rattle.record_game.specs.Limits.{IsGame}
use Rattle.record_game.proofs.Progressing.{kept, as_kept}
use Rattle.record_game.proofs.KeptGames.{says_of_kept, no_side_of_kept}
use Rattle.csa_record.proofs.builder.RecordBuilder.finish.Goals as goal

pub returns-in-Laying : goal.returns-in-Laying
returns-in-Laying c = λ sayings h written.
    no_side_of_kept sayings c.self.inside.begun c.self.inside.titles c.in-Laying.field-0
    (as_kept sayings _ c.args.self (ap (λ g. kept c.self.inside.begun c.self.inside.titles g) (sym (ap stage_of c.in-Laying.is)) ∙ c.self.view_is) h)

pub returns-in-Playing : goal.returns-in-Playing
returns-in-Playing c = λ sayings h written.
    rw c.from_parts.ensures.parts
    (says_of_kept sayings (kept c.self.inside.begun c.self.inside.titles (playing c.in-Playing.course)) c.in-Playing.course written
    (as_kept sayings _ c.args.self (ap (λ g. kept c.self.inside.begun c.self.inside.titles g) (sym (ap stage_of c.in-Playing.is)) ∙ c.self.view_is) h)
    refl
    (subst IsGame c.from_parts.ensures.parts c.from_parts.ensures.game))

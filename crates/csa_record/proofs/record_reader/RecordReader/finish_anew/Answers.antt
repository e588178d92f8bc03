use Rattle.std.proofs.Common.{[], None, refl, sym, subst}
use Rattle.record_game.specs.Keeping.{HasKept}
use Rattle.csa_record.specs.RecordReading.{HasRead}
use Rattle.csa_record.specs.ReadingSteps.{IsRead}
use Rattle.csa_record.proofs.Onward.{new_reader}
use Rattle.csa_record.proofs.record_reader.RecordReader.finish_anew.Goals as goal

pub returns-clause-first : goal.returns-clause-first
returns-clause-first c = λ source h.
    let before = subst (HasRead source) (sym c.self.view_is) h in
    c.end-record.ensures.first source (subst (λ k. IsRead source c.self.inside.cutter k c.self.inside.failing) (sym c.replace-builder.ensures.value) before)

pub returns-clause-anew : goal.returns-clause-anew
returns-clause-anew c =
    new_reader c.restart.new.self c.replace-builder.new.dest None refl c.restart.ensures.start
    (subst (HasKept []) (sym c.replace-builder.ensures.after) c.from_laying.ensures)

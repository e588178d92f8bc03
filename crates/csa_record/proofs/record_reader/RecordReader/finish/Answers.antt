use Rattle.std.proofs.Common.{sym, subst}
use Rattle.csa_record.specs.RecordReading.{HasRead}
use Rattle.csa_record.proofs.record_reader.RecordReader.finish.Goals as goal

pub returns-clause-stated : goal.returns-clause-stated
returns-clause-stated c = λ source h. let before = subst (HasRead source) (sym c.self.view_is) h in c.end.ensures.stated source before

pub returns-clause-refused : goal.returns-clause-refused
returns-clause-refused c = λ source h. let before = subst (HasRead source) (sym c.self.view_is) h in c.end.ensures.refused source before

pub returns-clause-memory : goal.returns-clause-memory
returns-clause-memory c = λ source h. let before = subst (HasRead source) (sym c.self.view_is) h in c.end.ensures.memory source before

pub returns-clause-first : goal.returns-clause-first
returns-clause-first c = λ source h. let before = subst (HasRead source) (sym c.self.view_is) h in c.end.ensures.first source before

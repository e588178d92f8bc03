use Rattle.std.proofs.Common.{Some, ap}
use Rattle.surface_tests.proofs.Whole.{reads_as}
use Rattle.surface_tests.proofs.archive.texts.record_of.Goals as goal

pub returns-clause-reads : goal.returns-clause-reads
returns-clause-reads c = reads_as _ _ _ c.args.text.now c.read_from.result (ap (λ text. Some text.now) c.new.ensures.inner) c.read_from.ensures.stated c.read_from.ensures.refused

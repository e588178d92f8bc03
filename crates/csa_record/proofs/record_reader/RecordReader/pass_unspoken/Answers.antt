use Rattle.std.proofs.Common.{sym, subst}
use Rattle.csa_record.specs.RecordReading.{HasRead}
use Rattle.csa_record.proofs.Steps.{unspoken}
use Rattle.csa_record.proofs.record_reader.RecordReader.pass_unspoken.Goals as goal

pub returns-clause-next : goal.returns-clause-next
returns-clause-next c = λ source h.
    let s = c.self.inside in
    unspoken source c.args.piece.now c.take_unspoken.result s.cutter c.take_unspoken.new.self s.builder s.failing (subst (HasRead source) (sym c.self.view_is) h) c.take_unspoken.ensures.used c.take_unspoken.ensures.leads

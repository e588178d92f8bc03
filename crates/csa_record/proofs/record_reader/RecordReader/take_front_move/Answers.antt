use Rattle.std.proofs.Common.{Some, sym, subst}
use Rattle.csa_text.specs.Saying.{walked}
use Rattle.csa_text.specs.Spelling.{Spells}
use Rattle.csa_record.specs.RecordReading.{RecordReading}
use Rattle.csa_record.specs.ReadingSteps.{MayTakeNext}
use Rattle.csa_record.proofs.Steps.{reading, front_taken}
use Rattle.csa_record.proofs.record_reader.RecordReader.take_front_move.Goals as goal

pub returns : goal.returns
returns c =
    let r = c.self.inside in
    let s = c.in_ok-statement in
    let move = walked c.in_ok-front.front.0 c.in_ok-front.front.1 in
    let piece = c.args.piece.now in
    let spells = subst (λ bs. Spells bs move) (sym s.ensures.bytes) c.in_ok-front.ensures.spells in
    subst (λ (v : RecordReading). MayTakeNext v piece (Some c.used_or_refused.result) (reading c.take_word.new.self c.take_walked-taken.new.self r.failing)) c.self.view_is
    (front_taken piece 8 r.cutter c.take_word.new.self r.builder c.take_walked-taken.new.self r.failing s.statement move c.take_walked-taken.result c.used_or_refused.result
    c.requires.some s.ensures.stepped spells c.take_walked-taken.ensures c.used_or_refused.ensures)

use Rattle.std.proofs.Common.{◌+◌, Some, sym, subst}
use Rattle.csa_text.specs.Saying.{time}
use Rattle.csa_text.specs.Spelling.{Spells}
use Rattle.record_game.proofs.Fits.{fits_of}
use Rattle.csa_record.specs.RecordReading.{RecordReading}
use Rattle.csa_record.specs.ReadingSteps.{MayTakeNext}
use Rattle.csa_record.proofs.Steps.{given, reading, front_taken}
use Rattle.csa_record.proofs.record_reader.RecordReader.take_front_time.Goals as goal

pub take_timed-taken-requires : goal.take_timed-taken-requires
take_timed-taken-requires c =
    let s = c.in_ok-statement in
    let t = time c.in_ok-thousandths.thousandths in
    fits_of s.statement.bytes.now t (given c.self.inside.cutter c.take_word.new.self c.args.piece.now (c.in_ok-thousandths.size + 1) s.statement s.ensures.stepped) (subst (λ bs. Spells bs t) (sym s.ensures.bytes) c.in_ok-thousandths.ensures.spells)

pub returns : goal.returns
returns c =
    let r = c.self.inside in
    let s = c.in_ok-statement in
    let t = time c.in_ok-thousandths.thousandths in
    let piece = c.args.piece.now in
    let spells = subst (λ bs. Spells bs t) (sym s.ensures.bytes) c.in_ok-thousandths.ensures.spells in
    subst (λ (v : RecordReading). MayTakeNext v piece (Some c.used_or_refused.result) (reading c.take_word.new.self c.take_timed-taken.new.self r.failing)) c.self.view_is
    (front_taken piece (c.in_ok-thousandths.size + 1) r.cutter c.take_word.new.self r.builder c.take_timed-taken.new.self r.failing s.statement t c.take_timed-taken.result c.used_or_refused.result
    c.requires.some s.ensures.stepped spells c.take_timed-taken.ensures c.used_or_refused.ensures)

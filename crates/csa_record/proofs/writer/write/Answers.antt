use Rattle.std.proofs.Common.{◌≡◌, arith}
use Rattle.std.proofs.lemmas.Grind.{common_steps}
use Rattle.record_game.specs.Canon.{canon}
use Rattle.record_game.proofs.Canonical.{canon_tells_lem}
use Rattle.csa_record.proofs.writer.write.Goals as goal

pub returns-clause-read_back : goal.returns-clause-read_back
returns-clause-read_back c =
    let text : c.write_lines.new.text.items ≡ canon c.args.game.now = grind (arith, common_steps) in
    rw text (canon_tells_lem c.args.game.now c.course.ensures.game)

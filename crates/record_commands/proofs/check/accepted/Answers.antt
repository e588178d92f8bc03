use Rattle.std.proofs.Common.{length, string_bytes, ap}
use Rattle.record_commands.proofs.Telling.{accepted_so}
use Rattle.record_commands.proofs.check.accepted.Goals as goal

pub returns : goal.returns
returns c =
    accepted_so string_bytes c.args.game.now c.line-line.result.now (length c.moves.result.now) c.verdict.result c.accepted_line.result
    c.line-line.ensures.value (ap length c.moves.ensures.value) c.verdict.ensures.stands c.accepted_line.ensures

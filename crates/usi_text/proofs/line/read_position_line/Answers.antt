use Rattle.std.proofs.Common.{rules}
use Rattle.usi_text.specs.Scanning.{GivesStart}
use Rattle.usi_text.specs.Words.{words}
use Rattle.usi_text.proofs.Played.{line_answered}
use Rattle.usi_text.proofs.line.read_position_line.Goals as goal

pub returns : goal.returns
returns c =
    let ws = words c.args.text.now in
    let moves = words c.in_ok-start.moves.now in
    let given : GivesStart ws c.in_ok-start.start moves = search rules in
    record {
      stated = line_answered ws c.in_ok-read_start.field-0 moves c.play_line.result (c.in_ok-read_start.ensures {u = tt} ws moves given) c.play_line.ensures;
    }

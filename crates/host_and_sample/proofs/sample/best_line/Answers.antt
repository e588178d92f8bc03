use Rattle.std.proofs.Common.{◌∙◌, codes}
use Rattle.host_and_sample.specs.Requests.{moves}
use Rattle.host_and_sample.proofs.Answering.{two_parts}
use Rattle.host_and_sample.proofs.sample.best_line.Goals as goal

pub returns : goal.returns
returns c =
    moves c.in-Some.game c.in-Some-best_move.word.bytes c.in-Some.is c.in-Some-best_move.ensures
    (c.in_ok-push.ensures.added ∙ rw (c.in_ok-push_part.ensures.added, c.new-lines.ensures.value, c.as_bytes.ensures.value, c.as_str.ensures.value) (two_parts (codes "bestmove ") c.in-Some-best_move.word.bytes))

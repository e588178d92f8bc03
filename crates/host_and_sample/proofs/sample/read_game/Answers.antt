use Rattle.host_and_sample.proofs.Answering.{tells_none}
use Rattle.host_and_sample.proofs.sample.read_game.Goals as goal

pub returns-else-lacks_memory : goal.returns-else-lacks_memory
returns-else-lacks_memory c =
    tells_none c.args.line.now c.in-Err.fault c.in-Err.ensures.stated
    (λ e. let t = c.lacks_memory.ensures.1 e in let f = c.if-lacks_memory.false in cc)

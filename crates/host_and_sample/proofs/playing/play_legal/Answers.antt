use Rattle.host_and_sample.proofs.HostRows.{always_played}
use Rattle.host_and_sample.proofs.playing.play_legal.Goals as goal

pub unreachable-requires : goal.unreachable-requires
unreachable-requires c =
    always_played c.args.game c.side-side.result c.now.result c.args.mv c.in-Err.fault c.now.ensures.value c.side-side.ensures.value
    c.requires.room c.requires.goes_on c.requires.legal
    (λ e. let t = c.lacks_memory.ensures.1 e in let f = c.if-lacks_memory.false in cc) c.in-Err.ensures.answer

use Rattle.session_commands.proofs.Outcomes.{came_out}
use Rattle.session_commands.proofs.play.play_between.Goals as goal

pub returns : goal.returns
returns g c = record {
  whole =
      let loop = c.play-played.ensures in
      record {
        outcome = c.play-played.result;
        between = c.play-played.new.ends;
        game = c.keep_game-kept.result;
        reached = came_out g.E.Ends.came g.E.Ends.missed g.E.Ends.went g.E.Ends.gone c.args.ends.now c.args.bridge.now c.play-played.new.ends c.play-played.new.bridge c.new-progress.result.ended c.play-played.new.progress.ended c.play-played.result c.new-progress.ensures.ended
            loop.done loop.failed loop.out_of_memory loop.endless loop.unwritten;
        kept = c.keep_game-kept.ensures.kept;
        ended = c.play-played.new.progress.ended;
        logged = c.close_log.ensures;
        over = c.session_end.ensures;
      };
}

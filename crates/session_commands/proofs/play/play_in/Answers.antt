use Rattle.std.proofs.Common.{subst, sym}
use Rattle.shogi_session.specs.Host.{IsLoginWord}
use Rattle.session_commands.specs.Playing.{played_in, no_bridge, not_started}
use Rattle.session_commands.proofs.play.play_in.Goals as goal

pub returns-in-Err : goal.returns-in-Err
returns-in-Err g c = record {
  played =
      not_started _ c.in-Err.ensures.unstarted c.abandon.ensures;
}

pub returns-in-Err-bridge_of : goal.returns-in-Err-bridge_of
returns-in-Err-bridge_of g c = record {
  played =
      no_bridge c.start.new.self c.in-Ok.started.0 c.in-Ok.started.1 c.in-Ok.ensures.started c.abandon-in-Err-bridge_of.ensures c.stop.ensures.stopped;
}

pub returns : goal.returns
returns g c = record {
  played =
      let bridge = c.in-Ok-bridge_of.ensures in
      played_in c.start.new.self c.in-Ok.started.0 c.play_between-game.new.ends c.in-Ok.started.1 c.in-Ok-bridge_of.bridge c.play_between-game.new.bridge c.play_between-game.result.session c.play_between-game.result.moves
      c.in-Ok.ensures.started (record { state = bridge.state; name = bridge.login.0; word = subst (λ x. IsLoginWord x) (sym bridge.login.0) c.requires.name; password = bridge.login.1; total = bridge.clocks.0; byoyomi = bridge.clocks.1 })
      c.play_between-game.ensures.whole c.stop-2.ensures.stopped;
}

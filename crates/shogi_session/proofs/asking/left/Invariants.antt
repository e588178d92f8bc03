use Rattle.std.proofs.Common.{◌≡◌, ◌-◌, drop}
use Rattle.bridge_table.specs.Asking.{used}
use Rattle.shogi_session.proofs.asking.left.Given as goal

abbrev pub invariant-loop-i : goal.invariant-loop-i
invariant-loop-i l = l.left - used l.color l.side (drop l.i l.game.moves) ≡ l.config.total_ms - used l.color l.game.start.side l.game.moves

use Rattle.std.proofs.Common.{rules, ◌<◌, ◌^◌}
use Rattle.shogi_board.proofs.Keyed.{whole-key}
use Rattle.shogi_board.proofs.position.Position.of.Goals as goal

pub invariant_of-result : goal.invariant_of-result
invariant_of-result c =
    let low : c.side_key.result < 2 ^ 64 = search rules in
    record {
      sound = c.requires;
      key = rw (c.key.ensures, c.key-2.ensures, c.key-3.ensures, ← c.side_key.ensures) (whole-key _ _ _ _ low);
    }

use Rattle.std.proofs.Common.{rules, ◌≡◌, ◌*◌, ◌<◌, length}
use Rattle.shogi_board.specs.Keys.{held_key}
use Rattle.shogi_board.proofs.Sums.{grown_by-product, sum_from-step}
use Rattle.shogi_board.proofs.keys.counts_key.Goals as goal

pub loop-n-preserved : goal.loop-n-preserved
loop-n-preserved c =
    let all : length c.args.counts.now ≡ 7 = search rules in
    let within : c.loop-n.n < length c.args.counts.now = rw all c.loop-n-test.true in
    rw (c.held_key.ensures) (grown_by-product _ _ _ _ c.loop-n.invariant (sum_from-step (λ place count. held_key c.args.color place * count) c.args.counts.now c.loop-n.n 0 within))

use Rattle.std.proofs.Common.{◌<◌, arith}
use Rattle.shogi_board.specs.Squares.{place}
use Rattle.shogi_board.specs.declared.square.Square.{Square}
use Rattle.shogi_board.proofs.Squares.{all-squares, below-next}
use Rattle.shogi_rules.proofs.Firsts.{NoDrop, drop-of-first, no-drop-of}
use Rattle.shogi_rules.proofs.search.first_drop_of.Goals as goal

pub returns-in-Some : goal.returns-in-Some
returns-in-Some c =
    let p = c.args.situation.now in
    let s = c.square_at-to.result in
    let below = λ (t : Square) (lt : place t < place s). c.loop-n.invariant t (omega (arith, lt, c.square_at-to.ensures)) in
    drop-of-first p c.args.kind s c.in-Some.mv below c.in-Some.ensures.0 c.in-Some.ensures.1

pub loop-n-preserved : goal.loop-n-preserved
loop-n-preserved c = below-next (λ t. NoDrop c.args.situation.now c.args.kind t) c.loop-n.n c.square_at-to.result c.square_at-to.ensures c.loop-n.invariant c.in_default.ensures

pub returns : goal.returns
returns c = no-drop-of c.args.situation.now c.args.kind (all-squares (λ t. NoDrop c.args.situation.now c.args.kind t) c.loop-n.n c.loop-n-test.false c.loop-n.invariant)

use Rattle.std.proofs.Common.{◌<◌, arith}
use Rattle.shogi_board.specs.Squares.{place}
use Rattle.shogi_board.specs.declared.square.Square.{Square}
use Rattle.shogi_board.proofs.Squares.{all-squares, below-next}
use Rattle.shogi_rules.specs.Trying.{IsWalkBetween, NoneOf}
use Rattle.shogi_rules.proofs.Firsts.{none-from, walk-from-first}
use Rattle.shogi_rules.proofs.search.first_walk_from.Goals as goal

pub returns-in-Some : goal.returns-in-Some
returns-in-Some c =
    let p = c.args.situation.now in
    let s = c.square_at.result in
    let below = λ (t : Square) (lt : place t < place s). c.loop-n.invariant t (omega (arith, lt, c.square_at.ensures)) in
    walk-from-first p c.args.from s c.in-Some.mv below c.in-Some.ensures

pub loop-n-preserved : goal.loop-n-preserved
loop-n-preserved c = below-next (λ t. NoneOf c.args.situation.now (IsWalkBetween c.args.from t)) c.loop-n.n c.square_at.result c.square_at.ensures c.loop-n.invariant c.in_default.ensures

pub returns : goal.returns
returns c = none-from c.args.situation.now c.args.from (all-squares (λ t. NoneOf c.args.situation.now (IsWalkBetween c.args.from t)) c.loop-n.n c.loop-n-test.false c.loop-n.invariant)

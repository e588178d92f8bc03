use Rattle.std.proofs.Common.{◌≡◌, arith, ap, ◌∙◌}
use Rattle.usi_text.proofs.Ranks.{boards_start, boards_more, boards_bad_rank, boards_few, boards_many, boards_end}
use Rattle.usi_text.proofs.boards.read_board.Goals as goal
use Rattle.usi_text.specs.Scanning.{ranks_after}

pub loop-init : goal.loop-init
loop-init c = rw c.new-cells.ensures (boards_start c.args.text.now)

pub returns-in_err-rest-clause-cells : goal.returns-in_err-rest-clause-cells
returns-in_err-rest-clause-cells c =
    let b = rw c.in_err-rest.was at c.loop.invariant in
    rw c.from_residual.ensures (boards_few c.args.text.now c.loop.cells.items c.loop.counter b c.loop-test.true)

pub read_rank-requires : goal.read_rank-requires
read_rank-requires c = let s = c.loop.invariant.size in omega arith

pub returns-then-not-read_rank-clause-cells : goal.returns-then-not-read_rank-clause-cells
returns-then-not-read_rank-clause-cells c =
    boards_bad_rank c.args.text.now (ranks_after c.loop.rest) (ranks_after c.take_rank.result.1) c.take_rank.result.0.now c.loop.cells.items c.loop.counter c.loop.invariant (ap ranks_after c.in_ok-rest.was ∙ c.take_rank.ensures) (λ cells s nine. c.if-not-read_rank.ensures {u = tt} cells s nine)

pub loop-preserved : goal.loop-preserved
loop-preserved c =
    let r = c.if-not-read_rank.ensures {u = tt} in
    boards_more c.args.text.now (ranks_after c.loop.rest) (ranks_after c.take_rank.result.1) c.take_rank.result.0.now c.loop.cells.items c.read_rank.new.cells.items r.0 c.loop.counter c.loop.invariant (ap ranks_after c.in_ok-rest.was ∙ c.take_rank.ensures) r.1 r.2 r.3

pub returns-in-Some-clause-cells : goal.returns-in-Some-clause-cells
returns-in-Some-clause-cells c =
    let n : c.loop.counter ≡ 9 = omega arith in
    let b = rw (c.in-Some.is, n) at c.loop.invariant in
    boards_many c.args.text.now c.in-Some.field-0.now c.loop.cells.items b

pub returns-in-None-clause-cells : goal.returns-in-None-clause-cells
returns-in-None-clause-cells c =
    let n : c.loop.counter ≡ 9 = omega arith in
    let b = rw (c.in-None.is, n) at c.loop.invariant in
    boards_end c.args.text.now c.loop.cells.items b

pub returns-in-None-clause-size : goal.returns-in-None-clause-size
returns-in-None-clause-size c = let s = c.loop.invariant.size in omega arith

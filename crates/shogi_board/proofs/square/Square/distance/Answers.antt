use Rattle.std.proofs.Common.{arith}
use Rattle.shogi_board.proofs.Between.{apart, more, as-many}
use Rattle.shogi_board.proofs.square.Square.distance.Goals as goal

pub returns-then-files-ranks-clause-only : goal.returns-then-files-ranks-clause-only
returns-then-files-ranks-clause-only c = λ e n ray away.
    more c.abs_diff-files.result c.abs_diff-ranks.result n c.if-files-ranks.true
    (apart c.args.self c.args.other e n c.abs_diff-files.result c.abs_diff-ranks.result ray away (omega (arith, c.abs_diff-files.ensures)) (omega (arith, c.abs_diff-ranks.ensures)))

pub returns-else-files-ranks-clause-only : goal.returns-else-files-ranks-clause-only
returns-else-files-ranks-clause-only c = λ e n ray away.
    as-many c.abs_diff-files.result c.abs_diff-ranks.result n (omega arith)
    (apart c.args.self c.args.other e n c.abs_diff-files.result c.abs_diff-ranks.result ray away (omega (arith, c.abs_diff-files.ensures)) (omega (arith, c.abs_diff-ranks.ensures)))

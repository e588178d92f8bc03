use Rattle.std.proofs.Common.{arith}
use Rattle.shogi_board.proofs.Between.{step-back, step-level, step-on}
use Rattle.shogi_board.proofs.square.step.Goals as goal

pub returns-then-to-from-clause-only : goal.returns-then-to-from-clause-only
returns-then-to-from-clause-only c = λ n f low high some h. step-back c.args.from c.args.to n f c.if-to-from.true low high some h

pub returns-then-to-from-2-clause-only : goal.returns-then-to-from-2-clause-only
returns-then-to-from-2-clause-only c = λ n f low high some h. step-level c.args.from c.args.to n f c.if-to-from-2.true low high some h

pub returns-else-to-from-2-clause-only : goal.returns-else-to-from-2-clause-only
returns-else-to-from-2-clause-only c = λ n f low high some h. step-on c.args.from c.args.to n f (omega arith) low high some h

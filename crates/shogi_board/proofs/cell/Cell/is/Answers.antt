use Rattle.std.proofs.lemmas.Bool.Decides.{same_from_decides}
use Rattle.shogi_board.specs.Cells.{piece}
use Rattle.shogi_board.proofs.Same.{coded-eq}
use Rattle.shogi_board.proofs.Tells.{cell-same}
use Rattle.shogi_board.proofs.cell.Cell.is.Goals as goal

pub returns-clause-holds : goal.returns-clause-holds
returns-clause-holds c = rw (c.eq.ensures, c.of.ensures) (coded-eq _ _)

pub returns-clause-same : goal.returns-clause-same
returns-clause-same c = same_from_decides _ _ (returns-clause-holds c) (cell-same c.args.self (piece c.args.color c.args.kind))

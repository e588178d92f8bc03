use Rattle.usi_text.proofs.Ranks.{Boards}
use Rattle.usi_text.proofs.boards.read_board.Given as goal
use Rattle.usi_text.specs.Scanning.{ranks_after}

abbrev pub invariant-loop : goal.invariant-loop
invariant-loop l = Boards l.text (ranks_after l.rest) l.cells.items l.counter

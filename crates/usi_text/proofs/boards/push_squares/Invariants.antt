use Rattle.std.proofs.Common.{◌≡◌, ◌++◌, replicate}
use Rattle.usi_text.proofs.boards.push_squares.Given as goal

abbrev pub invariant-loop : goal.invariant-loop
invariant-loop l = l.cells.items ≡ l.fn.cells.items ++ replicate l.counter l.cell

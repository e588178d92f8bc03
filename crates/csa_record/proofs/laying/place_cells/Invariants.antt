use Rattle.record_game.proofs.LayingPlaced.{CellsLeft}
use Rattle.csa_record.proofs.laying.place_cells.Given as goal

abbrev pub invariant-loop-i : goal.invariant-loop-i
invariant-loop-i l = CellsLeft l.number l.cells l.fn.setup l.setup l.i

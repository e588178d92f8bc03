use Rattle.std.proofs.Common.{◌≡◌, drop}
use Rattle.shogi_board.specs.Cells.{even_cells}
use Rattle.record_game.specs.Canon.{is_part_of}
use Rattle.csa_record.proofs.start_writer.is_part_of_even.Given as goal

abbrev pub invariant-loop-n : goal.invariant-loop-n
invariant-loop-n l = is_part_of l.start.material.board even_cells ≡ is_part_of (drop l.n l.start.material.board) (drop l.n even_cells)

-- For private functions: a square of a move. A reader of the public contracts may skip this file.
use Rattle.std.specs.Prelude.{Option, Some, None}
use Rattle.shogi_board.specs.declared.square.Square.{Square}
use Rattle.shogi_board.specs.declared.moves.Move.{Move}
use Rattle.shogi_board.specs.declared.moves.Move.TheVariants.{Walk, Put}

-- the square that the piece leaves, if it stood on one
abbrev pub source : Move → Option Square
source (Walk from _ _) = Some from
source (Put _ _) = None

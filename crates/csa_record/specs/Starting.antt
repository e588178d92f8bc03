-- For private functions: what is written of a start.
-- A reader of the public contracts may skip this file.
use Rattle.std.specs.Prelude.{List, [], ◌∷◌, Option, Some, None}
use Rattle.shogi_board.specs.declared.kind.Piece.{Piece}
use Rattle.shogi_board.specs.declared.square.Square.{Square}
use Rattle.csa_text.specs.declared.pair.Pair.{Pair}
use Rattle.csa_text.specs.declared.pair.Pair.TheVariants.{On}

-- the piece of the first cell, if the other one is empty
abbrev pub gone : Square → Option Piece → Option Piece → List Pair
gone square None other = []
gone square (Some p) None = On square p.kind ∷ []
gone square (Some p) (Some q) = []

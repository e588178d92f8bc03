-- Lines of moves.
use Rattle.std.specs.Prelude.{ℕ, ◌≤◌, ◌||◌, Bool, List, [], ◌∷◌, length}
use Rattle.shogi_board.specs.declared.color.Color.{Color}
use Rattle.shogi_board.specs.declared.moves.Move.{Move}
use Rattle.csa_cutting.specs.Cut.{TextUnit, IsCut, begins_with, statement_bytes, longest_statement}
use Rattle.csa_text.specs.Saying.{walked}
use Rattle.csa_text.specs.Spelling.{Spells}

-- its first byte is `+` or `-`
abbrev pub is_move_line : List ℕ → Bool
is_move_line line = begins_with 43 line || begins_with 45 line

-- the line has one statement, which is not too long; a comment is no statement
abbrev pub IsAlone : List ℕ → TextUnit → Type 0
IsAlone line unit = IsCut line (unit ∷ []) × (length unit.bytes ≤ longest_statement)

-- and that statement is this move of that side
abbrev pub TellsMove : List ℕ → Color → Move → Type 0
TellsMove line color m =
    (unit : TextUnit) × IsAlone line unit × Spells (statement_bytes unit.bytes) (walked color m)

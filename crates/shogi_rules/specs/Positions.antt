-- A line: a start and the moves from it.
use Rattle.std.specs.Prelude.{◌++◌, ℕ, ◌≤◌, List, [], ◌∷◌}
use Rattle.shogi_board.specs.Placed.{Placed}
use Rattle.shogi_board.specs.declared.moves.Move.{Move}
use Rattle.shogi_board.specs.After.{after}
use Rattle.shogi_board.specs.Legal.{Legal}
use Rattle.shogi_rules.specs.Repetition.{times}

pub record Played : Type 0 where
  pub start : Placed
  pub moves : List Move

-- a line has at most 10,000 moves
abbrev pub max_moves : ℕ
max_moves = 10000

-- the position that the moves lead to
abbrev pub position_after : Placed → List Move → Placed
position_after p [] = p
position_after p (m ∷ ms) = position_after (after p m) ms

-- all positions, the start and the last too
abbrev pub positions_of : Placed → List Move → List Placed
positions_of p [] = p ∷ []
positions_of p (m ∷ ms) = p ∷ positions_of (after p m) ms

abbrev pub now_of : Played → Placed
now_of line = position_after line.start line.moves

abbrev pub all_of : Played → List Placed
all_of line = positions_of line.start line.moves

abbrev pub line_of : Placed → List Move → Played
line_of start moves = record { start = start; moves = moves }

-- the position without any moves
abbrev pub alone : Placed → Played
alone p = line_of p []

-- the last position occurs for the fourth time
abbrev pub Over : Played → Type 0
Over line = 4 ≤ times (all_of line) (now_of line)

-- the move is legal in the position that those before it lead to, and that position does not occur
-- for the fourth time
pub record MayFollow (start : Placed) (before : List Move) (m : Move) : Type 0 where
  pub legal : Legal (position_after start before) m
  pub not_over : Over (line_of start before) → ⊥

-- a game: moves each of which may follow those before it
pub data IsGame (start : Placed) : List Move → Type 0 where
  begun : IsGame start []
  played : (before : List Move) (m : Move) → IsGame start before → MayFollow start before m
      → IsGame start (before ++ m ∷ [])

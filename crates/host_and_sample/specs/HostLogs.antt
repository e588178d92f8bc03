-- Logs of a host, and the game that its lines spell.
use Rattle.std.specs.Prelude.{◌≡◌, ℕ, ◌++◌, ◌≤◌, List, [], ◌∷◌, filter, map, length, if◌then◌else◌}
use Rattle.std.specs.List.{AllByRecursion, flat_map}
use Rattle.shogi_board.specs.declared.color.Color.{Color}
use Rattle.shogi_board.specs.declared.color.Color.TheVariants.{Black}
use Rattle.shogi_board.specs.Pieces.{opponent}
use Rattle.shogi_board.specs.Placed.{even_start}
use Rattle.shogi_board.specs.declared.moves.Move.{Move}
use Rattle.shogi_rules.specs.Positions.{IsGame}
use Rattle.csa_text.specs.Codes.{move_text}
use Rattle.host_and_sample.specs.declared.config.HostConfig.{HostConfig}
use Rattle.host_and_sample.specs.Host.{HostState, waiting, HostRow}
use Rattle.session_lines.specs.MoveLines.{is_move_line}
use Rattle.session_lines.specs.ServerLines.{is_start_line}
use Rattle.session_lines.specs.Texts.{with_time}

-- one call of step: the line without the spaces at its end, its seconds, and the lines to the
-- client
pub record HostStep : Type 0 where
  pub line : List ℕ
  pub seconds : ℕ
  pub to_client : List (List ℕ)

abbrev pub IsSeconds : ℕ → Type 0
IsSeconds n = n ≤ 4294967295

-- calls of step one after another, each a row of the table, from before login on
pub data HostLeads (c : HostConfig) : List HostStep → HostState → Type 0 where
  begins : HostLeads c [] waiting
  next : (log : List HostStep) (s : HostState) (step : HostStep) (t : HostState)
      → HostLeads c log s → IsSeconds step.seconds
      → HostRow c s step.line step.seconds step.to_client t
      → HostLeads c (log ++ step ∷ []) t

abbrev pub client_lines : HostStep → List (List ℕ)
client_lines step = step.to_client

abbrev pub written : List HostStep → List (List ℕ)
written log = flat_map client_lines log

-- the lines after the first line that begins with `START:`
abbrev pub after_start : List (List ℕ) → List (List ℕ)
after_start [] = []
after_start (line ∷ lines) = if is_start_line line then lines else after_start lines

-- those of them that begin with `+` or `-`
abbrev pub written_moves : List HostStep → List (List ℕ)
written_moves log = filter is_move_line (after_start (written log))

-- a move and its seconds
pub record Timed : Type 0 where
  pub move : Move
  pub seconds : ℕ

abbrev pub move_of : Timed → Move
move_of m = m.move

-- the lines of the moves of both sides in turn, this side first
abbrev pub lines_in_turn : Color → List Timed → List (List ℕ)
lines_in_turn color [] = []
lines_in_turn color (m ∷ ms) =
    with_time (move_text color m.move) m.seconds ∷ lines_in_turn (opponent color) ms

-- these moves are a game from the even start, black first, of at most `most` moves, and these are
-- its lines
pub record IsTimedGame (most : ℕ) (lines : List (List ℕ)) (ms : List Timed) : Type 0 where
  pub game : IsGame even_start (map move_of ms)
  pub few : length ms ≤ most
  pub times : AllByRecursion (λ m. IsSeconds m.seconds) ms
  pub lines_are : lines ≡ lines_in_turn Black ms

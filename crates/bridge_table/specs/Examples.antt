-- A game that begins with one pawn on the board: lines of its server and of its engine, and the
-- events up to its first move.
use Rattle.std.specs.Prelude.{false, List, [], ◌∷◌, None, codes, slice_set}
use Rattle.shogi_board.specs.declared.color.Color.TheVariants.{Black}
use Rattle.shogi_board.specs.declared.kind.Kind.TheVariants.{Pawn}
use Rattle.shogi_board.specs.declared.square.Square.{Square}
use Rattle.shogi_board.specs.Cells.{no_cells, piece}
use Rattle.shogi_board.specs.Placed.{Placed}
use Rattle.shogi_board.specs.Totals.{bare_board}
use Rattle.shogi_board.specs.declared.moves.Move.TheVariants.{Walk}
use Rattle.record_game.specs.Game.{Game, Timed}
use Rattle.bridge_table.specs.declared.event.Status.TheVariants.{Going}
use Rattle.bridge_table.specs.declared.state.EngineState.TheVariants.{Ready, Thinking}
use Rattle.bridge_table.specs.Events.{Event, begin, engine_line, server_line}
use Rattle.bridge_table.specs.State.{Match, Client, State}

-- a black pawn on 77, black to move
abbrev pub pawn_start : Placed
pawn_start =
    record { material = bare_board (slice_set no_cells 60 (piece Black Pawn)); side = Black }

abbrev pub pawn_game : Game
pawn_game =
    record {
      black = None;
      white = None;
      headers = [];
      start = pawn_start;
      moves = [];
      ending = None;
    }

-- the client is black
abbrev pub pawn_match : Match
pawn_match = record { client = Black; game = pawn_game; slip = false }

-- the pawn's move from one square to another
abbrev pub pawn_step : Square → Square → Timed
pawn_step from to = record { move = Walk from to Pawn; time = None }

-- the engine is ready, and the client is in this state
abbrev pub ready : Client → State
ready client = record { engine = Ready; client = client; status = Going }

-- the engine thinks, and the client is in this state
abbrev pub thinking : Client → State
thinking client = record { engine = Thinking; client = client; status = Going }

-- the events of a bridge that is offered the game as black, up to its engine's move
abbrev pub pawn_events : List Event
pawn_events =
    begin
    ∷ engine_line (codes "usiok")
    ∷ engine_line (codes "readyok")
    ∷ server_line (codes "LOGIN:x OK")
    ∷ server_line (codes "BEGIN Game_Summary")
    ∷ server_line (codes "Your_Turn:+")
    ∷ server_line (codes "BEGIN Position")
    ∷ server_line (codes "P+77FU")
    ∷ server_line (codes "+")
    ∷ server_line (codes "END Position")
    ∷ server_line (codes "END Game_Summary")
    ∷ server_line (codes "START:x")
    ∷ engine_line (codes "bestmove 7g7f")
    ∷ []

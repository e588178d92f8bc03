-- The game that a bridge has played so far.
use Rattle.std.specs.Prelude.{◌≡◌, ℕ, length, Option, Some, None}
use Rattle.shogi_board.specs.declared.color.Color.{Color}
use Rattle.shogi_board.specs.declared.color.Color.TheVariants.{Black, White}
use Rattle.shogi_board.specs.Pieces.{opponent}
use Rattle.csa_text.specs.declared.ending.Ending.{Ending}
use Rattle.csa_text.specs.declared.ending.Ending.TheVariants.{Toryo, Chudan, Sennichite, TimeUp, IllegalMove, BlackIllegalAction, WhiteIllegalAction, Jishogi}
use Rattle.record_game.specs.Game.{Game, Ended}
use Rattle.session_lines.specs.declared.server_words.GameResult.{GameResult}
use Rattle.session_lines.specs.declared.server_words.GameResult.TheVariants as game_result
use Rattle.session_lines.specs.declared.server_words.EndReason.{EndReason}
use Rattle.session_lines.specs.declared.server_words.EndReason.TheVariants as end_reason
use Rattle.bridge_table.specs.State.{Match, Finish, Client, idle, logging_in, before_summary, summary, agreeing, playing, sent, reason, closing, ended}

-- the ending `%+ILLEGAL_ACTION` or `%-ILLEGAL_ACTION`, with this side's sign
abbrev pub illegal_action : Color → Ending
illegal_action Black = BlackIllegalAction
illegal_action White = WhiteIllegalAction

-- after a perpetual check, by the result for a client of this side
abbrev pub perpetual_ending : Color → GameResult → Ending
perpetual_ending client game_result.Lose = illegal_action client
perpetual_ending client game_result.Win = illegal_action (opponent client)
perpetual_ending client game_result.Draw = Sennichite
perpetual_ending client game_result.Censored = Sennichite
perpetual_ending client game_result.Chudan = Sennichite

abbrev pub ending_by : Color → EndReason → GameResult → Option Ending
ending_by client end_reason.Resign o = Some Toryo
ending_by client end_reason.TimeUp o = Some TimeUp
ending_by client end_reason.IllegalMove o = Some IllegalMove
ending_by client end_reason.Sennichite o = Some Sennichite
ending_by client end_reason.Jishogi o = Some Jishogi
ending_by client end_reason.MaxMoves o = Some Chudan
ending_by client end_reason.OuteSennichite o = Some (perpetual_ending client o)
ending_by client end_reason.Other o = None

-- if there is no reason
abbrev pub ending_without : GameResult → Option Ending
ending_without game_result.Chudan = Some Chudan
ending_without game_result.Win = None
ending_without game_result.Lose = None
ending_without game_result.Draw = None
ending_without game_result.Censored = None

abbrev pub untimed : Option Ending → Option Ended
untimed None = None
untimed (Some e) = Some (record { ending = e; time = None })

-- an ending that was kept, with its time; else, once there is a result, the one that follows from
-- the reason
abbrev pub ending_of : Color → Option Ended → Option EndReason → Option GameResult → Option Ended
ending_of client (Some kept) why result = Some kept
ending_of client None why None = None
ending_of client None (Some why) (Some o) = untimed (ending_by client why o)
ending_of client None None (Some o) = untimed (ending_without o)

abbrev pub ended_game : Match → Finish → Option GameResult → Game
ended_game g f result = record g.game { ending = ending_of g.client f.kept f.reason result }

-- none before a summary was accepted
abbrev pub game_of : Client → Option Game
game_of idle = None
game_of logging_in = None
game_of before_summary = None
game_of (summary h) = None
game_of (agreeing o) = Some o.game
game_of (playing g) = Some g.game
game_of (sent g answer) = Some g.game
game_of (reason g f) = Some (ended_game g f None)
game_of (closing g f o) = Some (ended_game g f (Some o))
game_of (ended g f o) = Some (ended_game g f (Some o))

-- the number of moves of the client's game
abbrev pub HasMoves : Client → ℕ → Type 0
HasMoves client n = (g : Game) × (game_of client ≡ Some g) × (n ≡ length g.moves)

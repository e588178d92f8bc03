-- For private functions and fields of `Bridge`: its own states, and what its steps promise.
-- A reader of the public contracts may skip this file.
use Rattle.std.specs.Prelude.{◌≡◌, ◌++◌, ◌∷◌, ◌⊎◌, ℕ, Bool, true, false, List, [], Option, None, Some, Result, Ok, Err, map}
use Rattle.shogi_board.specs.declared.memory.OutOfMemory.{OutOfMemory}
use Rattle.shogi_board.specs.declared.moves.Move as shogi
use Rattle.shogi_rules.specs.Positions.{IsGame}
use Rattle.csa_record.specs.Game.{Game, Timed, Ended, move_of}
use Rattle.bridge_table.specs.declared.config.Config.{Config}
use Rattle.shogi_session.specs.declared.best_move.BestMove.{BestMove}
use Rattle.shogi_session.specs.declared.best_move.BestMove.TheVariants as best
use Rattle.bridge_table.specs.declared.event.Out.{Out as Answered}
use Rattle.bridge_table.specs.declared.event.Status.TheVariants.{Going}
use Rattle.shogi_session.specs.declared.offer.GameOffer.{GameOffer}
use Rattle.bridge_table.specs.declared.state.Answer.TheVariants.{Move, Toryo, Kachi}
use Rattle.shogi_session.specs.declared.phase.Phase.{Phase}
use Rattle.shogi_session.specs.declared.phase.Phase.TheVariants.{Idle, LoggingIn, BeforeSummary, Summary, Agreeing, InGame}
use Rattle.shogi_session.specs.declared.phase.Play.{Play}
use Rattle.shogi_session.specs.declared.phase.GameStage.{GameStage}
use Rattle.shogi_session.specs.declared.phase.GameStage.TheVariants.{Playing, Sent, Reason, Closing, Ended as Over}
use Rattle.shogi_session.specs.declared.phase.EndReport.{EndReport}
use Rattle.session_lines.specs.declared.server_words.EndReason.{EndReason}
use Rattle.bridge_table.specs.declared.state.EngineState.{EngineState}
use Rattle.bridge_table.specs.Events.{Event, Out}
use Rattle.bridge_table.specs.Asking.{Asks}
use Rattle.bridge_table.specs.GameSoFar.{ending_of, game_of}
use Rattle.shogi_session.specs.Offers.{offer_in}
use Rattle.bridge_table.specs.Promises.{KeepsGame}
use Rattle.bridge_table.specs.Row.{Row}
use Rattle.session_lines.specs.declared.server_words.GameResult.{GameResult}
use Rattle.session_lines.specs.ServerLines.{TellsEnding}
use Rattle.bridge_table.specs.declared.state.Answer.{Answer}
use Rattle.bridge_table.specs.State.{Match, Finish, game_with, Client, idle, logging_in, before_summary, summary, agreeing, playing, sent, reason, closing, ended, State, client_state, slip_of}
use Rattle.bridge_table.specs.Summary.{CountsAs}
use Rattle.session_lines.specs.Texts.{text_of}

-- 1. The states
-- the ending, if the server sent it
abbrev pub kept_of : Bool → Option Ended → Option Ended
kept_of true ending = ending
kept_of false ending = None

abbrev pub finish_of : Game → EndReport → Finish
finish_of game stated = record { kept = kept_of stated.ending game.ending; reason = stated.reason }

-- the match has the game without its ending
abbrev pub match_in : Play → Match
match_in p = record { client = p.client; game = record p.game { ending = None }; slip = p.slip }

abbrev pub staged : Match → Game → GameStage → Client
staged g game Playing = playing g
staged g game (Sent a) = sent g a
staged g game (Reason stated) = reason g (finish_of game stated)
staged g game (Closing stated result) = closing g (finish_of game stated) result
staged g game (Over stated result) = ended g (finish_of game stated) result

abbrev pub play_client : Play → Client
play_client p = staged (match_in p) p.game p.stage

abbrev pub client_of : Phase → Client
client_of Idle = idle
client_of LoggingIn = logging_in
client_of BeforeSummary = before_summary
client_of (Summary from_server) = summary from_server
client_of (Agreeing o) = agreeing (offer_in o)
client_of (InGame p) = play_client p

-- the play that starts with an offer
abbrev pub begun : GameOffer → Play
begun o = record { client = o.client; game = o.game; slip = false; stage = Playing }

-- 2. What they keep
-- the game has the ending that was sent, or follows from what was, and its moves are legal
pub record IsPlay (p : Play) : Type 0 where
  pub game : game_of (play_client p) ≡ Some p.game
  pub legal : IsGame p.game.start (map move_of p.game.moves)

-- an offered game has no ending, and its moves are legal
pub record IsOpen (g : Game) : Type 0 where
  pub none : g.ending ≡ None
  pub legal : IsGame g.start (map move_of g.moves)

-- what counts of a summary so far is that of some lines
abbrev pub IsPhase : Phase → Type 0
IsPhase Idle = Unit {0}
IsPhase LoggingIn = Unit {0}
IsPhase BeforeSummary = Unit {0}
IsPhase (Summary from_server) = (lines : List (List ℕ)) × CountsAs lines from_server
IsPhase (Agreeing o) = IsOpen o.game
IsPhase (InGame p) = IsPlay p

-- 3. Steps
abbrev pub going : EngineState → Client → State
going engine client = record { engine = engine; client = client; status = Going }

-- the answer is that of a row
abbrev pub Reacts : Config → EngineState → Client → Event → Answered → EngineState → Client → Type 0
Reacts c engine client e answered engine_after client_after =
    (out : Out) × Row c (going engine client) e out
    (record { engine = engine_after; client = client_after; status = answered.status })
    × (answered.to_engine ≡ text_of out.to_engine) × (answered.to_server ≡ text_of out.to_server)

-- if memory runs out, both states stay, and the game is whole
pub record Stays (c : Config) (engine : EngineState) (client : Client)
    (e : Event) (engine_after : EngineState) (client_after : Client) : Type 0 where
  pub engine_stays : engine_after ≡ engine
  pub client_stays : client_state client_after ≡ client_state client
  pub slip_stays : slip_of client_after ≡ slip_of client
  pub game : KeepsGame c (going engine client) e (going engine_after client_after)

-- neither state has changed
abbrev pub Same : EngineState → Client → EngineState → Client → Type 0
Same engine client engine_after client_after = (engine_after ≡ engine) × (client_after ≡ client)

-- 4. Answers of the engine
-- a slip resigns
abbrev pub answer_for : BestMove → Answer
answer_for (best.Answer answer) = answer
answer_for best.Slip = Toryo

-- 5. Lines of the server in a game
-- the game is in play: Playing, Sent
abbrev pub IsOn : GameStage → Type 0
IsOn Playing = Unit {0}
IsOn (Sent a) = Unit {0}
IsOn (Reason stated) = ⊥
IsOn (Closing stated result) = ⊥
IsOn (Over stated result) = ⊥

-- the sent move that waits for confirmation
abbrev pub waiting_in : GameStage → Option shogi.Move
waiting_in Playing = None
waiting_in (Sent (Move m)) = Some m
waiting_in (Sent Toryo) = None
waiting_in (Sent Kachi) = None
waiting_in (Reason stated) = None
waiting_in (Closing stated result) = None
waiting_in (Over stated result) = None

abbrev pub no_end_report : EndReport
no_end_report = record { ending = false; reason = None }

-- this is what was said of the end in this stage, or nothing, while the game is in play
abbrev pub TellsEnd : GameStage → EndReport → Type 0
TellsEnd Playing stated = stated ≡ no_end_report
TellsEnd (Sent a) stated = stated ≡ no_end_report
TellsEnd (Reason before) stated = stated ≡ before
TellsEnd (Closing before result) stated = ⊥
TellsEnd (Over before result) stated = ⊥

-- the lines of this text ask the engine, or the text is empty
abbrev pub IsAskText : Config → Match → EngineState → List ℕ → EngineState → Type 0
IsAskText c g engine text engine_after =
    (lines : List (List ℕ)) × Asks c g engine lines engine_after × (text ≡ text_of lines)

-- play goes on, and the engine is asked if its side is to move
pub record PlayGoesOn (c : Config) (engine : EngineState) (p : Play) (before : List ℕ)
    (answered : Answered) (engine_after : EngineState) (p_after : Play) : Type 0 where
  pub play : p_after ≡ record p { stage = Playing }
  pub text : List ℕ
  pub asked : IsAskText c (match_in p) engine text engine_after
  pub to_engine : answered.to_engine ≡ before ++ text
  pub to_server : answered.to_server ≡ []
  pub status : answered.status ≡ Going

-- the line spells an ending, which the game keeps; or it spells none, and nothing changes
abbrev pub KeepsEnding : Play → List ℕ → Play → Type 0
KeepsEnding p line p_after =
    ((k : Ended) × TellsEnding line k
    × (p_after ≡ record p {
      game = record p.game { ending = Some k };
      stage = Reason (record { ending = true; reason = None });
    }))
    ⊎ (((k : Ended) → TellsEnding line k → ⊥) × (p_after ≡ p))

-- the game with its ending, or else the one that follows from the reason and the result
abbrev pub closed : Play → Option EndReason → GameResult → Game
closed p why result = record p.game { ending = ending_of p.client p.game.ending why (Some result) }

-- the move is confirmed; if memory runs out it is or is not
abbrev pub Confirms : Config → EngineState
    → Play → Timed → Result Answered OutOfMemory → EngineState → Play → Type 0
Confirms c engine p m (Ok answered) engine_after p_after =
    PlayGoesOn c engine (record p { game = game_with p.game (m ∷ []) })
    [] answered engine_after p_after
Confirms c engine p m (Err fault) engine_after p_after =
    (engine_after ≡ engine)
    × ((p_after ≡ p) ⊎ (p_after ≡ record p { game = game_with p.game (m ∷ []) }))

-- The table of a bridge: state, event, lines, next state.
use Rattle.std.specs.Prelude.{◌≡◌, ◌≢◌, ℕ, ◌++◌, ◌⊎◌, true, List, [], ◌∷◌, Option, Some, None}
use Rattle.shogi_board.specs.declared.color.Color.{Color}
use Rattle.shogi_rules.specs.declared.line.PlayFault.{PlayFault}
use Rattle.shogi_rules.specs.declared.line.PlayFault.TheVariants as play
use Rattle.shogi_board.specs.declared.moves.Move.{Move}
use Rattle.shogi_board.specs.declared.rule.Rule.{Rule}
use Rattle.shogi_board.specs.Legal.{Legal}
use Rattle.shogi_rules.specs.Play.{Answers}
use Rattle.csa_text.specs.Codes.{move_text}
use Rattle.csa_text.specs.declared.fault.TextFault.{TextFault}
use Rattle.usi_text.specs.declared.engine.EngineWord.TheVariants.{UsiOk, ReadyOk}
use Rattle.usi_text.specs.Engine.{LineSays}
use Rattle.usi_text.specs.Moves.{UsiMove}
use Rattle.usi_text.specs.Words.{words, nth_word}
use Rattle.record_game.specs.declared.fault.OrderFault.TheVariants as order
use Rattle.record_game.specs.declared.fault.Why.{Why}
use Rattle.record_game.specs.declared.fault.Why.TheVariants as why
use Rattle.record_game.specs.Game.{Timed, Ended}
use Rattle.bridge_table.specs.declared.config.Config.{Config}
use Rattle.bridge_table.specs.declared.event.Status.TheVariants.{Going, Done, Failed}
use Rattle.bridge_table.specs.declared.fault.MoveCause.TheVariants.{Refused, Unsent}
use Rattle.bridge_table.specs.declared.fault.SessionFault.{SessionFault}
use Rattle.bridge_table.specs.declared.fault.SessionFault.TheVariants.{LoginRefused, Rejected, BadSummary, BadServerMove, EngineGone, ServerGone, LineTooLong}
use Rattle.bridge_table.specs.declared.state.ClientState.TheVariants as clients
use Rattle.bridge_table.specs.declared.state.EngineState.{EngineState}
use Rattle.bridge_table.specs.declared.state.EngineState.TheVariants.{New, Greeting, Readying, Ready, Thinking, Ended as EngineEnded}
use Rattle.bridge_table.specs.Asking.{Asks}
use Rattle.bridge_table.specs.Events.{Event, begin, engine_line, server_line, engine_end, server_end, engine_long, server_long, Out, no_lines, engine, server}
use Rattle.session_lines.specs.LineTexts as texts
use Rattle.usi_text.specs.EngineTexts as usi_texts
use Rattle.session_lines.specs.MoveLines.{is_move_line}
use Rattle.session_lines.specs.declared.server_words.GameResult.{GameResult}
use Rattle.session_lines.specs.declared.server_words.GameResult.TheVariants.{Win, Lose, Draw, Censored, Chudan}
use Rattle.session_lines.specs.declared.server_words.EndReason.{EndReason}
use Rattle.session_lines.specs.ServerLines.{is_login_ok, is_start_line, is_reject_line, is_ending_line, is_hash_line, TellsTimed, TellsEnding, FirstTextFault, outcome_of, reason_of}
use Rattle.bridge_table.specs.declared.state.Answer.{Answer}
use Rattle.bridge_table.specs.declared.state.Answer.TheVariants.{Move as move, Toryo as toryo, Kachi as kachi}
use Rattle.bridge_table.specs.State.{Match, Finish, nothing_stated, Client, idle, logging_in, before_summary, summary, agreeing, playing, sent, reason, closing, ended, State, client_state, match_of, match_line, position_now, with_move}
use Rattle.bridge_table.specs.Summary.{SummaryContent, no_content, CountsAs, Offer, TellsOffer}

-- 1. Words of the table
abbrev pub login_line : Config → List ℕ
login_line c = texts.login_front ++ (c.name.bytes ++ (texts.space ++ c.password.bytes))

-- `bestmove` and a word, or the empty text if there is none
pub record IsBestMove (line word : List ℕ) : Type 0 where
  pub first : nth_word (words line) 0 ≡ usi_texts.best_move_word
  pub second : nth_word (words line) 1 ≡ word

-- the word is a legal move of the side to move
pub record IsLegalWord (g : Match) (word : List ℕ) (m : Move) : Type 0 where
  pub word_is : UsiMove (position_now g) word m
  pub legal : Legal (position_now g) m

-- the word is none of the answers
pub record IsNoAnswer (g : Match) (word : List ℕ) : Type 0 where
  pub no_move : (m : Move) → IsLegalWord g word m → ⊥
  pub not_resign : word ≢ usi_texts.engine_resigns
  pub not_win : word ≢ usi_texts.engine_wins

-- the line that a client of this side sends for the engine's answer
abbrev pub answer_text : Color → Answer → List ℕ
answer_text client (move m) = move_text client m
answer_text client toryo = texts.toryo
answer_text client kachi = texts.kachi

abbrev pub answer_line : Match → Answer → List ℕ
answer_line g answer = answer_text g.client answer

abbrev pub slipped : Match → Match
slipped g = record g { slip = true }

abbrev pub gameover_line : GameResult → List ℕ
gameover_line Win = usi_texts.game_won
gameover_line Lose = usi_texts.game_lost
gameover_line Draw = usi_texts.game_drawn
gameover_line Censored = usi_texts.game_drawn
gameover_line Chudan = usi_texts.game_drawn

-- the first reason is kept
abbrev pub first_reason : Option EndReason → EndReason → Option EndReason
first_reason None new = Some new
first_reason (Some old) new = Some old

abbrev pub with_reason : Finish → EndReason → Finish
with_reason f new = record f { reason = first_reason f.reason new }

-- 2. Groups of states
-- Playing, Sent: the match, and the sent move that still waits for confirmation
pub record Play : Type 0 where
  pub game : Match
  pub waiting : Option Move

abbrev pub in_play : Client → Option Play
in_play idle = None
in_play logging_in = None
in_play before_summary = None
in_play (summary h) = None
in_play (agreeing o) = None
in_play (playing g) = Some (record { game = g; waiting = None })
in_play (sent g (move m)) = Some (record { game = g; waiting = Some m })
in_play (sent g toryo) = Some (record { game = g; waiting = None })
in_play (sent g kachi) = Some (record { game = g; waiting = None })
in_play (reason g f) = None
in_play (closing g f o) = None
in_play (ended g f o) = None

-- Playing, Sent, Reason: the match, and what the server said of its end
abbrev pub before_result : Client → Option (Match × Finish)
before_result idle = None
before_result logging_in = None
before_result before_summary = None
before_result (summary h) = None
before_result (agreeing o) = None
before_result (playing g) = Some (g, nothing_stated)
before_result (sent g answer) = Some (g, nothing_stated)
before_result (reason g f) = Some (g, f)
before_result (closing g f o) = None
before_result (ended g f o) = None

-- 3. Moves of the server
-- the line spells this move of this side, and playing it has this result
pub record Judged (g : Match) (line : List ℕ)
    (color : Color) (m : Timed) (answer : Option PlayFault) : Type 0 where
  pub stated : TellsTimed line color m
  pub answers : Answers (match_line g) color m.move answer

-- why the line is refused: the first text fault of the whole line, then too many moves, then the
-- first broken rule
pub data IsRefused (g : Match) (line : List ℕ) (cause : Why) : Type 0 where
  text_fault : (fault : TextFault)
      → FirstTextFault line fault → cause ≡ why.Text fault
      → IsRefused g line cause
  too_many : (color : Color) (m : Timed)
      → Judged g line color m (Some play.TooManyMoves) → cause ≡ why.Order order.TooManyMoves
      → IsRefused g line cause
  breaks : (color : Color) (m : Timed) (rule : Rule)
      → Judged g line color m (Some (play.Broken rule)) → cause ≡ why.Rule rule
      → IsRefused g line cause

-- a move of the client's side is expected only if it was sent and waits
abbrev pub IsExpected : Play → Color → Timed → Type 0
IsExpected p color m = color ≡ p.game.client → p.waiting ≡ Some m.move

-- 4. The table
-- the client goes to this state; the engine's stays
abbrev pub client_to : State → Client → State
client_to s client = record s { client = client }

-- a fault changes neither state
abbrev pub failed : State → SessionFault → State
failed s fault = record s { status = Failed fault }

pub data TableRow (c : Config) (s : State) (e : Event) (out : Out) (t : State) : Type 0 where
  -- New | Begin
  begins :
      s.engine ≡ New → e ≡ begin
      → out ≡ engine (usi_texts.usi ∷ []) → t ≡ record s { engine = Greeting }
      → TableRow c s e out t
  -- Greeting | `usiok`
  greeted : (line : List ℕ)
      → s.engine ≡ Greeting → e ≡ engine_line line → LineSays (words line) UsiOk
      → out ≡ engine (usi_texts.is_ready ∷ []) → t ≡ record s { engine = Readying }
      → TableRow c s e out t
  -- Readying | `readyok`
  readied : (line : List ℕ)
      → s.engine ≡ Readying → e ≡ engine_line line → LineSays (words line) ReadyOk
      → out ≡ server (login_line c) → t ≡ record s { engine = Ready; client = logging_in }
      → TableRow c s e out t
  -- LoggingIn | `LOGIN:` .. ` OK`
  login_taken : (line : List ℕ)
      → s.client ≡ logging_in → e ≡ server_line line → is_login_ok line ≡ true
      → out ≡ no_lines → t ≡ client_to s before_summary
      → TableRow c s e out t
  -- LoggingIn | `LOGIN:incorrect`
  login_refused :
      s.client ≡ logging_in → e ≡ server_line texts.login_incorrect
      → out ≡ no_lines → t ≡ failed s LoginRefused
      → TableRow c s e out t
  -- Summary | the lines of a summary, and its end
  summary_begins :
      s.client ≡ before_summary → e ≡ server_line texts.begin_summary
      → out ≡ no_lines → t ≡ client_to s (summary no_content)
      → TableRow c s e out t
  summary_line : (lines : List (List ℕ)) (line : List ℕ) (h new : SummaryContent)
      → s.client ≡ summary h → e ≡ server_line line → line ≢ texts.end_summary
      → CountsAs lines h → CountsAs (lines ++ line ∷ []) new
      → out ≡ no_lines → t ≡ client_to s (summary new)
      → TableRow c s e out t
  summary_ends : (h : SummaryContent) (o : Offer)
      → s.client ≡ summary h → e ≡ server_line texts.end_summary → TellsOffer h o
      → out ≡ server texts.agree → t ≡ client_to s (agreeing o)
      → TableRow c s e out t
  summary_fails : (h : SummaryContent)
      → s.client ≡ summary h → e ≡ server_line texts.end_summary
      → ((o : Offer) → TellsOffer h o → ⊥)
      → out ≡ no_lines → t ≡ failed s BadSummary
      → TableRow c s e out t
  -- Agreeing | `START:` ..
  started : (o : Offer) (line : List ℕ) (asked : List (List ℕ)) (now : EngineState)
      → s.client ≡ agreeing o → e ≡ server_line line → is_start_line line ≡ true
      → Asks c (match_of o) s.engine asked now
      → out ≡ engine (usi_texts.new_game ∷ asked)
      → t ≡ record s { engine = now; client = playing (match_of o) }
      → TableRow c s e out t
  -- Agreeing | `REJECT:` ..
  rejected : (o : Offer) (line : List ℕ)
      → s.client ≡ agreeing o → e ≡ server_line line → is_reject_line line ≡ true
      → out ≡ no_lines → t ≡ failed s Rejected
      → TableRow c s e out t
  -- Thinking, Playing | `bestmove` legal move
  engine_moves : (g : Match) (line word : List ℕ) (m : Move)
      → s.engine ≡ Thinking → s.client ≡ playing g
      → e ≡ engine_line line → IsBestMove line word → IsLegalWord g word m
      → out ≡ server (answer_line g (move m))
      → t ≡ record s { engine = Ready; client = sent g (move m) }
      → TableRow c s e out t
  -- Thinking, Playing | `bestmove resign` / `win`
  engine_resigns : (g : Match) (line : List ℕ)
      → s.engine ≡ Thinking → s.client ≡ playing g
      → e ≡ engine_line line → IsBestMove line usi_texts.engine_resigns
      → out ≡ server (answer_line g toryo) → t ≡ record s { engine = Ready; client = sent g toryo }
      → TableRow c s e out t
  engine_wins : (g : Match) (line : List ℕ)
      → s.engine ≡ Thinking → s.client ≡ playing g
      → e ≡ engine_line line → IsBestMove line usi_texts.engine_wins
      → out ≡ server (answer_line g kachi) → t ≡ record s { engine = Ready; client = sent g kachi }
      → TableRow c s e out t
  -- Thinking, Playing | `bestmove` other
  engine_slips : (g : Match) (line word : List ℕ)
      → s.engine ≡ Thinking → s.client ≡ playing g
      → e ≡ engine_line line → IsBestMove line word → IsNoAnswer g word
      → out ≡ server (answer_line g toryo)
      → t ≡ record s { engine = Ready; client = sent (slipped g) toryo }
      → TableRow c s e out t
  -- Thinking, not Playing | `bestmove` any
  engine_late : (line word : List ℕ)
      → s.engine ≡ Thinking → client_state s.client ≢ clients.Playing
      → e ≡ engine_line line → IsBestMove line word
      → out ≡ no_lines → t ≡ record s { engine = Ready }
      → TableRow c s e out t
  -- Playing, Sent | line that begins with `+` or `-`
  move_refused : (p : Play) (line : List ℕ) (cause : Why)
      → in_play s.client ≡ Some p → e ≡ server_line line
      → is_move_line line ≡ true → IsRefused p.game line cause
      → out ≡ no_lines → t ≡ failed s (BadServerMove (Refused cause))
      → TableRow c s e out t
  move_unsent : (p : Play) (line : List ℕ) (color : Color) (m : Timed)
      → in_play s.client ≡ Some p → e ≡ server_line line
      → is_move_line line ≡ true → Judged p.game line color m None
      → (IsExpected p color m → ⊥)
      → out ≡ no_lines → t ≡ failed s (BadServerMove Unsent)
      → TableRow c s e out t
  move_confirmed : (p : Play) (line : List ℕ)
      (color : Color) (m : Timed) (asked : List (List ℕ)) (now : EngineState)
      → in_play s.client ≡ Some p → e ≡ server_line line
      → is_move_line line ≡ true → Judged p.game line color m None
      → IsExpected p color m → Asks c (with_move p.game m) s.engine asked now
      → out ≡ engine asked → t ≡ record s { engine = now; client = playing (with_move p.game m) }
      → TableRow c s e out t
  -- Playing, Sent | line that begins with `%`: an ending, optionally a time
  ending_stated : (p : Play) (line : List ℕ) (kept : Ended)
      → in_play s.client ≡ Some p → e ≡ server_line line
      → is_ending_line line ≡ true → TellsEnding line kept
      → out ≡ no_lines
      → t ≡ client_to s (reason p.game (record { kept = Some kept; reason = None }))
      → TableRow c s e out t
  -- Playing, Sent, Reason | a `#` line that is no result
  reason_stated : (g : Match) (f : Finish) (line : List ℕ)
      → before_result s.client ≡ Some (g, f)
      → e ≡ server_line line → is_hash_line line ≡ true → outcome_of line ≡ None
      → out ≡ no_lines → t ≡ client_to s (reason g (with_reason f (reason_of line)))
      → TableRow c s e out t
  -- Playing, Sent, Reason | `#WIN #LOSE #DRAW #CENSORED #CHUDAN`
  result_stated : (g : Match) (f : Finish) (line : List ℕ) (o : GameResult)
      → before_result s.client ≡ Some (g, f) → e ≡ server_line line → outcome_of line ≡ Some o
      → out ≡ record {
        to_engine = gameover_line o ∷ usi_texts.quit ∷ [];
        to_server = texts.logout ∷ [];
      }
      → t ≡ record s { engine = EngineEnded; client = closing g f o }
      → TableRow c s e out t
  -- Closing | `LOGOUT:completed` or ServerEnd
  closes : (g : Match) (f : Finish) (o : GameResult)
      → s.client ≡ closing g f o → (e ≡ server_line texts.logout_completed) ⊎ (e ≡ server_end)
      → out ≡ no_lines → t ≡ record s { client = ended g f o; status = Done }
      → TableRow c s e out t
  -- engine not Ended | EngineEnd
  engine_gone :
      s.engine ≢ EngineEnded → e ≡ engine_end
      → out ≡ no_lines → t ≡ failed s EngineGone
      → TableRow c s e out t
  -- client not Closing, not Ended | ServerEnd
  server_gone :
      client_state s.client ≢ clients.Closing
      → client_state s.client ≢ clients.Ended → e ≡ server_end
      → out ≡ no_lines → t ≡ failed s ServerGone
      → TableRow c s e out t
  -- not Done | EngineLong, ServerLong
  line_too_long :
      (e ≡ engine_long) ⊎ (e ≡ server_long)
      → out ≡ no_lines → t ≡ failed s LineTooLong
      → TableRow c s e out t

-- the session is neither over nor failed, and the table has a row for the event
abbrev pub IsInTable : Config → State → Event → Out → State → Type 0
IsInTable c s e out t = (s.status ≡ Going) × TableRow c s e out t

-- no row applies to the event
abbrev pub IsUnnamed : Config → State → Event → Type 0
IsUnnamed c s e = (out : Out) (t : State) → IsInTable c s e out t → ⊥

-- a row of the table, for an event whose line has no spaces at its end; or no row applies to the
-- event, no line is sent and nothing changes
pub data Row (c : Config) (s : State) (e : Event) (out : Out) (t : State) : Type 0 where
  in_table : IsInTable c s e out t → Row c s e out t
  unnamed : IsUnnamed c s e → out ≡ no_lines → t ≡ s → Row c s e out t

-- How the answers to lines of the engine are rows of the table.
use Rattle.std.proofs.Common.{◌≡◌, ℕ, ◌⊎◌, inl, inr, Bool, true, List, [], codes, refl, sym, ap, subst, ◌∙◌}
use Rattle.shogi_board.specs.Placed.{Placed}
use Rattle.usi_text.specs.declared.engine.EngineWord.TheVariants.{UsiOk, ReadyOk}
use Rattle.usi_text.specs.Engine.{LineSays}
use Rattle.usi_text.specs.Words.{words}
use Rattle.csa_record.specs.Game.{Game}
use Rattle.bridge_table.specs.declared.config.Config.{Config}
use Rattle.shogi_session.specs.declared.best_move.BestMove.{BestMove}
use Rattle.shogi_session.specs.declared.best_move.BestMove.TheVariants as best
use Rattle.bridge_table.specs.declared.event.Out.{Out as Answered}
use Rattle.bridge_table.specs.declared.event.Status.{Status}
use Rattle.bridge_table.specs.declared.event.Status.TheVariants.{Going, Failed}
use Rattle.bridge_table.specs.declared.fault.SessionFault.TheVariants.{EngineGone}
use Rattle.bridge_table.specs.declared.state.Answer.{Answer}
use Rattle.bridge_table.specs.declared.state.Answer.TheVariants.{Move, Toryo, Kachi}
use Rattle.shogi_session.specs.declared.phase.Play.{Play as Own}
use Rattle.shogi_session.specs.declared.phase.GameStage.{GameStage as OwnStage}
use Rattle.shogi_session.specs.declared.phase.GameStage.TheVariants as stages
use Rattle.shogi_session.specs.declared.phase.GameStage.TheVariants.{Playing as OwnPlaying}
use Rattle.bridge_table.specs.declared.state.ClientState.TheVariants as clients
use Rattle.bridge_table.specs.declared.state.EngineState.{EngineState}
use Rattle.bridge_table.specs.declared.state.EngineState.TheVariants.{New, Greeting, Readying, Ready, Thinking, Ended as EngineEnded}
use Rattle.shogi_session.specs.BestMoves.{TellsBestMove}
use Rattle.bridge_table.specs.Events.{Event, begin, engine_line, engine_end, Out, no_lines, engine}
use Rattle.bridge_table.specs.GameSoFar.{game_of}
use Rattle.shogi_session.specs.Phases.{Reacts, Stays, Same, answer_for, going, match_in, play_client, staged}
use Rattle.bridge_table.specs.Promises.{before}
use Rattle.bridge_table.specs.Row.{TableRow, IsUnnamed, in_table, unnamed, IsBestMove, answer_text, login_line, failed}
use Rattle.bridge_table.specs.Row as row
use Rattle.bridge_table.specs.State.{Match, Client, playing, sent, logging_in, State, client_state, position_now, slip_of}
use Rattle.session_lines.specs.Texts.{text_of, ended_line}
use Rattle.session_lines.proofs.OneLine.{one_text}
use Rattle.shogi_session.proofs.Unnamed.{engine_deaf, engine_over}

-- 1. Any row
abbrev pub state : EngineState → Client → Status → State
state engine client status = record { engine = engine; client = client; status = status }

pub by_row : (c : Config) (engine engine_after : EngineState) (client client_after : Client) (e : Event) (o : Answered) (out : Out) (z : Status)
    → TableRow c (going engine client) e out (state engine_after client_after z) → o.status ≡ z
    → o.to_engine ≡ text_of out.to_engine → o.to_server ≡ text_of out.to_server → Reacts c engine client e o engine_after client_after
by_row c engine engine_after client client_after e o out z r s h k =
    (out, in_table (refl, subst (λ x. TableRow c (going engine client) e out (state engine_after client_after x)) (sym s) r), h, k)

pub by_none : (c : Config) (engine : EngineState) (client : Client) (e : Event) (o : Answered)
    → IsUnnamed c (going engine client) e → o.to_engine ≡ [] → o.to_server ≡ [] → o.status ≡ Going → Reacts c engine client e o engine client
by_none c engine client e o u h k s = (no_lines, unnamed u refl (ap (state engine client) s), h, k)

pub still : (c : Config) (known engine engine_after : EngineState) (client client_after : Client) (e : Event) (o : Answered)
    → IsUnnamed c (going known client) e → engine ≡ known → engine_after ≡ engine → client_after ≡ client
    → o.to_engine ≡ [] → o.to_server ≡ [] → o.status ≡ Going → Reacts c engine client e o engine_after client_after
still c known engine engine_after client client_after e o u at f g h k s =
    subst (λ x. Reacts c engine client e o x client_after) (sym f) (subst (λ x. Reacts c engine client e o engine x) (sym g)
    (by_none c engine client e o (subst (λ x. IsUnnamed c (going x client) e) (sym at) u) h k s))

-- nothing has changed, as memory ran out
pub stays : (c : Config) (engine engine_after : EngineState) (client client_after : Client) (e : Event)
    → Same engine client engine_after client_after → Stays c engine client e engine_after client_after
stays c engine engine_after client client_after e h =
    record { engine_stays = h.0; client_stays = ap client_state h.1; slip_stays = ap slip_of h.1; game = before (ap game_of h.1) }

-- 2. Before a game
pub begun : (c : Config) (engine : EngineState) (client : Client) (o : Answered) → engine ≡ New
    → o.to_engine ≡ ended_line (codes "usi") → o.to_server ≡ [] → o.status ≡ Going → Reacts c engine client begin o Greeting client
begun c engine client o at h k s = by_row c engine Greeting client client begin o _ Going (row.begins at refl refl refl) s (h ∙ one_text (codes "usi")) k

pub greeted : (c : Config) (engine : EngineState) (client : Client) (line : List ℕ) (o : Answered) → engine ≡ Greeting → LineSays (words line) UsiOk
    → o.to_engine ≡ ended_line (codes "isready") → o.to_server ≡ [] → o.status ≡ Going
    → Reacts c engine client (engine_line line) o Readying client
greeted c engine client line o at ok h k s =
    by_row c engine Readying client client (engine_line line) o _ Going (row.greeted line at refl ok refl refl) s (h ∙ one_text (codes "isready")) k

pub readied : (c : Config) (engine : EngineState) (client : Client) (line : List ℕ) (o : Answered) → engine ≡ Readying → LineSays (words line) ReadyOk
    → o.to_engine ≡ [] → o.to_server ≡ ended_line (login_line c) → o.status ≡ Going
    → Reacts c engine client (engine_line line) o Ready logging_in
readied c engine client line o at ok h k s =
    by_row c engine Ready client logging_in (engine_line line) o _ Going (row.readied line at refl ok refl refl) s h (k ∙ one_text (login_line c))

-- 3. Answers to `go`
abbrev slip_after : BestMove → Bool → Bool
slip_after (best.Answer answer) earlier = earlier
slip_after best.Slip earlier = true

pub slip_is : (b : BestMove) (earlier slip : Bool) → (b ≡ best.Slip → slip ≡ true) → ((answer : Answer) → b ≡ best.Answer answer → slip ≡ earlier) → slip ≡ slip_after b earlier
slip_is (best.Answer answer) earlier slip slips answers = answers answer refl
slip_is best.Slip earlier slip slips answers = slips refl

answered : (c : Config) (engine : EngineState) (client : Client) (g : Match) (line : List ℕ) (b : BestMove) (o : Answered)
    → engine ≡ Thinking → client ≡ playing g → TellsBestMove (position_now g) line b
    → o.to_engine ≡ [] → o.to_server ≡ ended_line (answer_text g.client (answer_for b)) → o.status ≡ Going
    → Reacts c engine client (engine_line line) o Ready (sent (record g { slip = slip_after b g.slip }) (answer_for b))
answered c engine client g line (best.Answer (Move m)) o at here a h k s =
    by_row c engine Ready client _ (engine_line line) o _ Going
    (row.engine_moves g line a.0 m at here refl a.1 (record { word_is = a.2; legal = a.3 }) refl refl) s h (k ∙ one_text (answer_text g.client (Move m)))
answered c engine client g line (best.Answer Toryo) o at here a h k s =
    by_row c engine Ready client _ (engine_line line) o _ Going (row.engine_resigns g line at here refl a refl refl) s h
    (k ∙ one_text (answer_text g.client Toryo))
answered c engine client g line (best.Answer Kachi) o at here a h k s =
    by_row c engine Ready client _ (engine_line line) o _ Going (row.engine_wins g line at here refl a refl refl) s h
    (k ∙ one_text (answer_text g.client Kachi))
answered c engine client g line best.Slip o at here a h k s =
    by_row c engine Ready client _ (engine_line line) o _ Going
    (row.engine_slips g line a.0 at here refl a.1 (record { no_move = λ m l. a.2 m l.word_is l.legal; not_resign = a.3; not_win = a.4 }) refl refl) s h
    (k ∙ one_text (answer_text g.client Toryo))

pub answered_play : (c : Config) (engine : EngineState) (p : Own) (line : List ℕ) (b : BestMove) (o : Answered) (now : Placed) (answer : Answer) (slip : Bool)
    → engine ≡ Thinking → p.stage ≡ OwnPlaying → now ≡ position_now (match_in p) → TellsBestMove now line b → answer ≡ answer_for b → (b ≡ best.Slip → slip ≡ true) → ((a : Answer) → b ≡ best.Answer a → slip ≡ p.slip)
    → o.to_engine ≡ [] → o.to_server ≡ ended_line (answer_text p.client answer) → o.status ≡ Going
    → Reacts c engine (play_client p) (engine_line line) o Ready (sent (record (match_in p) { slip = slip }) answer)
answered_play c engine p line b o now answer slip at here position says answer_is slips answers h k s =
    subst (λ x. Reacts c engine (play_client p) (engine_line line) o Ready (sent (record (match_in p) { slip = slip }) x)) (sym answer_is)
    (subst (λ x. Reacts c engine (play_client p) (engine_line line) o Ready (sent (record (match_in p) { slip = x }) (answer_for b))) (sym (slip_is b p.slip slip slips answers))
    (answered c engine (play_client p) (match_in p) line b o at (ap (staged (match_in p) p.game) here) (subst (λ x. TellsBestMove x line b) position says) h
    (subst (λ x. o.to_server ≡ ended_line (answer_text p.client x)) answer_is k) s))

pub late : (c : Config) (engine : EngineState) (client : Client) (line word : List ℕ) (o : Answered) → engine ≡ Thinking
    → (client_state client ≡ clients.Playing → ⊥) → IsBestMove line word
    → o.to_engine ≡ [] → o.to_server ≡ [] → o.status ≡ Going → Reacts c engine client (engine_line line) o Ready client
late c engine client line word o at other best h k s =
    by_row c engine Ready client client (engine_line line) o _ Going (row.engine_late line word at other refl best refl refl) s h k

by_stage : (g : Match) (game : Game) (stage : OwnStage) → (stage ≡ OwnPlaying → ⊥) → client_state (staged g game stage) ≡ clients.Playing → ⊥
by_stage g game stages.Playing other e = other refl
by_stage g game (stages.Sent a) other e = cc
by_stage g game (stages.Reason stated) other e = cc
by_stage g game (stages.Closing stated end) other e = cc
by_stage g game (stages.Ended stated end) other e = cc

pub not_playing : (p : Own) → (p.stage ≡ OwnPlaying → ⊥) → client_state (play_client p) ≡ clients.Playing → ⊥
not_playing p other = by_stage (match_in p) p.game p.stage other

pub deaf : (c : Config) (engine : EngineState) (client : Client) (line : List ℕ) → (engine ≡ New) ⊎ ((engine ≡ Ready) ⊎ (engine ≡ EngineEnded))
    → IsUnnamed c (going engine client) (engine_line line)
deaf c New client line h = engine_deaf c New client line (λ e. cc) (λ e. cc) (λ e. cc)
deaf c Ready client line h = engine_deaf c Ready client line (λ e. cc) (λ e. cc) (λ e. cc)
deaf c EngineEnded client line h = engine_deaf c EngineEnded client line (λ e. cc) (λ e. cc) (λ e. cc)
deaf c Greeting client line h = elim h [ inl e ↦ cc | inr k ↦ elim k [ inl e ↦ cc | inr e ↦ cc ] ]
deaf c Readying client line h = elim h [ inl e ↦ cc | inr k ↦ elim k [ inl e ↦ cc | inr e ↦ cc ] ]
deaf c Thinking client line h = elim h [ inl e ↦ cc | inr k ↦ elim k [ inl e ↦ cc | inr e ↦ cc ] ]

-- 4. The end of the engine
pub engine_gone : (c : Config) (engine : EngineState) (client : Client) (o : Answered) → (engine ≡ EngineEnded → ⊥)
    → o.to_engine ≡ [] → o.to_server ≡ [] → o.status ≡ Failed EngineGone → Reacts c engine client engine_end o engine client
engine_gone c engine client o other h k s = by_row c engine engine client client engine_end o _ _ (row.engine_gone other refl refl refl) s h k

pub over : (c : Config) (engine : EngineState) (client : Client) (o : Answered) → engine ≡ EngineEnded
    → o.to_engine ≡ [] → o.to_server ≡ [] → o.status ≡ Going → Reacts c engine client engine_end o engine client
over c engine client o at h k s = still c EngineEnded engine engine client client engine_end o (engine_over c client) at refl refl h k s

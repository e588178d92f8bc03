-- How the answers to lines of the server in play, and at its end, are rows of the table.
use Rattle.std.proofs.Common.{◌≡◌, ℕ, ◌++◌, ◌⊎◌, inl, inr, Bool, true, false, List, [], ◌∷◌, Option, Some, None, is_some, Result, Ok, Err, MatchResult, codes, refl, sym, ap, subst, ◌∙◌}
use Rattle.shogi_board.specs.declared.color.Color.{Color}
use Rattle.shogi_board.specs.declared.memory.OutOfMemory.{OutOfMemory}
use Rattle.shogi_rules.specs.declared.line.PlayFault.{PlayFault}
use Rattle.shogi_rules.specs.declared.line.PlayFault.TheVariants as play
use Rattle.shogi_board.specs.declared.moves.Move as shogi
use Rattle.shogi_rules.specs.Play.{Answers}
use Rattle.shogi_rules.specs.Positions.{Played}
use Rattle.csa_text.specs.declared.fault.TextFault.{TextFault}
use Rattle.record_game.specs.declared.fault.Why.{Why}
use Rattle.record_game.specs.declared.fault.Why.TheVariants as causes
use Rattle.csa_record.specs.Game.{Game, Timed, Ended}
use Rattle.bridge_table.specs.declared.config.Config.{Config}
use Rattle.bridge_table.specs.declared.event.Out.{Out as Answered}
use Rattle.bridge_table.specs.declared.event.Status.TheVariants.{Going, Failed}
use Rattle.bridge_table.specs.declared.fault.MoveCause.TheVariants.{Refused, Unsent}
use Rattle.bridge_table.specs.declared.fault.SessionFault.TheVariants.{BadServerMove}
use Rattle.bridge_table.specs.declared.state.Answer.TheVariants as given
use Rattle.shogi_session.specs.declared.phase.Play.{Play as Own}
use Rattle.shogi_session.specs.declared.phase.GameStage.{GameStage as OwnStage}
use Rattle.shogi_session.specs.declared.phase.GameStage.TheVariants as stages
use Rattle.shogi_session.specs.declared.phase.EndReport.{EndReport}
use Rattle.bridge_table.specs.declared.state.EngineState.{EngineState}
use Rattle.bridge_table.specs.declared.state.EngineState.TheVariants.{Ended as EngineEnded}
use Rattle.shogi_session.specs.Asked.{IsAsked, engine_after}
use Rattle.shogi_session.specs.declared.asking.Question.{Question}
use Rattle.shogi_session.specs.declared.asking.Question.TheVariants.{Asked, NotAsked}
use Rattle.bridge_table.specs.Asking.{asked, not_asked}
use Rattle.bridge_table.specs.Events.{Event, server_line, engine}
use Rattle.bridge_table.specs.GameSoFar.{ending_of, game_of}
use Rattle.session_lines.specs.MoveLines.{is_move_line}
use Rattle.record_game.specs.PlayFaults.{why_of}
use Rattle.shogi_session.specs.Phases.{Confirms, PlayGoesOn, IsAskText, IsOn, IsPlay, KeepsEnding, Reacts, Same, Stays, TellsEnd, closed, finish_of, kept_of, match_in, play_client, staged, waiting_in}
use Rattle.bridge_table.specs.Promises.{after}
use Rattle.bridge_table.specs.Row.{Play, in_play, before_result, in_table, IsRefused, IsExpected, Judged, gameover_line, with_reason}
use Rattle.bridge_table.specs.Row as row
use Rattle.session_lines.specs.declared.server_words.GameResult.{GameResult}
use Rattle.session_lines.specs.declared.server_words.EndReason.{EndReason}
use Rattle.session_lines.specs.ServerLines.{is_ending_line, is_hash_line, outcome_of, TellsEnding, TellsTimed, FirstTextFault}
use Rattle.session_lines.specs.ServerLines as lines
use Rattle.bridge_table.specs.State.{Match, Finish, Client, playing, reason, closing, client_state, slip_of, match_line, game_with, with_move}
use Rattle.session_lines.specs.Texts.{text_of}
use Rattle.bridge_table.proofs.AlwaysAsks.{some_ask}
use Rattle.shogi_session.proofs.EngineRows.{by_row, state, still, stays}
use Rattle.shogi_session.proofs.GameEnds.{kept_again}
use Rattle.bridge_table.proofs.Tied.{may_follow, legal_more}
use Rattle.shogi_session.proofs.Unnamed.{other_in_play}

-- 1. A game in play
abbrev pub play_of : Own → Play
play_of p = record { game = match_in p; waiting = waiting_in p.stage }

in_play_by : (g : Match) (game : Game) (stage : OwnStage) → IsOn stage → in_play (staged g game stage) ≡ Some (record { game = g; waiting = waiting_in stage })
in_play_by g game stages.Playing on = refl
in_play_by g game (stages.Sent (given.Move m)) on = refl
in_play_by g game (stages.Sent given.Toryo) on = refl
in_play_by g game (stages.Sent given.Kachi) on = refl
in_play_by g game (stages.Reason stated) on = absurd on
in_play_by g game (stages.Closing stated end) on = absurd on
in_play_by g game (stages.Ended stated end) on = absurd on

in_play_of : (p : Own) → IsOn p.stage → in_play (play_client p) ≡ Some (play_of p)
in_play_of p on = in_play_by (match_in p) p.game p.stage on

game_by : (g : Match) (game : Game) (stage : OwnStage) → IsOn stage → game_of (staged g game stage) ≡ Some g.game
game_by g game stages.Playing on = refl
game_by g game (stages.Sent a) on = refl
game_by g game (stages.Reason stated) on = absurd on
game_by g game (stages.Closing stated end) on = absurd on
game_by g game (stages.Ended stated end) on = absurd on

pub slip_by : (g : Match) (game : Game) (stage : OwnStage) → slip_of (staged g game stage) ≡ g.slip
slip_by g game stages.Playing = refl
slip_by g game (stages.Sent a) = refl
slip_by g game (stages.Reason stated) = refl
slip_by g game (stages.Closing stated end) = refl
slip_by g game (stages.Ended stated end) = refl

state_by : (g k : Match) (game other : Game) (stage : OwnStage) → client_state (staged g game stage) ≡ client_state (staged k other stage)
state_by g k game other stages.Playing = refl
state_by g k game other (stages.Sent a) = refl
state_by g k game other (stages.Reason stated) = refl
state_by g k game other (stages.Closing stated end) = refl
state_by g k game other (stages.Ended stated end) = refl

abbrev ending_in : Option Game → Option Ended
ending_in None = None
ending_in (Some g) = g.ending

no_ending : (p : Own) → IsOn p.stage → IsPlay p → p.game.ending ≡ None
no_ending p on h = sym (ap ending_in (sym (game_by (match_in p) p.game p.stage on) ∙ h.game))

-- 2. What was said of its end
open_ending : (client : Color) (k : Option Ended) (why : Option EndReason) → ending_of client k why None ≡ k
open_ending client None why = refl
open_ending client (Some k) why = refl

kept_by : (p : Own) (stage : OwnStage) (stated : EndReport) → TellsEnd stage stated → game_of (staged (match_in p) p.game stage) ≡ Some p.game
    → kept_of stated.ending p.game.ending ≡ p.game.ending
kept_by p stages.Playing stated t h = ap (λ (x : EndReport). kept_of x.ending p.game.ending) t ∙ ap ending_in h
kept_by p (stages.Sent a) stated t h = ap (λ (x : EndReport). kept_of x.ending p.game.ending) t ∙ ap ending_in h
kept_by p (stages.Reason first) stated t h =
    ap (λ (x : EndReport). kept_of x.ending p.game.ending) t
    ∙ (sym (open_ending p.client (kept_of first.ending p.game.ending) first.reason) ∙ ap ending_in h)
kept_by p (stages.Closing first end) stated t h = absurd t
kept_by p (stages.Ended first end) stated t h = absurd t

kept_so : (p : Own) (stated : EndReport) → TellsEnd p.stage stated → IsPlay p → kept_of stated.ending p.game.ending ≡ p.game.ending
kept_so p stated t h = kept_by p p.stage stated t h.game

before_by : (g : Match) (game : Game) (stage : OwnStage) (stated : EndReport) → TellsEnd stage stated → before_result (staged g game stage) ≡ Some (g, finish_of game stated)
before_by g game stages.Playing stated t = ap (λ (x : EndReport). Some (g, finish_of game x)) (sym t)
before_by g game (stages.Sent a) stated t = ap (λ (x : EndReport). Some (g, finish_of game x)) (sym t)
before_by g game (stages.Reason first) stated t = ap (λ (x : EndReport). Some (g, finish_of game x)) (sym t)
before_by g game (stages.Closing first end) stated t = absurd t
before_by g game (stages.Ended first end) stated t = absurd t

abbrev finish : Option Ended → Option EndReason → Finish
finish kept why = record { kept = kept; reason = why }

-- 3. A reason
pub reason_row : (c : Config) (engine : EngineState) (p new : Own) (stated later : EndReport) (line : List ℕ) (why : EndReason) (o : Answered)
    → TellsEnd p.stage stated → is_hash_line line ≡ true → outcome_of line ≡ None
    → ((game : Game) → finish_of game later ≡ with_reason (finish_of game stated) why) → why ≡ lines.reason_of line
    → new ≡ record p { stage = stages.Reason later }
    → o.to_engine ≡ [] → o.to_server ≡ [] → o.status ≡ Going
    → Reacts c engine (play_client p) (server_line line) o engine (play_client new)
reason_row c engine p new stated later line why o t hash none stated_so why_is is h k s =
    let finished : finish_of p.game later ≡ with_reason (finish_of p.game stated) (lines.reason_of line) =
    stated_so p.game ∙ ap (λ (x : EndReason). with_reason (finish_of p.game stated) x) why_is in
    let now : Reacts c engine (play_client p) (server_line line) o engine (reason (match_in p) (with_reason (finish_of p.game stated) (lines.reason_of line))) =
    by_row c engine engine (play_client p) _ (server_line line) o _ Going
    (row.reason_stated (match_in p) (finish_of p.game stated) line (before_by (match_in p) p.game p.stage stated t) refl hash none refl refl) s h k in
    subst (λ (x : Own). Reacts c engine (play_client p) (server_line line) o engine (play_client x)) (sym is)
    (subst (λ (f : Finish). Reacts c engine (play_client p) (server_line line) o engine (reason (match_in p) f)) (sym finished) now)

-- 4. A result
abbrev ended_play : Own → Option EndReason → EndReport → GameResult → Own
ended_play p why later r = record p { game = closed p why r; stage = stages.Closing later r }

finish_later : (p : Own) (why : Option EndReason) (later : EndReport) (r : GameResult) → later.ending ≡ is_some p.game.ending → later.reason ≡ why
    → finish_of (closed p why r) later ≡ finish p.game.ending why
finish_later p why later r has same =
    let kept : kept_of later.ending (ending_of p.client p.game.ending why (Some r)) ≡ p.game.ending =
    ap (λ b. kept_of b (ending_of p.client p.game.ending why (Some r))) has
    ∙ kept_again p.client p.game.ending why r in
    ap (λ x. finish x later.reason) kept ∙ ap (λ x. finish p.game.ending x) same

pub result_row : (c : Config) (engine : EngineState) (p new : Own) (stated later : EndReport) (line : List ℕ) (r : GameResult) (o : Answered)
    → TellsEnd p.stage stated → IsPlay p → outcome_of line ≡ Some r
    → later.ending ≡ is_some p.game.ending → later.reason ≡ stated.reason → new ≡ ended_play p stated.reason later r
    → o.to_engine ≡ text_of (gameover_line r ∷ codes "quit" ∷ []) → o.to_server ≡ text_of (codes "LOGOUT" ∷ []) → o.status ≡ Going
    → Reacts c engine (play_client p) (server_line line) o EngineEnded (play_client new)
result_row c engine p new stated later line r o t h end has same is to_engine to_server s =
    let finished : finish_of (closed p stated.reason r) later ≡ finish_of p.game stated =
    finish_later p stated.reason later r has same ∙ ap (λ x. finish x stated.reason) (sym (kept_so p stated t h)) in
    let now : Reacts c engine (play_client p) (server_line line) o EngineEnded (closing (match_in p) (finish_of p.game stated) r) =
    by_row c engine EngineEnded (play_client p) _ (server_line line) o _ Going
    (row.result_stated (match_in p) (finish_of p.game stated) line r (before_by (match_in p) p.game p.stage stated t) refl end refl refl) s to_engine to_server in
    subst (λ (x : Own). Reacts c engine (play_client p) (server_line line) o EngineEnded (play_client x)) (sym is)
    (subst (λ (f : Finish). Reacts c engine (play_client p) (server_line line) o EngineEnded (closing (match_in p) f r)) (sym finished) now)

-- 5. Asking
pub open_match : (p : Own) → p.game.ending ≡ None → (match_in p).game ≡ p.game
open_match p none = ap (λ (x : Option Ended). record p.game { ending = x }) (sym none)

ask_text : (c : Config) (g : Match) (engine later : EngineState) (question : Question) (text : List ℕ) → IsAsked c g question text
    → later ≡ engine_after question engine → IsAskText c g engine text later
ask_text c g engine later Asked text h e = (h.1, asked h.0 h.2 e, h.3)
ask_text c g engine later NotAsked text h e = ([], not_asked h.0 refl e, h.1)

pub goes_on : (c : Config) (engine later : EngineState) (p : Own) (before text : List ℕ) (question : Question) (o : Answered)
    → IsAsked c (match_in p) question text → later ≡ engine_after question engine
    → o.to_engine ≡ before ++ text → o.to_server ≡ [] → o.status ≡ Going → PlayGoesOn c engine p before o later (record p { stage = stages.Playing })
goes_on c engine later p before text question o h e to_engine to_server s = record {
  play = refl;
  text = text;
  asked = ask_text c (match_in p) engine later question text h e;
  to_engine = to_engine;
  to_server = to_server;
  status = s;
}

-- 6. A move
-- the result of playing it on the line of the match
pub answers_so : (g : Match) (played : Played) (color : Color) (m : shogi.Move) (found answer : Option PlayFault) → played ≡ match_line g → found ≡ answer
    → Answers played color m found → Answers (match_line g) color m answer
answers_so g played color m found answer same is a =
    subst (λ (x : Option PlayFault). Answers (match_line g) color m x) is (subst (λ (x : Played). Answers x color m found) same a)

refused_row : (c : Config) (engine : EngineState) (p : Own) (line : List ℕ) (why : Why) (o : Answered) → IsOn p.stage → is_move_line line ≡ true
    → IsRefused (match_in p) line why → o.to_engine ≡ [] → o.to_server ≡ [] → o.status ≡ Failed (BadServerMove (Refused why))
    → Reacts c engine (play_client p) (server_line line) o engine (play_client p)
refused_row c engine p line why o on sign r h k s =
    by_row c engine engine (play_client p) (play_client p) (server_line line) o _ _
    (row.move_refused (play_of p) line why (in_play_of p on) refl sign r refl refl) s h k

pub text_refused : (c : Config) (engine : EngineState) (p : Own) (line : List ℕ) (fault : TextFault) (why : Why) (o : Answered) → IsOn p.stage → is_move_line line ≡ true
    → FirstTextFault line fault → why ≡ causes.Text fault → o.to_engine ≡ [] → o.to_server ≡ [] → o.status ≡ Failed (BadServerMove (Refused why))
    → Reacts c engine (play_client p) (server_line line) o engine (play_client p)
text_refused c engine p line fault why o on sign first is h k s = refused_row c engine p line why o on sign (row.text_fault fault first is) h k s

refused_by : (g : Match) (line : List ℕ) (color : Color) (m : Timed) (fault : PlayFault) → Judged g line color m (Some fault) → IsRefused g line (why_of fault)
refused_by g line color m play.TooManyMoves j = row.too_many color m j refl
refused_by g line color m (play.Broken rule) j = row.breaks color m rule j refl
refused_by g line color m play.OutOfMemory j = absurd j.answers

pub move_refused : (c : Config) (engine : EngineState) (p : Own) (line : List ℕ) (color : Color) (m : Timed) (fault : PlayFault) (why : Why) (o : Answered) → IsOn p.stage
    → is_move_line line ≡ true → TellsTimed line color m → Answers (match_line (match_in p)) color m.move (Some fault) → why ≡ why_of fault
    → o.to_engine ≡ [] → o.to_server ≡ [] → o.status ≡ Failed (BadServerMove (Refused why))
    → Reacts c engine (play_client p) (server_line line) o engine (play_client p)
move_refused c engine p line color m fault why o on sign tells a is h k s =
    refused_row c engine p line why o on sign
    (subst (λ (w : Why). IsRefused (match_in p) line w) (sym is) (refused_by (match_in p) line color m fault (record { stated = tells; answers = a }))) h k s

pub move_unsent : (c : Config) (engine : EngineState) (p : Own) (line : List ℕ) (color : Color) (m : Timed) (o : Answered) → IsOn p.stage → is_move_line line ≡ true
    → TellsTimed line color m → Answers (match_line (match_in p)) color m.move None → (IsExpected (play_of p) color m → ⊥)
    → o.to_engine ≡ [] → o.to_server ≡ [] → o.status ≡ Failed (BadServerMove Unsent)
    → Reacts c engine (play_client p) (server_line line) o engine (play_client p)
move_unsent c engine p line color m o on sign tells a other h k s =
    by_row c engine engine (play_client p) (play_client p) (server_line line) o _ _
    (row.move_unsent (play_of p) line color m (in_play_of p on) refl sign (record { stated = tells; answers = a }) other refl refl) s h k

-- 7. A confirmed move
abbrev moved : Own → Timed → Own
moved p m = record p { game = game_with p.game (m ∷ []) }

keeps_moved : (p : Own) (color : Color) (m : Timed) (stage : OwnStage) → IsOn stage → IsOn p.stage → IsPlay p → Answers (match_line (match_in p)) color m.move None
    → IsPlay (record (moved p m) { stage = stage })
keeps_moved p color m stage on was h a = record {
  game = game_by (match_in (moved p m)) (game_with p.game (m ∷ [])) stage on
      ∙ ap (λ (x : Option Ended). Some (record (game_with p.game (m ∷ [])) { ending = x })) (sym (no_ending p was h));
  legal = legal_more p.game m h.legal (may_follow (match_in p) color m.move a);
}

confirmed_row : (c : Config) (old later : EngineState) (p new : Own) (line : List ℕ) (color : Color) (m : Timed) (o : Answered) → IsOn p.stage → is_move_line line ≡ true
    → Judged (match_in p) line color m None → IsExpected (play_of p) color m → PlayGoesOn c old (moved p m) [] o later new
    → Reacts c old (play_client p) (server_line line) o later (play_client new)
confirmed_row c old later p new line color m o on sign j own h =
    let asking = h.asked in
    let now : Reacts c old (play_client p) (server_line line) o later (playing (with_move (match_in p) m)) =
    by_row c old later (play_client p) (playing (with_move (match_in p) m)) (server_line line) o _ Going
    (row.move_confirmed (play_of p) line color m asking.0 later (in_play_of p on) refl sign j own asking.1 refl refl) h.status (h.to_engine ∙ asking.2) h.to_server in
    subst (λ (x : Own). Reacts c old (play_client p) (server_line line) o later (play_client x)) (sym h.play) now

stays_moved : (c : Config) (old : EngineState) (p : Own) (line : List ℕ) (color : Color) (m : Timed) → IsOn p.stage → IsPlay p → is_move_line line ≡ true
    → Judged (match_in p) line color m None → IsExpected (play_of p) color m
    → Stays c old (play_client p) (server_line line) old (play_client (moved p m))
stays_moved c old p line color m on h sign j own =
    let legal = legal_more p.game m h.legal (may_follow (match_in p) color m.move j.answers) in
    let asking = some_ask c (with_move (match_in p) m) old legal in
    record {
      engine_stays = refl;
      client_stays = state_by (match_in (moved p m)) (match_in p) (game_with p.game (m ∷ [])) p.game p.stage;
      slip_stays = slip_by (match_in (moved p m)) (game_with p.game (m ∷ [])) p.stage ∙ sym (slip_by (match_in p) p.game p.stage);
      game = after (engine asking.0) (state asking.1 (playing (with_move (match_in p) m)) Going)
          (in_table (refl, row.move_confirmed (play_of p) line color m asking.0 asking.1 (in_play_of p on) refl sign j own asking.2 refl refl))
          (game_by (match_in (moved p m)) (game_with p.game (m ∷ [])) p.stage on);
    }

stays_so : (c : Config) (old later : EngineState) (p new : Own) (line : List ℕ) (color : Color) (m : Timed) → IsOn p.stage → IsPlay p → is_move_line line ≡ true
    → Judged (match_in p) line color m None → IsExpected (play_of p) color m → later ≡ old → (new ≡ p) ⊎ (new ≡ moved p m)
    → Stays c old (play_client p) (server_line line) later (play_client new)
stays_so c old later p new line color m on h sign j own same (inl e) =
    stays c old later (play_client p) (play_client new) (server_line line) (same, ap play_client e)
stays_so c old later p new line color m on h sign j own same (inr e) =
    subst (λ (x : EngineState). Stays c old (play_client p) (server_line line) x (play_client new)) (sym same)
    (subst (λ (x : Own). Stays c old (play_client p) (server_line line) old (play_client x)) (sym e) (stays_moved c old p line color m on h sign j own))

pub confirmed : (c : Config) (old later : EngineState) (p new : Own) (line : List ℕ) (color : Color) (m : Timed) (r : Result Answered OutOfMemory) → IsOn p.stage → IsPlay p
    → is_move_line line ≡ true → TellsTimed line color m → Answers (match_line (match_in p)) color m.move None → IsExpected (play_of p) color m → Confirms c old p m r later new
    → MatchResult r (λ out. Reacts c old (play_client p) (server_line line) out later (play_client new))
    (λ fault. Stays c old (play_client p) (server_line line) later (play_client new))
confirmed c old later p new line color m (Ok o) on h sign tells a own k = confirmed_row c old later p new line color m o on sign (record { stated = tells; answers = a }) own k
confirmed c old later p new line color m (Err fault) on h sign tells a own k =
    stays_so c old later p new line color m on h sign (record { stated = tells; answers = a }) own k.0 k.1

pub keeps_confirmed : (c : Config) (old later : EngineState) (p new : Own) (color : Color) (m : Timed) (r : Result Answered OutOfMemory) → IsOn p.stage → IsPlay p
    → Answers (match_line (match_in p)) color m.move None → Confirms c old p m r later new → IsPlay new
keeps_confirmed c old later p new color m (Ok o) on h a k = subst IsPlay (sym k.play) (keeps_moved p color m stages.Playing tt on h a)
keeps_confirmed c old later p new color m (Err fault) on h a k =
    elim k.1 [
      | inl e ↦ subst IsPlay (sym e) h
      | inr e ↦ subst IsPlay (sym e) (keeps_moved p color m p.stage on on h a)
    ]

-- 8. A line in play
pub stays_same : (c : Config) (old later : EngineState) (client client_after : Client) (e : Event) (r : Result Answered OutOfMemory)
    → MatchResult r (λ out. Reacts c old client e out later client_after) (λ fault. Same old client later client_after)
    → MatchResult r (λ out. Reacts c old client e out later client_after) (λ fault. Stays c old client e later client_after)
stays_same c old later client client_after e (Ok o) h = h
stays_same c old later client client_after e (Err fault) h = stays c old later client client_after e h

clash : (b : Bool) → b ≡ false → b ≡ true → ⊥
clash b e f = cc

pub ending_row : (c : Config) (engine : EngineState) (p new : Own) (line : List ℕ) (o : Answered) → IsOn p.stage → is_move_line line ≡ false → is_hash_line line ≡ false
    → is_ending_line line ≡ true → KeepsEnding p line new → o.to_engine ≡ [] → o.to_server ≡ [] → o.status ≡ Going
    → Reacts c engine (play_client p) (server_line line) o engine (play_client new)
ending_row c engine p new line o on move hash sign (inl k) h t s =
    let now : Reacts c engine (play_client p) (server_line line) o engine (reason (match_in p) (finish (Some k.0) None)) =
    by_row c engine engine (play_client p) _ (server_line line) o _ Going
    (row.ending_stated (play_of p) line k.0 (in_play_of p on) refl sign k.1 refl refl) s h t in
    subst (λ (x : Own). Reacts c engine (play_client p) (server_line line) o engine (play_client x)) (sym k.2) now
ending_row c engine p new line o on move hash sign (inr k) h t s =
    still c _ engine engine (play_client p) (play_client new) (server_line line) o
    (other_in_play c engine (play_client p) (play_of p) line (in_play_of p on) move hash (λ is kept stated. k.0 kept stated)) refl refl (ap play_client k.1) h t s

pub other_row : (c : Config) (engine : EngineState) (p : Own) (line : List ℕ) (o : Answered) → IsOn p.stage → is_move_line line ≡ false → is_hash_line line ≡ false
    → is_ending_line line ≡ false → o.to_engine ≡ [] → o.to_server ≡ [] → o.status ≡ Going
    → Reacts c engine (play_client p) (server_line line) o engine (play_client p)
other_row c engine p line o on move hash ending h t s =
    still c _ engine engine (play_client p) (play_client p) (server_line line) o
    (other_in_play c engine (play_client p) (play_of p) line (in_play_of p on) move hash (λ is kept stated. clash (is_ending_line line) ending is)) refl refl refl h t s

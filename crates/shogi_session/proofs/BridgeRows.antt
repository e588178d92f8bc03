-- How the calls of a bridge keep what they promise.
use Rattle.std.proofs.Common.{◌≡◌, ℕ, length, List, Some, None, refl, sym, ap, subst, ◌∙◌}
use Rattle.csa_record.specs.Canon.{canon}
use Rattle.bridge_table.specs.declared.config.Config.{Config}
use Rattle.bridge_table.specs.declared.event.Out.{Out as Answered}
use Rattle.bridge_table.specs.declared.event.Status.{Status}
use Rattle.bridge_table.specs.declared.event.Status.TheVariants.{Going}
use Rattle.shogi_session.specs.declared.phase.Phase.{Phase}
use Rattle.shogi_session.specs.declared.phase.Phase.TheVariants as phases
use Rattle.shogi_session.specs.declared.offer.GameOffer.{GameOffer}
use Rattle.shogi_session.specs.declared.phase.Play.{Play as Own}
use Rattle.bridge_table.specs.declared.state.EngineState.{EngineState}
use Rattle.csa_record.specs.Game.{Game}
use Rattle.bridge_table.specs.Events.{Event, Out, no_lines, trimmed}
use Rattle.bridge_table.specs.GameSoFar.{HasMoves, game_of}
use Rattle.shogi_session.specs.Phases.{IsPhase, Reacts, Stays, client_of, going}
use Rattle.bridge_table.specs.Promises.{IsGameText, game_text, no_game, Session, Steps, KeepsGame, before, after}
use Rattle.bridge_table.specs.Row.{Row, unnamed}
use Rattle.bridge_table.specs.State.{Client, State}
use Rattle.session_lines.specs.Texts.{text_of}
use Rattle.bridge_table.proofs.RowOnce.{row_once}
use Rattle.shogi_session.proofs.Unnamed.{stopped}

-- 1. game_text
text_of_game : (s : State) (x : Phase) (g : Game) (text : List ℕ) → s.client ≡ client_of x → game_of (client_of x) ≡ Some g → text ≡ canon g → IsGameText s (Some text)
text_of_game s x g text at has same = subst (λ t. IsGameText s (Some t)) (sym same) (game_text g (ap game_of at ∙ has))

pub text_of_offer : (s : State) (x : Phase) (o : GameOffer) (text : List ℕ) → s.client ≡ client_of x → x ≡ phases.Agreeing o → text ≡ canon o.game → IsGameText s (Some text)
text_of_offer s x o text at is same = text_of_game s x o.game text at (ap (λ y. game_of (client_of y)) is) same

pub text_stated : (s : State) (x : Phase) (p : Own) (text : List ℕ) → s.client ≡ client_of x → x ≡ phases.InGame p → IsPhase x → text ≡ canon p.game → IsGameText s (Some text)
text_stated s x p text at is keeps same = text_of_game s x p.game text at (ap (λ y. game_of (client_of y)) is ∙ (subst IsPhase is keeps).game) same

nothing_stated : (x : Phase) → ((o : GameOffer) → x ≡ phases.Agreeing o → ⊥) → ((p : Own) → x ≡ phases.InGame p → ⊥) → game_of (client_of x) ≡ None
nothing_stated phases.Idle h k = refl
nothing_stated phases.LoggingIn h k = refl
nothing_stated phases.BeforeSummary h k = refl
nothing_stated (phases.Summary from_server) h k = refl
nothing_stated (phases.Agreeing o) h k = absurd (h o refl)
nothing_stated (phases.InGame p) h k = absurd (k p refl)

pub text_none : (s : State) (x : Phase) → s.client ≡ client_of x → ((o : GameOffer) → x ≡ phases.Agreeing o → ⊥) → ((p : Own) → x ≡ phases.InGame p → ⊥)
    → IsGameText s None
text_none s x at h k = no_game (ap game_of at ∙ nothing_stated x h k)

pub moves_of_offer : (client : Client) (x : Phase) (o : GameOffer) (n : ℕ) → client ≡ client_of x → x ≡ phases.Agreeing o → n ≡ length o.game.moves → HasMoves client n
moves_of_offer client x o n at is count = (o.game, ap game_of at ∙ ap (λ y. game_of (client_of y)) is, count)

pub moves_stated : (client : Client) (x : Phase) (p : Own) (n : ℕ) → client ≡ client_of x → x ≡ phases.InGame p → IsPhase x → n ≡ length p.game.moves → HasMoves client n
moves_stated client x p n at is keeps count = (p.game, ap game_of at ∙ ap (λ y. game_of (client_of y)) is ∙ (subst IsPhase is keeps).game, count)

pub no_moves : (client : Client) (x : Phase) → client ≡ client_of x → ((o : GameOffer) → x ≡ phases.Agreeing o → ⊥) → ((p : Own) → x ≡ phases.InGame p → ⊥)
    → game_of client ≡ None
no_moves client x at h k = ap game_of at ∙ nothing_stated x h k

-- 2. step
-- the game that is kept does not depend on the status after it
lost_game : (c : Config) (engine engine_after : EngineState) (client client_after : Client) (z : Status) (e : Event)
    → KeepsGame c (going engine client) e (going engine_after client_after)
    → KeepsGame c (going engine client) e (record { engine = engine_after; client = client_after; status = z })
lost_game c engine engine_after client client_after z e (before h) = before h
lost_game c engine engine_after client client_after z e (after out u row h) = after out u row h

abbrev session : Config → EngineState → Client → Status → Session
session c engine client status = record { config = c; state = record { engine = engine; client = client; status = status } }

pub stepped : (c : Config) (engine engine_after : EngineState) (client client_after : Client) (z : Status) (old new : Session) (e : Event) (o : Answered)
    → old ≡ session c engine client z → z ≡ Going → new ≡ session c engine_after client_after o.status
    → Reacts c engine client (trimmed e) o engine_after client_after → Steps old e o.to_engine o.to_server o.status new
stepped c engine engine_after client client_after z old new e o was goes is r =
    let at : old ≡ session c engine client Going = was ∙ ap (session c engine client) goes in
    subst (λ (x : Session). Steps x e o.to_engine o.to_server o.status new) (sym at)
    (subst (λ (x : Session). Steps (session c engine client Going) e o.to_engine o.to_server o.status x) (sym is)
    (record { out = r.0; row = r.1; config = refl; engine_text = r.2; server_text = r.3; status_is = refl }))

-- once the session is over
pub over_row : (c : Config) (s t : State) (e : Event) → t ≡ s → (s.status ≡ Going → ⊥) → Row c s e no_lines t
over_row c s t e same ended = unnamed (stopped c s e ended) refl same

-- the bytes of a row's lines are those of any row's, as there is one
pub engine_stated : (c : Config) (s t : State) (e : Event) (o out : Out) (text : List ℕ) → Row c s e o t → text ≡ text_of o.to_engine
    → Row c s e out t → text ≡ text_of out.to_engine
engine_stated c s t e o out text row is other = is ∙ ap (λ (x : Out). text_of x.to_engine) (row_once c s t t e o out row other).0

pub server_stated : (c : Config) (s t : State) (e : Event) (o out : Out) (text : List ℕ) → Row c s e o t → text ≡ text_of o.to_server
    → Row c s e out t → text ≡ text_of out.to_server
server_stated c s t e o out text row is other = is ∙ ap (λ (x : Out). text_of x.to_server) (row_once c s t t e o out row other).0

-- if an allocation fails
pub lost : (c : Config) (engine engine_after : EngineState) (client client_after : Client) (z z_after : Status) (old new : Session) (e : Event)
    → old ≡ session c engine client z → z ≡ Going → new ≡ session c engine_after client_after z_after
    → Stays c engine client (trimmed e) engine_after client_after → KeepsGame old.config old.state (trimmed e) new.state
lost c engine engine_after client client_after z z_after old new e was goes is h =
    let at : old ≡ session c engine client Going = was ∙ ap (session c engine client) goes in
    subst (λ (x : Session). KeepsGame x.config x.state (trimmed e) new.state) (sym at)
    (subst (λ (x : Session). KeepsGame c (going engine client) (trimmed e) x.state) (sym is)
    (lost_game c engine engine_after client client_after z_after (trimmed e) h.game))

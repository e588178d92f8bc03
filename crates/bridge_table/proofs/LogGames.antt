-- The game that a bridge has played so far is that of its log.
use Rattle.std.proofs.Common.{◌≡◌, ◌↔◌, ◌⊎◌, inl, inr, ◌++◌, Bool, true, false, List, [], ◌∷◌, Option, Some, None, refl, sym, ap, subst, ◌∙◌}
use Rattle.std.specs.List.{list_any}
use Rattle.std.proofs.lemmas.List.{append-nil}
use Rattle.shogi_board.specs.declared.color.Color.{Color}
use Rattle.record_game.specs.Game.{Game, Timed, Ended}
use Rattle.bridge_table.specs.declared.config.Config.{Config}
use Rattle.bridge_table.specs.Events.{Event, Out}
use Rattle.bridge_table.specs.GameSoFar.{ending_of, ended_game, game_of}
use Rattle.bridge_table.specs.Logs.{Step, Leads, next, counted, is_sound, following, Moved, Confirmed, game_confirmed, IsKeptEnding, reason_in, result_in, GameOf, TellsGame}
use Rattle.bridge_table.specs.Promises.{KeepsGame, before, after}
use Rattle.bridge_table.specs.Row.{Row}
use Rattle.session_lines.specs.declared.server_words.GameResult.{GameResult}
use Rattle.session_lines.specs.declared.server_words.EndReason.{EndReason}
use Rattle.bridge_table.specs.State.{Match, Finish, Client, idle, logging_in, before_summary, summary, agreeing, playing, sent, reason, closing, ended, State}
use Rattle.bridge_table.specs.Summary.{Offer, TellsSummary}
use Rattle.bridge_table.proofs.AlwaysAsks.{offer_plain}
use Rattle.bridge_table.proofs.ConfirmedOnce.{confirmed_once, rest_once}
use Rattle.bridge_table.proofs.Courses.{Steps, Lines, agrees, hears_start, Agreed, confirmed_of, confirmed_first, summary_of, started_of}
use Rattle.session_lines.proofs.LinesRead.{ending_once}
use Rattle.bridge_table.proofs.Onward.{step, counted_out, log_tied}
use Rattle.bridge_table.proofs.Testing.{NoneOf, HasOne, any_has, any_none}
use Rattle.bridge_table.proofs.Tied.{Tied, InPlay, IsOver}

-- 1. the game of a state
plain : (ls : Lines) (o : Offer) → TellsSummary ls o → (o.game.ending ≡ None) × (o.game.headers ≡ [])
plain ls o h = offer_plain h.2.text o.game h.2.position

abbrev with_ending : Game → Option Ended → Game
with_ending g e = record g { ending = e }

in_play_stated : (log : Steps) (client : Color) (game : Game) (a waiting : Lines) → InPlay (counted log) client game a waiting → GameOf log game
in_play_stated log client game a waiting h = record {
  offer = h.offer;
  moved = h.moved;
  confirmed = confirmed_of log client game h.taken [] h.offer h.moved h.course;
  kept = None;
  keeps = refl;
  game = h.course.game_is ∙ ap (with_ending (game_confirmed h.offer h.moved)) (plain (summary_of (counted log)) h.offer h.course.agreed.stated).0;
}

agreed_stated : (log : Steps) (o : Offer) → Agreed (counted log) o → NoneOf hears_start (following agrees (counted log)) → GameOf log o.game
agreed_stated log o agreed none = record {
  offer = o;
  moved = [];
  confirmed = confirmed_first log o agreed none;
  kept = None;
  keeps = refl;
  game =
      ap (λ (ms : List Timed). record o.game { moves = ms }) (sym (append-nil o.game.moves))
      ∙ ap (with_ending (game_confirmed o [])) (plain (summary_of (counted log)) o agreed.stated).0;
}

over_stated : (log : Steps) (g : Match) (a : Lines) (f : Finish) (result : Option GameResult) → IsOver (counted log) g.client g.game a f result → GameOf log (ended_game g f result)
over_stated log g a f result h =
    let lines = h.line ∷ h.rest in
    let stated = game_confirmed h.offer h.moved in
    record {
      offer = h.offer;
      moved = h.moved;
      confirmed = confirmed_of log g.client g.game h.taken lines h.offer h.moved h.course;
      kept = f.kept;
      keeps = h.stated.kept;
      game =
          ap (λ (x : Game). with_ending x (ending_of g.client f.kept f.reason result)) h.course.game_is
          ∙ (ap (λ (c : Color). with_ending stated (ending_of c f.kept f.reason result)) h.course.client_is
          ∙ (ap (λ (why : Option EndReason). with_ending stated (ending_of h.offer.client f.kept why result)) h.stated.reason
          ∙ ap (λ (r : Option GameResult). with_ending stated (ending_of h.offer.client f.kept (reason_in lines) r)) h.stated.result_is));
    }

abbrev Found : Steps → Option Game → Type 0
Found log None = (o : Offer) (moved : List Moved) → Confirmed log o moved → ⊥
Found log (Some g) = GameOf log g

found : (log : Steps) (a : Lines) (c : Client) → Tied (counted log) a c → Found log (game_of c)
found log a idle h = λ o moved k. any_none agrees (counted log) h.0.none k.agreed
found log a logging_in h = λ o moved k. any_none agrees (counted log) h.0.none k.agreed
found log a before_summary h = λ o moved k. any_none agrees (counted log) h.0.none k.agreed
found log a (summary x) h = λ o moved k. any_none agrees (counted log) h.0.none k.agreed
found log a (agreeing o) h = agreed_stated log o h.1 h.2
found log a (playing g) h = in_play_stated log g.client g.game a _ h
found log a (sent g x) h = in_play_stated log g.client g.game a _ h
found log a (reason g f) h = over_stated log g a f None h
found log a (closing g f o) h = over_stated log g a f (Some o) h
found log a (ended g f o) h = over_stated log g a f (Some o) h

-- 2. a log has one game
kept_once : (rest : Lines) (a b : Option Ended) → IsKeptEnding rest a → IsKeptEnding rest b → a ≡ b
kept_once [] a b h k = h ∙ sym k
kept_once (l ∷ ls) None None h k = refl
kept_once (l ∷ ls) None (Some e) h k = absurd (h (k.0, e, k.1))
kept_once (l ∷ ls) (Some e) None h k = absurd (k (h.0, e, h.1))
kept_once (l ∷ ls) (Some d) (Some e) h k = ap Some (ending_once l d e h.1 k.1)

abbrev game_by : Offer → List Moved → Option Ended → Lines → Game
game_by o moved kept rest = with_ending (game_confirmed o moved) (ending_of o.client kept (reason_in rest) (result_in rest))

pub game_once : (log : Steps) (g h : Game) → GameOf log g → GameOf log h → g ≡ h
game_once log g h a b =
    let same = confirmed_once log a.offer b.offer a.moved b.moved a.confirmed b.confirmed in
    let rest = rest_once log a.offer b.offer a.moved b.moved a.confirmed b.confirmed in
    let kept = kept_once b.confirmed.rest a.kept b.kept (subst (λ ls. IsKeptEnding ls a.kept) rest a.keeps) b.keeps in
    a.game
    ∙ (ap (λ (o : Offer). game_by o a.moved a.kept a.confirmed.rest) same.0
    ∙ (ap (λ (ms : List Moved). game_by b.offer ms a.kept a.confirmed.rest) same.1
    ∙ (ap (λ (k : Option Ended). game_by b.offer b.moved k a.confirmed.rest) kept
    ∙ (ap (game_by b.offer b.moved b.kept) rest ∙ sym b.game))))

-- 3. the game of a log
abbrev Is : Option Game → Steps → Type 0
Is o log = (g : Game) → (o ≡ Some g) ↔ GameOf log g

same_some : (g h : Game) → Some g ≡ Some h → g ≡ h
same_some g h e = cc

is_found : (log : Steps) (o : Option Game) → Found log o → Is o log
is_found log None none = λ g. (λ e. absurd cc, λ h. absurd (none h.offer h.moved h.confirmed))
is_found log (Some x) stated = λ g. (λ e. subst (GameOf log) (same_some x g e) stated, λ h. ap Some (game_once log x g stated h))

pub game_so_far : (c : Config) (log : Steps) (s : State) → Leads c log s → TellsGame s.client log
game_so_far c log s leads = is_found log (game_of s.client) (found log _ s.client (log_tied c log s leads).0)

not_sent : (b : Bool) → (b ≡ true → ⊥) → b ≡ false
not_sent true h = absurd (h refl)
not_sent false h = refl

-- there is none exactly until AGREE is sent
abbrev NoneTill : Steps → Option Game → Type 0
NoneTill log o = (o ≡ None) ↔ (list_any agrees (counted log) ≡ false)

none_yet : (log : Steps) → NoneOf agrees (counted log) → NoneTill log None
none_yet log none = (λ e. not_sent (list_any agrees (counted log)) (any_none agrees (counted log) none), λ e. refl)

some_since : (log : Steps) (g : Game) → HasOne agrees (counted log) → NoneTill log (Some g)
some_since log g has = (λ e. absurd cc, λ e. let f = any_has agrees (counted log) has in absurd cc)

none_till : (log : Steps) (a : Lines) (c : Client) → Tied (counted log) a c → NoneTill log (game_of c)
none_till log a idle h = none_yet log h.0.none
none_till log a logging_in h = none_yet log h.0.none
none_till log a before_summary h = none_yet log h.0.none
none_till log a (summary x) h = none_yet log h.0.none
none_till log a (agreeing o) h = some_since log _ h.1.has
none_till log a (playing g) h = some_since log _ h.course.agreed.has
none_till log a (sent g x) h = some_since log _ h.course.agreed.has
none_till log a (reason g f) h = some_since log _ h.course.agreed.has
none_till log a (closing g f o) h = some_since log _ h.course.agreed.has
none_till log a (ended g f o) h = some_since log _ h.course.agreed.has

pub none_stated : (c : Config) (log : Steps) (s : State) → Leads c log s → (game_of s.client ≡ None) ↔ (list_any agrees (counted log) ≡ false)
none_stated c log s leads = none_till log _ s.client (log_tied c log s leads).0

-- the same for a log of which the same steps count
abbrev confirmed_over : (log other : Steps) (o : Offer) (moved : List Moved) → counted log ≡ counted other → Confirmed log o moved → Confirmed other o moved
confirmed_over log other o moved e h = record {
  agreed = rw (← e) h.agreed;
  stated = subst (λ k. TellsSummary (summary_of k) o) e h.stated;
  taken = h.taken;
  rest = h.rest;
  lines_are = record { whole = ap started_of (sym e) ∙ h.lines_are.whole; goes_on = h.lines_are.goes_on; ends = h.lines_are.ends };
  spelt = h.spelt;
}

game_over : (log other : Steps) (g : Game) → counted log ≡ counted other → GameOf log g → GameOf other g
game_over log other g e h = record {
  offer = h.offer;
  moved = h.moved;
  confirmed = confirmed_over log other h.offer h.moved e h.confirmed;
  kept = h.kept;
  keeps = h.keeps;
  game = h.game;
}

pub fault_stated : (log : Steps) (x : Step) → is_sound x.status ≡ false → (g : Game) → GameOf (log ++ x ∷ []) g ↔ GameOf log g
fault_stated log x failed g =
    let same = counted_out log x failed in
    (game_over (log ++ x ∷ []) log g same, game_over log (log ++ x ∷ []) g (sym same))

pub lost_stated : (c : Config) (log : Steps) (s t : State) (e : Event) → Leads c log s → KeepsGame c s e t
    → TellsGame t.client log ⊎ ((out : Out) × (u : State) × Row c s e out u × TellsGame t.client (log ++ step e out u.status ∷ []))
lost_stated c log s t e leads kept =
    elim kept [
      | before same ↦ inl (subst (λ o. Is o log) (sym same) (game_so_far c log s leads))
      | after out u row same ↦
          let more = log ++ step e out u.status ∷ [] in
          inr (out, u, row, subst (λ o. Is o more) (sym same) (game_so_far c more u (next log s e out u leads row)))
    ]

pub no_headers_stated : (log : Steps) (g : Game) → GameOf log g → g.headers ≡ []
no_headers_stated log g h = ap (λ (x : Game). x.headers) h.game ∙ (plain _ h.offer h.confirmed.stated).1

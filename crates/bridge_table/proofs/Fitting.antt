-- The engine's state beside each state of the client.
use Rattle.std.proofs.Common.{◌≡◌, ℕ, List, Some, None, refl, ◌∙◌, inl, inr, ap, subst}
use Rattle.std.specs.Prelude.{◌≢◌}
use Rattle.shogi_board.specs.declared.color.Color.{Color}
use Rattle.record_game.specs.Game.{Timed}
use Rattle.bridge_table.specs.declared.config.Config.{Config}
use Rattle.bridge_table.specs.declared.state.ClientState.TheVariants as clients
use Rattle.bridge_table.specs.declared.state.EngineState.{EngineState}
use Rattle.bridge_table.specs.declared.state.EngineState.TheVariants.{New, Greeting, Readying, Ready, Thinking, Ended as EngineEnded}
use Rattle.bridge_table.specs.Asking.{MayAsk, Asks, asked, not_asked}
use Rattle.bridge_table.specs.Events.{Out, Event}
use Rattle.bridge_table.specs.Logs.{Step, Leads, new, next}
use Rattle.bridge_table.specs.Row.{Play, in_play, before_result, Judged, IsExpected, TableRow, in_table, unnamed}
use Rattle.bridge_table.specs.Row as row
use Rattle.bridge_table.specs.State.{Match, Finish, Client, idle, logging_in, before_summary, summary, agreeing, playing, sent, reason, closing, ended, State, client_state, position_now}

abbrev IsFirst : EngineState → Type 0
IsFirst New = Unit {0}
IsFirst Greeting = Unit {0}
IsFirst Readying = Unit {0}
IsFirst Ready = ⊥
IsFirst Thinking = ⊥
IsFirst EngineEnded = ⊥

abbrev IsReady : EngineState → Type 0
IsReady New = ⊥
IsReady Greeting = ⊥
IsReady Readying = ⊥
IsReady Ready = Unit {0}
IsReady Thinking = ⊥
IsReady EngineEnded = ⊥

-- it thinks only if it may be asked
abbrev PlaysIn : Match → EngineState → Type 0
PlaysIn g New = ⊥
PlaysIn g Greeting = ⊥
PlaysIn g Readying = ⊥
PlaysIn g Ready = Unit {0}
PlaysIn g Thinking = MayAsk g
PlaysIn g EngineEnded = ⊥

abbrev IsLater : EngineState → Type 0
IsLater New = ⊥
IsLater Greeting = ⊥
IsLater Readying = ⊥
IsLater Ready = Unit {0}
IsLater Thinking = Unit {0}
IsLater EngineEnded = Unit {0}

abbrev pub Fits : Client → EngineState → Type 0
Fits idle e = IsFirst e
Fits logging_in e = IsReady e
Fits before_summary e = IsReady e
Fits (summary h) e = IsReady e
Fits (agreeing o) e = IsReady e
Fits (playing g) e = PlaysIn g e
Fits (sent g a) e = IsReady e × ((position_now g).side ≡ g.client)
Fits (reason g f) e = IsLater e
Fits (closing g f o) e = IsLater e
Fits (ended g f o) e = IsLater e

abbrev pub FitsState : State → Type 0
FitsState s = Fits s.client s.engine

first_ready : (e : EngineState) → IsFirst e → IsReady e → ⊥
first_ready New h k = k
first_ready Greeting h k = k
first_ready Readying h k = k
first_ready Ready h k = h
first_ready Thinking h k = h
first_ready EngineEnded h k = h

first_plays : (g : Match) (e : EngineState) → IsFirst e → PlaysIn g e → ⊥
first_plays g New h k = k
first_plays g Greeting h k = k
first_plays g Readying h k = k
first_plays g Ready h k = h
first_plays g Thinking h k = h
first_plays g EngineEnded h k = h

first_later : (e : EngineState) → IsFirst e → IsLater e → ⊥
first_later New h k = k
first_later Greeting h k = k
first_later Readying h k = k
first_later Ready h k = h
first_later Thinking h k = h
first_later EngineEnded h k = h

ready_plays : (g : Match) (e : EngineState) → IsReady e → PlaysIn g e
ready_plays g New h = absurd h
ready_plays g Greeting h = absurd h
ready_plays g Readying h = absurd h
ready_plays g Ready h = tt
ready_plays g Thinking h = absurd h
ready_plays g EngineEnded h = absurd h

ready_later : (e : EngineState) → IsReady e → IsLater e
ready_later New h = absurd h
ready_later Greeting h = absurd h
ready_later Readying h = absurd h
ready_later Ready h = tt
ready_later Thinking h = absurd h
ready_later EngineEnded h = absurd h

plays_later : (g : Match) (e : EngineState) → PlaysIn g e → IsLater e
plays_later g New h = absurd h
plays_later g Greeting h = absurd h
plays_later g Readying h = absurd h
plays_later g Ready h = tt
plays_later g Thinking h = tt
plays_later g EngineEnded h = absurd h

-- before the engine is ready, nothing was sent to the server
pub idle_only : (k : Client) (e : EngineState) → Fits k e → IsFirst e → k ≡ idle
idle_only idle e h f = refl
idle_only logging_in e h f = absurd (first_ready e f h)
idle_only before_summary e h f = absurd (first_ready e f h)
idle_only (summary x) e h f = absurd (first_ready e f h)
idle_only (agreeing o) e h f = absurd (first_ready e f h)
idle_only (playing g) e h f = absurd (first_plays g e f h)
idle_only (sent g a) e h f = absurd (first_ready e f h.0)
idle_only (reason g x) e h f = absurd (first_later e f h)
idle_only (closing g x o) e h f = absurd (first_later e f h)
idle_only (ended g x o) e h f = absurd (first_later e f h)

no_play : (p : Play) → None ≡ Some p → ⊥
no_play p e = cc

play_later : (k : Client) (e : EngineState) (p : Play) → Fits k e → in_play k ≡ Some p → IsLater e
play_later idle e p h is = absurd (no_play p is)
play_later logging_in e p h is = absurd (no_play p is)
play_later before_summary e p h is = absurd (no_play p is)
play_later (summary x) e p h is = absurd (no_play p is)
play_later (agreeing o) e p h is = absurd (no_play p is)
play_later (playing g) e p h is = plays_later g e h
play_later (sent g a) e p h is = ready_later e h.0
play_later (reason g x) e p h is = absurd (no_play p is)
play_later (closing g x o) e p h is = absurd (no_play p is)
play_later (ended g x o) e p h is = absurd (no_play p is)

no_result : (x : Match × Finish) → None ≡ Some x → ⊥
no_result x e = cc

result_later : (k : Client) (e : EngineState) (x : Match × Finish) → Fits k e → before_result k ≡ Some x → IsLater e
result_later idle e x h is = absurd (no_result x is)
result_later logging_in e x h is = absurd (no_result x is)
result_later before_summary e x h is = absurd (no_result x is)
result_later (summary y) e x h is = absurd (no_result x is)
result_later (agreeing o) e x h is = absurd (no_result x is)
result_later (playing g) e x h is = plays_later g e h
result_later (sent g a) e x h is = ready_later e h.0
result_later (reason g f) e x h is = h
result_later (closing g f o) e x h is = absurd (no_result x is)
result_later (ended g f o) e x h is = absurd (no_result x is)

late_ready : (k : Client) → client_state k ≢ clients.Playing → Fits k Thinking → Fits k Ready
late_ready idle n h = absurd h
late_ready logging_in n h = absurd h
late_ready before_summary n h = absurd h
late_ready (summary x) n h = absurd h
late_ready (agreeing o) n h = absurd h
late_ready (playing g) n h = absurd (n refl)
late_ready (sent g a) n h = absurd h.0
late_ready (reason g f) n h = tt
late_ready (closing g f o) n h = tt
late_ready (ended g f o) n h = tt

-- a move that is accepted is of the side to move
pub right_side : (g : Match) (line : List ℕ) (color : Color) (m : Timed) → Judged g line color m None → color ≡ (position_now g).side
right_side g line color m j = elim j.answers.1 [
  | inl wrong ↦ let e = wrong.1 in cc
  | inr right ↦ right.0
]

-- while a move is accepted, the engine does not think
taken_thinking : (g : Match) (p : Play) (line : List ℕ) (color : Color) (m : Timed) → MayAsk g → Some (record { game = g; waiting = None }) ≡ Some p
    → Judged p.game line color m None → IsExpected p color m → ⊥
taken_thinking g p line color m may is j own =
    let same : record { game = g; waiting = None } ≡ p = cc in
    let game : g ≡ p.game = ap (λ (q : Play). q.game) same in
    let waits : None ≡ p.waiting = ap (λ (q : Play). q.waiting) same in
    let side = right_side p.game line color m j in
    let turn : (position_now p.game).side ≡ p.game.client = subst (λ (h : Match). (position_now h).side ≡ h.client) game may.to_move in
    let expected = own (side ∙ turn) in
    cc

plays_ready : (g : Match) (e : EngineState) (p : Play) (line : List ℕ) (color : Color) (m : Timed) → PlaysIn g e → Some (record { game = g; waiting = None }) ≡ Some p
    → Judged p.game line color m None → IsExpected p color m → IsReady e
plays_ready g New p line color m h is j own = absurd h
plays_ready g Greeting p line color m h is j own = absurd h
plays_ready g Readying p line color m h is j own = absurd h
plays_ready g Ready p line color m h is j own = tt
plays_ready g Thinking p line color m h is j own = absurd (taken_thinking g p line color m h is j own)
plays_ready g EngineEnded p line color m h is j own = absurd h

taken_ready : (k : Client) (e : EngineState) (p : Play) (line : List ℕ) (color : Color) (m : Timed) → Fits k e → in_play k ≡ Some p
    → Judged p.game line color m None → IsExpected p color m → IsReady e
taken_ready idle e p line color m h is j own = absurd (no_play p is)
taken_ready logging_in e p line color m h is j own = absurd (no_play p is)
taken_ready before_summary e p line color m h is j own = absurd (no_play p is)
taken_ready (summary x) e p line color m h is j own = absurd (no_play p is)
taken_ready (agreeing o) e p line color m h is j own = absurd (no_play p is)
taken_ready (playing g) e p line color m h is j own = plays_ready g e p line color m h is j own
taken_ready (sent g a) e p line color m h is j own = h.0
taken_ready (reason g f) e p line color m h is j own = absurd (no_play p is)
taken_ready (closing g f o) e p line color m h is j own = absurd (no_play p is)
taken_ready (ended g f o) e p line color m h is j own = absurd (no_play p is)

asked_fits : (c : Config) (g : Match) (old : EngineState) (lines : List (List ℕ)) (now : EngineState) → IsReady old → Asks c g old lines now → PlaysIn g now
asked_fits c g old lines now h asks = elim asks [
  | asked may ls e ↦ rw e may
  | not_asked never ls e ↦ rw e (ready_plays g old h)
]

first_stays : (k : Client) (old now : EngineState) → Fits k old → IsFirst old → IsFirst now → Fits k now
first_stays k old now h f g = rw (idle_only k old h f) g

row_fits : (c : Config) (s : State) (e : Event) (out : Out) (t : State) → FitsState s → TableRow c s e out t → FitsState t
row_fits c s e out t fits r = elim r [
  | row.begins at ev o n ↦ rw n (first_stays s.client s.engine Greeting fits (rw at tt) tt)
  | row.greeted l at ev w o n ↦ rw n (first_stays s.client s.engine Readying fits (rw at tt) tt)
  | row.readied l at ev w o n ↦ rw n tt
  | row.login_taken l at ev w o n ↦ let h : IsReady s.engine = rw at at fits in rw n h
  | row.login_refused at ev o n ↦ rw n fits
  | row.summary_begins at ev o n ↦ let h : IsReady s.engine = rw at at fits in rw n h
  | row.summary_line ls l h later at ev w x y o n ↦ let k : IsReady s.engine = rw at at fits in rw n k
  | row.summary_ends h p at ev w o n ↦ let k : IsReady s.engine = rw at at fits in rw n k
  | row.summary_fails h at ev w o n ↦ rw n fits
  | row.started p l ls now at ev w asks o n ↦ let h : IsReady s.engine = rw at at fits in rw n (asked_fits c _ s.engine ls now h asks)
  | row.rejected p l at ev w o n ↦ rw n fits
  | row.engine_moves g l word m at k ev w v o n ↦ let h : MayAsk g = rw (k, at) at fits in rw n (tt, h.to_move)
  | row.engine_resigns g l at k ev w o n ↦ let h : MayAsk g = rw (k, at) at fits in rw n (tt, h.to_move)
  | row.engine_wins g l at k ev w o n ↦ let h : MayAsk g = rw (k, at) at fits in rw n (tt, h.to_move)
  | row.engine_slips g l word at k ev w v o n ↦ let h : MayAsk g = rw (k, at) at fits in rw n (tt, h.to_move)
  | row.engine_late l word at k ev w o n ↦ rw n (late_ready s.client k (rw at at fits))
  | row.move_refused p l cause at ev w v o n ↦ rw n fits
  | row.move_unsent p l color m at ev w j never o n ↦ rw n fits
  | row.move_confirmed p l color m ls now at ev w j own asks o n ↦
      rw n (asked_fits c _ s.engine ls now (taken_ready s.client s.engine p l color m fits at j own) asks)
  | row.ending_stated p l kept at ev w v o n ↦ rw n (play_later s.client s.engine p fits at)
  | row.reason_stated g f l at ev w v o n ↦ rw n (result_later s.client s.engine (g, f) fits at)
  | row.result_stated g f l q at ev w o n ↦ rw n tt
  | row.closes g f q at ev o n ↦ let h : IsLater s.engine = rw at at fits in rw n h
  | row.engine_gone at ev o n ↦ rw n fits
  | row.server_gone at k ev o n ↦ rw n fits
  | row.line_too_long ev o n ↦ rw n fits
]

pub log_fits : (c : Config) (log : List Step) (s : State) → Leads c log s → FitsState s
log_fits c log s new = tt
log_fits c log u (next before s e out t leads r) =
    let fits = log_fits c before s leads in
    elim r [
      | in_table h ↦ row_fits c s e out t fits h.1
      | unnamed none o n ↦ rw n fits
    ]

-- an engine that thinks in play may be asked
pub thinks_may_ask : (s : State) (g : Match) → FitsState s → s.engine ≡ Thinking → s.client ≡ playing g → MayAsk g
thinks_may_ask s g fits at k = rw (k, at) at fits

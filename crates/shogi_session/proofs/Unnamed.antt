-- The events to which no row of the table applies.
use Rattle.std.proofs.Common.{◌≡◌, ℕ, inl, inr, Bool, true, false, List, Some, None, codes, refl}
use Rattle.csa_record.specs.Game.{Ended}
use Rattle.usi_text.specs.declared.engine.EngineWord.TheVariants.{UsiOk, ReadyOk}
use Rattle.usi_text.specs.Engine.{LineSays}
use Rattle.usi_text.specs.Words.{words}
use Rattle.bridge_table.specs.declared.config.Config.{Config}
use Rattle.bridge_table.specs.declared.event.Status.TheVariants.{Going}
use Rattle.bridge_table.specs.declared.state.EngineState.{EngineState}
use Rattle.bridge_table.specs.declared.state.EngineState.TheVariants.{New, Greeting, Readying, Ready, Thinking, Ended as EngineEnded}
use Rattle.bridge_table.specs.Events.{Event, begin, engine_line, server_line, engine_end, server_end, Out}
use Rattle.session_lines.specs.MoveLines.{is_move_line}
use Rattle.shogi_session.specs.Phases.{going}
use Rattle.bridge_table.specs.Row.{IsUnnamed, IsBestMove, Play, in_play, before_result}
use Rattle.session_lines.specs.declared.server_words.GameResult.{GameResult}
use Rattle.session_lines.specs.ServerLines.{is_login_ok, is_start_line, is_reject_line, is_ending_line, is_hash_line, TellsEnding}
use Rattle.bridge_table.specs.State.{Match, Finish, Client, idle, logging_in, before_summary, summary, agreeing, playing, sent, reason, closing, ended, State}
use Rattle.bridge_table.specs.Summary.{Offer}
use Rattle.bridge_table.proofs.RowOnce.{StateRow, PlayRow, refuses, unsent, confirms, tells_end, starts, rejects, HashRow, hash_line, ServerRow, by_state, by_play, by_hash, EngineRow, Thinks, means, no_play, no_result, state_or_play}

pub stopped : (c : Config) (s : State) (e : Event) → (s.status ≡ Going → ⊥) → IsUnnamed c s e
stopped c s e other = λ out t r. other r.0

pub not_new : (c : Config) (engine : EngineState) (client : Client) → (engine ≡ New → ⊥) → IsUnnamed c (going engine client) begin
not_new c engine client other = λ out t r. other (means c (going engine client) begin out t r.1).0

-- 1. the engine
deaf : (c : Config) (s : State) (e : EngineState) (line : List ℕ) (out : Out) (t : State) → (e ≡ Greeting → ⊥) → (e ≡ Readying → ⊥) → (e ≡ Thinking → ⊥)
    → EngineRow c s e line out t → ⊥
deaf c s New line out t greets readies thinks r = r
deaf c s Greeting line out t greets readies thinks r = greets refl
deaf c s Readying line out t greets readies thinks r = readies refl
deaf c s Ready line out t greets readies thinks r = r
deaf c s Thinking line out t greets readies thinks r = thinks refl
deaf c s EngineEnded line out t greets readies thinks r = r

pub engine_deaf : (c : Config) (engine : EngineState) (client : Client) (line : List ℕ) → (engine ≡ Greeting → ⊥) → (engine ≡ Readying → ⊥) → (engine ≡ Thinking → ⊥)
    → IsUnnamed c (going engine client) (engine_line line)
engine_deaf c engine client line greets readies thinks =
    λ out t r. deaf c (going engine client) engine line out t greets readies thinks (means c (going engine client) (engine_line line) out t r.1)

pub no_usiok : (c : Config) (client : Client) (line : List ℕ) → (LineSays (words line) UsiOk → ⊥) → IsUnnamed c (going Greeting client) (engine_line line)
no_usiok c client line other = λ out t r. other (means c (going Greeting client) (engine_line line) out t r.1).0

pub no_readyok : (c : Config) (client : Client) (line : List ℕ) → (LineSays (words line) ReadyOk → ⊥) → IsUnnamed c (going Readying client) (engine_line line)
no_readyok c client line other = λ out t r. other (means c (going Readying client) (engine_line line) out t r.1).0

best_of : (s : State) (k : Client) (line : List ℕ) (out : Out) (t : State) → Thinks s k line out t → (word : List ℕ) × IsBestMove line word
best_of s idle line out t h = (h.0, h.1)
best_of s logging_in line out t h = (h.0, h.1)
best_of s before_summary line out t h = (h.0, h.1)
best_of s (summary from_server) line out t h = (h.0, h.1)
best_of s (agreeing o) line out t h = (h.0, h.1)
best_of s (playing g) line out t h = (h.word, h.best)
best_of s (sent g a) line out t h = (h.0, h.1)
best_of s (reason g f) line out t h = (h.0, h.1)
best_of s (closing g f o) line out t h = (h.0, h.1)
best_of s (ended g f o) line out t h = (h.0, h.1)

pub no_bestmove : (c : Config) (client : Client) (line : List ℕ) → ((word : List ℕ) → IsBestMove line word → ⊥) → IsUnnamed c (going Thinking client) (engine_line line)
no_bestmove c client line other =
    λ out t r. let best = best_of (going Thinking client) client line out t (means c (going Thinking client) (engine_line line) out t r.1) in other best.0 best.1

pub engine_over : (c : Config) (client : Client) → IsUnnamed c (going EngineEnded client) engine_end
engine_over c client = λ out t r. (means c (going EngineEnded client) engine_end out t r.1).0 refl

-- 2. the server
pub server_over : (c : Config) (engine : EngineState) (g : Match) (f : Finish) (o : GameResult) → IsUnnamed c (going engine (ended g f o)) server_end
server_over c engine g f o = λ out t r. means c (going engine (ended g f o)) server_end out t r.1

clash : (b : Bool) → b ≡ false → b ≡ true → ⊥
clash b e f = cc

-- no row applies to a line of the server: neither by the state alone, nor in play, nor at its end
none_fits : (c : Config) (engine : EngineState) (client : Client) (line : List ℕ)
    → ((out : Out) (t : State) → StateRow c (going engine client) client line out t → ⊥)
    → ((p : Play) (out : Out) (t : State) → in_play client ≡ Some p → PlayRow c (going engine client) p line out t → ⊥)
    → ((g : Match) (f : Finish) (out : Out) (t : State) → before_result client ≡ Some (g, f) → HashRow (going engine client) g f line out t → ⊥)
    → IsUnnamed c (going engine client) (server_line line)
none_fits c engine client line state play hash = λ out t r.
    let row : ServerRow c (going engine client) line out t = means c (going engine client) (server_line line) out t r.1 in
    elim row [
      | by_state h ↦ state out t h
      | by_play p e h ↦ play p out t e h
      | by_hash g f e h ↦ hash g f out t e h
    ]

-- outside of play and its end only the state counts
outside : (c : Config) (engine : EngineState) (client : Client) (line : List ℕ) → in_play client ≡ None → before_result client ≡ None
    → ((out : Out) (t : State) → StateRow c (going engine client) client line out t → ⊥) → IsUnnamed c (going engine client) (server_line line)
outside c engine client line play result state =
    none_fits c engine client line state (λ p out t e h. let f : None ≡ Some p = rw (← play) e in no_play p f)
    (λ g x out t e h. let f : None ≡ Some (g, x) = rw (← result) e in no_result (g, x) f)

pub idle_line : (c : Config) (engine : EngineState) (line : List ℕ) → IsUnnamed c (going engine idle) (server_line line)
idle_line c engine line = outside c engine idle line refl refl (λ out t h. h)

pub other_login : (c : Config) (engine : EngineState) (line : List ℕ) → is_login_ok line ≡ false → (line ≡ codes "LOGIN:incorrect" → ⊥)
    → IsUnnamed c (going engine logging_in) (server_line line)
other_login c engine line ok incorrect =
    outside c engine logging_in line refl refl (λ out t h. elim h [ inl x ↦ clash (is_login_ok line) ok x.0 | inr x ↦ incorrect x.0 ])

pub other_begin : (c : Config) (engine : EngineState) (line : List ℕ) → (line ≡ codes "BEGIN Game_Summary" → ⊥)
    → IsUnnamed c (going engine before_summary) (server_line line)
other_begin c engine line other = outside c engine before_summary line refl refl (λ out t h. other h.0)

pub other_offer : (c : Config) (engine : EngineState) (o : Offer) (line : List ℕ) → is_start_line line ≡ false → is_reject_line line ≡ false
    → IsUnnamed c (going engine (agreeing o)) (server_line line)
other_offer c engine o line start reject =
    outside c engine (agreeing o) line refl refl
    (λ out t h. elim h [
      | starts ls now x asks gives ↦ clash (is_start_line line) start x
      | rejects x gives ↦ clash (is_reject_line line) reject x
    ])

pub other_in_play : (c : Config) (engine : EngineState) (client : Client) (p : Play) (line : List ℕ) → in_play client ≡ Some p → is_move_line line ≡ false
    → is_hash_line line ≡ false → (is_ending_line line ≡ true → (k : Ended) → TellsEnding line k → ⊥) → IsUnnamed c (going engine client) (server_line line)
other_in_play c engine client p line at move hash ending =
    none_fits c engine client line (λ out t h. state_or_play c (going engine client) client line out t p h at)
    (λ q out t e h. elim h [
      | refuses cause x why gives ↦ clash (is_move_line line) move x
      | unsent color m x j nope gives ↦ clash (is_move_line line) move x
      | confirms color m ls now x j own asks gives ↦ clash (is_move_line line) move x
      | tells_end kept x stated gives ↦ ending x kept stated
    ])
    (λ g f out t e h. clash (is_hash_line line) hash (hash_line (going engine client) g f line out t h))

pub other_reason : (c : Config) (engine : EngineState) (g : Match) (f : Finish) (line : List ℕ) → is_hash_line line ≡ false
    → IsUnnamed c (going engine (reason g f)) (server_line line)
other_reason c engine g f line hash =
    none_fits c engine (reason g f) line (λ out t h. h) (λ p out t e h. no_play p e)
    (λ y z out t e h. clash (is_hash_line line) hash (hash_line (going engine (reason g f)) y z line out t h))

pub other_closing : (c : Config) (engine : EngineState) (g : Match) (f : Finish) (o : GameResult) (line : List ℕ) → (line ≡ codes "LOGOUT:completed" → ⊥)
    → IsUnnamed c (going engine (closing g f o)) (server_line line)
other_closing c engine g f o line other = outside c engine (closing g f o) line refl refl (λ out t h. other h.0)

pub over_line : (c : Config) (engine : EngineState) (g : Match) (f : Finish) (o : GameResult) (line : List ℕ) → IsUnnamed c (going engine (ended g f o)) (server_line line)
over_line c engine g f o line = outside c engine (ended g f o) line refl refl (λ out t h. h)

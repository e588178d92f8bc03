-- For private functions: how the programs of a game are started, joined to a bridge, and ended.
use Rattle.std.specs.Prelude.{◌≡◌, ◌++◌, ℕ, List, [], ◌∷◌, Option, None, Some, codes, decimal, map, option_map}
use Rattle.std.specs.Borrow.{Bor}
use Rattle.record_commands.specs.Incoming.{Coming}
use Rattle.session_setup.specs.Faults.{IsFileFault}
use Rattle.session_commands.specs.Children.{IsEngineFault, IsServerFault}
use Rattle.session_commands.specs.Ports.{Explains, SaysNoPort, SaysPort}
use Rattle.session_commands.specs.declared.children.SessionEnd.{SessionEnd}
use Rattle.session_commands.specs.declared.children.SessionEnd.TheVariants.{BrokenOff}
use Rattle.session_setup.specs.declared.fault.MatchFault.{MatchFault}
use Rattle.session_setup.specs.declared.fault.MatchFault.TheVariants.{OutOfMemory}
use Rattle.shogi_words.specs.declared.play.Plan.{Plan}
use Rattle.shogi_words.specs.declared.play.ServerChoice.{ServerChoice}
use Rattle.shogi_words.specs.declared.play.ServerChoice.TheVariants.{Started, At}

-- the words of a server: one game of at most so many moves, on a port of its choice
abbrev pub serve_words : ℕ → List (List ℕ)
serve_words moves =
    codes "serve" ∷ codes "--port" ∷ codes "0" ∷ codes "--max" ∷ decimal moves ∷ []

-- the words of an engine, in order
abbrev pub engine_words : List (Bor (List ℕ)) → List (List ℕ)
engine_words words = map (λ word. word.now) words

-- the address of a port of this machine
abbrev pub local_address : ℕ → List ℕ
local_address port = codes "127.0.0.1:" ++ decimal port

-- a log was made: its name, the server of the game, and itself, if there is one
abbrev pub MakesLog : Type 0 → Type 0 → Type 1
MakesLog P L = P → Option (List ℕ) → ServerChoice → Option L → P → Type 0

-- it was not
abbrev pub MakesNoLog : Type 0 → Type 1
MakesNoLog P = P → Option (List ℕ) → ServerChoice → P → Type 0

-- the name of the log of a plan
abbrev pub log_name : Plan → Option (List ℕ)
log_name plan = option_map (λ name. name.now) plan.log

-- a server was started: its program and words, the child, and the lines of its output
abbrev pub Serves : Type 0 → Type 0 → Type 1
Serves P C = P → List ℕ → List (List ℕ) → C → Coming → P → Type 0

-- an engine was started: its program and words, the child, the lines of its output, and its input
abbrev pub Thinks : Type 0 → Type 0 → Type 0 → Type 1
Thinks P C I = P → List ℕ → List (List ℕ) → C → Coming → I → P → Type 0

-- a program was not started: it and its words
abbrev pub StartsNot : Type 0 → Type 1
StartsNot P = P → List ℕ → List (List ℕ) → P → Type 0

-- there is a connection: the address, the lines that come, and where lines go
abbrev pub Connects : Type 0 → Type 0 → Type 1
Connects P W = P → List ℕ → Coming → W → P → Type 0

-- there is none to this address
abbrev pub ConnectsNot : Type 0 → Type 1
ConnectsNot P = P → List ℕ → P → Type 0

-- a child was ended after a session that ended so
abbrev pub EndsProgram : Type 0 → Type 0 → Type 1
EndsProgram P C = P → C → SessionEnd → P → Type 0

-- there is a connection to the address, and then the plan's engine was started
pub record IsJoined {P C I W : Type 0} (thinks : Thinks P C I) (connects : Connects P W)
    (plan : Plan) (address : List ℕ) (p : P) (engine : C) (from_engine : Coming) (to_engine : I)
    (from_server : Coming) (to_server : W) (q : P) : Type 0 where
  pub between : P
  pub connected : connects p address from_server to_server between
  pub started : thinks between plan.engine.now (engine_words plan.engine_words.now)
      engine from_engine to_engine q

-- the server's first line says its port, and the engine was joined to that
pub record IsJoinedByPort {P C I W : Type 0} (thinks : Thinks P C I) (connects : Connects P W)
    (plan : Plan) (output : Coming) (p : P) (engine : C) (from_engine : Coming) (to_engine : I)
    (from_server : Coming) (to_server : W) (q : P) : Type 0 where
  pub port : ℕ
  pub says : SaysPort output port
  pub joined : IsJoined thinks connects
      plan (local_address port) p engine from_engine to_engine from_server to_server q

-- the plan's server is joined to the engine; it was started for a game of at most the plan's moves,
-- and is then the child at the end, or it runs at the plan's address
pub data IsStarted {P C I W : Type 0}
    (serves : Serves P C) (thinks : Thinks P C I) (connects : Connects P W)
    (plan : Plan) (p : P) (engine : C) (from_engine : Coming) (to_engine : I)
    (from_server : Coming) (to_server : W) (q : P) : Option C → Type 0 where
  by_port : (program : Bor (List ℕ)) (max_moves : ℕ) (server : C) (output : Coming) (between : P)
      → plan.server ≡ Started program max_moves
      → serves p program.now (serve_words max_moves) server output between
      → IsJoinedByPort thinks connects
      plan output between engine from_engine to_engine from_server to_server q
      → IsStarted serves thinks connects
      plan p engine from_engine to_engine from_server to_server q (Some server)
  by_address : (address : Bor (List ℕ)) → plan.server ≡ At address
      → IsJoined thinks connects
      plan address.now p engine from_engine to_engine from_server to_server q
      → IsStarted serves thinks connects
      plan p engine from_engine to_engine from_server to_server q None

-- the engine was not joined to the address, and no engine runs; with the fault that is reported
pub data IsApart {P W : Type 0} (connects : Connects P W) (connects_not : ConnectsNot P)
    (thinks_not : StartsNot P) (plan : Plan) (address : List ℕ) (p q : P)
    : MatchFault → Type 0 where
  no_connection : (fault : MatchFault) → connects_not p address q → IsServerFault fault
      → IsApart connects connects_not thinks_not plan address p q fault
  -- there was not enough memory for the words of the engine
  no_words : (lines : Coming) (writer : W) → connects p address lines writer q
      → IsApart connects connects_not thinks_not plan address p q OutOfMemory
  no_engine : (lines : Coming) (writer : W) (between : P) (fault : MatchFault)
      → connects p address lines writer between
      → thinks_not between plan.engine.now (engine_words plan.engine_words.now) q
      → IsEngineFault fault → IsApart connects connects_not thinks_not plan address p q fault

-- the engine was not joined to a server that is to say its port, and no engine runs; with the fault
-- that is reported
pub data IsPortless {P W : Type 0} (explained : Explains P) (connects : Connects P W)
    (connects_not : ConnectsNot P) (thinks_not : StartsNot P) (plan : Plan) (output rest : Coming)
    (p q : P) : MatchFault → Type 0 where
  no_port : (fault : MatchFault) → SaysNoPort explained output rest p q fault
      → IsPortless explained connects connects_not thinks_not plan output rest p q fault
  -- there was not enough memory for the address
  no_address : q ≡ p
      → IsPortless explained connects connects_not thinks_not plan output rest p q OutOfMemory
  not_joined : (port : ℕ) (fault : MatchFault) → SaysPort output port
      → IsApart connects connects_not thinks_not plan (local_address port) p q fault
      → IsPortless explained connects connects_not thinks_not plan output rest p q fault

-- there is no game, and no program runs: the server was not started, or was started and then ended
-- at once, or it runs and was not joined; with the fault that is reported
pub data IsUnstarted {P C W : Type 0} (serves : Serves P C) (serves_not : StartsNot P)
    (explained : Explains P) (connects : Connects P W) (connects_not : ConnectsNot P)
    (thinks_not : StartsNot P) (ended : EndsProgram P C) (plan : Plan) (p q : P)
    : MatchFault → Type 0 where
  no_memory : (program : Bor (List ℕ)) (max_moves : ℕ)
      → plan.server ≡ Started program max_moves → q ≡ p
      → IsUnstarted serves serves_not explained connects connects_not thinks_not ended
      plan p q OutOfMemory
  no_server : (program : Bor (List ℕ)) (max_moves : ℕ) (fault : MatchFault)
      → plan.server ≡ Started program max_moves
      → serves_not p program.now (serve_words max_moves) q → IsServerFault fault
      → IsUnstarted serves serves_not explained connects connects_not thinks_not ended
      plan p q fault
  server_ended : (program : Bor (List ℕ)) (max_moves : ℕ) (server : C) (output rest : Coming)
      (between after : P) (fault : MatchFault)
      → plan.server ≡ Started program max_moves
      → serves p program.now (serve_words max_moves) server output between
      → IsPortless explained connects connects_not thinks_not plan output rest between after fault
      → ended after server BrokenOff q
      → IsUnstarted serves serves_not explained connects connects_not thinks_not ended
      plan p q fault
  not_joined_at : (address : Bor (List ℕ)) (fault : MatchFault) → plan.server ≡ At address
      → IsApart connects connects_not thinks_not plan address.now p q fault
      → IsUnstarted serves serves_not explained connects connects_not thinks_not ended
      plan p q fault

-- the plan's log was made, and only then its server was joined to its engine
pub record IsLogged {P L C I W : Type 0} (logs : MakesLog P L)
    (serves : Serves P C) (thinks : Thinks P C I) (connects : Connects P W)
    (plan : Plan) (p : P) (log : Option L) (engine : C) (from_engine : Coming) (to_engine : I)
    (from_server : Coming) (to_server : W) (q : P) (server : Option C) : Type 0 where
  pub between : P
  pub made : logs p (log_name plan) plan.server log between
  pub started : IsStarted serves thinks connects
      plan between engine from_engine to_engine from_server to_server q server

-- the plan's log was not made, and nothing was started; or this log was made, and there is no game
-- all the same; with the fault that is reported
pub data HasNoGame {P L C W : Type 0} (logs : MakesLog P L) (logs_not : MakesNoLog P)
    (serves : Serves P C) (serves_not : StartsNot P) (explained : Explains P)
    (connects : Connects P W) (connects_not : ConnectsNot P) (thinks_not : StartsNot P)
    (ended : EndsProgram P C) (plan : Plan) (p : P) (log : Option L) (q : P)
    : MatchFault → Type 0 where
  no_log : (fault : MatchFault) → logs_not p (log_name plan) plan.server q
      → IsFileFault fault
      → HasNoGame logs logs_not serves serves_not explained connects connects_not thinks_not ended
      plan p log q fault
  no_game : (between : P) (fault : MatchFault)
      → logs p (log_name plan) plan.server log between
      → IsUnstarted serves serves_not explained connects connects_not thinks_not ended
      plan between q fault
      → HasNoGame logs logs_not serves serves_not explained connects connects_not thinks_not ended
      plan p log q fault

-- the engine was ended and then the server, if it was started, both after a session that ended so
pub data IsStopped {P C : Type 0} (ended : EndsProgram P C)
    (p : P) (engine : C) (end : SessionEnd) (q : P) : Option C → Type 0 where
  both : (server : C) (between : P) → ended p engine end between
      → ended between server end q → IsStopped ended p engine end q (Some server)
  engine_alone : ended p engine end q → IsStopped ended p engine end q None

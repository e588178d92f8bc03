-- For private functions: how the programs of `play` are started.
use Rattle.std.specs.Prelude.{◌≡◌, ◌⊎◌, ℕ, List, ◌∷◌, codes}
use Rattle.bridge_table.specs.declared.fault.SessionFault.TheVariants.{ServerGone, EngineGone}
use Rattle.session_setup.specs.declared.fault.MatchFault.{MatchFault}
use Rattle.session_setup.specs.declared.fault.MatchFault.TheVariants.{OutOfMemory, Session as SessionFailed}
use Rattle.session_setup.specs.Starting.{Starts}
use Rattle.session_commands.specs.declared.bridging.Peer.{Peer}
use Rattle.session_commands.specs.declared.bridging.Peer.TheVariants.{Engine, Server}

-- the fault of a program that is gone
abbrev pub fault_if_gone : Peer → MatchFault
fault_if_gone Engine = SessionFailed EngineGone
fault_if_gone Server = SessionFailed ServerGone

-- the server is gone, or an allocation failed
abbrev pub IsServerFault : MatchFault → Type 0
IsServerFault fault = (fault ≡ SessionFailed ServerGone) ⊎ (fault ≡ OutOfMemory)

-- the engine is gone, or an allocation failed
abbrev pub IsEngineFault : MatchFault → Type 0
IsEngineFault fault = (fault ≡ SessionFailed EngineGone) ⊎ (fault ≡ OutOfMemory)

-- a program was to be started with these words, by itself or as the leader of a group
pub data IsStarted {S : Type 0} (starts : Starts S) (rt : S) (program : List ℕ)
    (words : List (List ℕ)) : Type 0 where
  itself : starts rt program words → IsStarted starts rt program words
  leader : starts rt (codes "setsid") (codes "--" ∷ program ∷ words)
      → IsStarted starts rt program words

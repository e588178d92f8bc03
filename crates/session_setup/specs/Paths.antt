-- Which words of a plan go together.
use Rattle.std.specs.Prelude.{◌≡◌, ◌≢◌, ◌⊎◌, ◌++◌, ℕ, Bool, true, false, List, Option, None, Some, codes}
use Rattle.std.specs.Borrow.{Bor}
use Rattle.session_setup.specs.Ports.{HasPort}
use Rattle.session_setup.specs.declared.fault.MatchFault.TheVariants as match_fault
use Rattle.session_setup.specs.declared.plan_fault.PlanFault.{PlanFault}
use Rattle.session_setup.specs.declared.plan_fault.PlanFault.TheVariants.{LogIsRecord, Overwrites, NoPort}
use Rattle.session_setup.specs.declared.fault.PlayCommandFault.{PlayCommandFault}
use Rattle.session_setup.specs.declared.fault.PlayCommandFault.TheVariants as play_fault
use Rattle.session_setup.specs.declared.plan_fault.Needed.{Needed}
use Rattle.session_setup.specs.declared.plan_fault.Needed.TheVariants as needed
use Rattle.session_setup.specs.declared.plan_fault.Written.{Written}
use Rattle.session_setup.specs.declared.plan_fault.Written.TheVariants.{Log, Record}
use Rattle.shogi_words.specs.declared.play.PasswordSource.TheVariants.{File}
use Rattle.shogi_words.specs.declared.play.Plan.{Plan}
use Rattle.shogi_words.specs.declared.play.ServerChoice.{ServerChoice}
use Rattle.shogi_words.specs.declared.play.ServerChoice.TheVariants.{Started, At}

-- whether a server is to be started
abbrev pub starts_server : ServerChoice → Bool
starts_server (Started program max_moves) = true
starts_server (At address) = false

-- this is the path of the log, or of the file for what the engine says, or of that for what a
-- server says that is to be started
abbrev pub IsLogPath : List ℕ → ServerChoice → List ℕ → Type 0
IsLogPath log server path = (path ≡ log) ⊎ ((path ≡ log ++ codes ".engine")
    ⊎ ((starts_server server ≡ true) × (path ≡ log ++ codes ".server")))

-- a log that is no standard error is at this path, or a file beside it is
abbrev pub TakesPath : Option (Bor (List ℕ)) → ServerChoice → List ℕ → Type 0
TakesPath None server path = ⊥
TakesPath (Some log) server path =
    (log.now ≢ codes "-") × IsLogPath log.now server path

-- the log of a plan, or a file beside it, is at this path
abbrev pub LogTakes : Plan → List ℕ → Type 0
LogTakes plan path = TakesPath plan.log plan.server path

-- it is written at this path
abbrev pub Writes : Plan → Written → List ℕ → Type 0
Writes plan Log path = LogTakes plan path
Writes plan Record path = path ≡ plan.out.now

-- it is needed at this path; the name of a program counts as a path too if it has no slash, though
-- it is then looked up on PATH
pub data IsNeeded (plan : Plan) : Needed → List ℕ → Type 0 where
  engine_program : IsNeeded plan needed.Engine plan.engine.now
  server_program : (program : Bor (List ℕ)) (max_moves : ℕ)
      → plan.server ≡ Started program max_moves → IsNeeded plan needed.Server program.now
  password_path : (path : Bor (List ℕ))
      → plan.password ≡ File path → IsNeeded plan needed.PasswordFile path.now

-- the log and the files beside it do not take the path of the record; nothing that is needed is
-- written; and an address has a port
pub record HasSoundWords (plan : Plan) : Type 0 where
  pub record_apart : LogTakes plan plan.out.now → ⊥
  pub needed_apart : (what : Needed) (path : List ℕ) → IsNeeded plan what path
      → (written : Written) → Writes plan written path → ⊥
  pub has_port : (address : Bor (List ℕ)) → plan.server ≡ At address → HasPort address.now

-- the fault of a plan
pub data IsPlanFault (plan : Plan) : PlanFault → Type 0 where
  log_is_record : LogTakes plan plan.out.now → IsPlanFault plan LogIsRecord
  overwrites : (written : Written) (what : Needed) (path : List ℕ) → IsNeeded plan what path
      → Writes plan written path → IsPlanFault plan (Overwrites written what)
  no_port : (address : Bor (List ℕ)) → plan.server ≡ At address
      → (HasPort address.now → ⊥) → IsPlanFault plan NoPort

-- a file that is written is needed, or two of them are one, or there is no memory to find that out
abbrev pub IsFilesFault : PlayCommandFault → Type 0
IsFilesFault (play_fault.Plan fault) = fault ≢ NoPort
IsFilesFault (play_fault.Login fault) = ⊥
IsFilesFault (play_fault.Match fault) = fault ≡ match_fault.OutOfMemory

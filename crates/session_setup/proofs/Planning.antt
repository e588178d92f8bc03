-- Which files of a plan are apart.
use Rattle.std.proofs.Common.{◌≡◌, ◌↔◌, Bool, true, false, IsTrue, ℕ, List}
use Rattle.std.specs.Borrow.{Bor}
use Rattle.session_setup.specs.Paths.{IsNeeded, LogTakes, Writes, engine_program, password_path, server_program}
use Rattle.session_setup.specs.declared.plan_fault.Needed.{Needed}
use Rattle.session_setup.specs.declared.plan_fault.Written.{Written}
use Rattle.session_setup.specs.declared.plan_fault.Written.TheVariants.{Log, Record}
use Rattle.shogi_words.specs.declared.play.PasswordSource.TheVariants.{File}
use Rattle.shogi_words.specs.declared.play.Plan.{Plan}
use Rattle.shogi_words.specs.declared.play.ServerChoice.TheVariants.{Started}

-- a test that fails
pub unless : {P : Type 0} (b : Bool) → IsTrue b ↔ P → b ≡ false → P → ⊥
unless b holds is_false p =
    let is_true : b ≡ true = holds.1 p in
    absurd cc

pub none_written : (plan : Plan) (path : List ℕ) → (LogTakes plan path → ⊥) → (path ≡ plan.out.now → ⊥)
    → (written : Written) → Writes plan written path → ⊥
none_written plan path log out Log writes = log writes
none_written plan path log out Record writes = out writes

-- each file that is needed is apart from what is written
pub all_apart : (plan : Plan) → ((written : Written) → Writes plan written plan.engine.now → ⊥)
    → ((program : Bor (List ℕ)) (max_moves : ℕ) → plan.server ≡ Started program max_moves → (written : Written) → Writes plan written program.now → ⊥)
    → ((path : Bor (List ℕ)) → plan.password ≡ File path → (written : Written) → Writes plan written path.now → ⊥)
    → (what : Needed) (path : List ℕ) → IsNeeded plan what path → (written : Written) → Writes plan written path → ⊥
all_apart plan engine server password what path engine_program written writes = engine written writes
all_apart plan engine server password what path (server_program program max_moves is) written writes = server program max_moves is written writes
all_apart plan engine server password what path (password_path file is) written writes = password file is written writes

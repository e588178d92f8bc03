-- The paths of programs, and what is said of a plan of `play` that cannot be carried out.
use Rattle.std.specs.Prelude.{◌≡◌, ◌==◌, ◌⊎◌, ◌++◌, ◌∷◌, ℕ, Bool, true, false, List, codes}
use Rattle.std.specs.List.{list_any}
use Rattle.session_setup.specs.declared.plan_fault.Needed.{Needed}
use Rattle.session_setup.specs.declared.plan_fault.Needed.TheVariants.{Engine, Server, PasswordFile}
use Rattle.session_setup.specs.declared.plan_fault.PlanFault.{PlanFault}
use Rattle.session_setup.specs.declared.plan_fault.PlanFault.TheVariants.{LogIsRecord, LogIsOneFile, Overwrites, NoPort}
use Rattle.session_setup.specs.declared.plan_fault.Written.{Written}
use Rattle.session_setup.specs.declared.plan_fault.Written.TheVariants.{Log, Record}

abbrev pub has_slash : List ℕ → Bool
has_slash program = list_any (λ b. b == 47) program

-- the path of a program: itself if it has a slash, or else its name in a folder
abbrev pub IsPathOf : List ℕ → List ℕ → Type 0
IsPathOf program path = ((has_slash program ≡ true) × (path ≡ program))
    ⊎ ((has_slash program ≡ false) × (folder : List ℕ) × (path ≡ folder ++ 47 ∷ program))

-- the option that names a file that is written
abbrev pub written_option : Written → List ℕ
written_option Log = codes "--log"
written_option Record = codes "--out"

-- the option that names what is needed
abbrev pub needed_option : Needed → List ℕ
needed_option Engine = codes "--engine"
needed_option Server = codes "--server"
needed_option PasswordFile = codes "--password-file"

abbrev pub plan_text : PlanFault → List ℕ
plan_text LogIsRecord = codes "--log and --out must name different files"
plan_text LogIsOneFile = codes "the files of --log must be different"
plan_text (Overwrites written needed) =
    written_option written ++ (codes " and " ++ (needed_option needed
    ++ codes " must name different files"))
plan_text NoPort = codes "--connect must be HOST:PORT, as localhost:4081"

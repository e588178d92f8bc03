-- What the environment of a process says.
use Rattle.std.specs.Prelude.{◌⊎◌, ℕ, List, Option, None, Some, codes}
use Rattle.std.specs.declared.env.VarError.{VarError}
use Rattle.std.specs.declared.env.VarError.TheVariants.{NotPresent, NotUnicode}

-- the variable of that name has this text
abbrev pub Has : Type 0 → Type 1
Has V = V → List ℕ → List ℕ → Type 0

-- it gives no text, for this reason
abbrev pub Lacks : Type 0 → Type 1
Lacks V = V → List ℕ → VarError → Type 0

-- the variable of that name has this text, or is not set
abbrev pub IsVariable : {V : Type 0} → Has V → Lacks V → V → List ℕ → Option (List ℕ) → Type 0
IsVariable has lacks rt name None = lacks rt name NotPresent
IsVariable has lacks rt name (Some text) = has rt name text

-- the text of the variable `PATH`, if it has one
abbrev pub IsSearchPath : {V : Type 0} → Has V → Lacks V → V → Option (List ℕ) → Type 0
IsSearchPath has lacks rt None =
    lacks rt (codes "PATH") NotPresent ⊎ lacks rt (codes "PATH") NotUnicode
IsSearchPath has lacks rt (Some folders) = has rt (codes "PATH") folders

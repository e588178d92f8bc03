-- The paths that a list names.
use Rattle.std.specs.Prelude.{◌≡◌, ℕ, List, [], ◌∷◌, ◌++◌, map, Contains}
use Rattle.std.specs.List.{AllByRecursion}
use Rattle.std.specs.Global.{Vec}
use Rattle.std.specs.Io.BufRead.{strip_last}
use Rattle.shogi_words.specs.declared.request.PathEnd.{PathEnd}
use Rattle.shogi_words.specs.declared.request.PathEnd.TheVariants.{Line, Nul}

-- the bytes of each
abbrev pub items_of : List (Vec ℕ) → List (List ℕ)
items_of paths = map (λ path. path.items) paths

abbrev pub code_of : PathEnd → ℕ
code_of Line = 10
code_of Nul = 0

-- each part, with the end after it
abbrev pub ended : ℕ → List (List ℕ) → List ℕ
ended end [] = []
ended end (part ∷ parts) = part ++ (end ∷ ended end parts)

-- these are the parts of the bytes between the ends, which none of them contains
pub record ArePartsOf (end : ℕ) (bytes : List ℕ) (parts : List (List ℕ)) : Type 0 where
  pub whole : bytes ++ end ∷ [] ≡ ended end parts
  pub apart : AllByRecursion (λ part. Contains part end → ⊥) parts

-- a line may end in CR LF
abbrev pub without_cr : PathEnd → List ℕ → List ℕ
without_cr Line part = strip_last 13 part
without_cr Nul part = part

-- an empty path is none
abbrev pub some_path : List ℕ → List (List ℕ)
some_path [] = []
some_path (b ∷ path) = (b ∷ path) ∷ []

-- the path in a part of a list, if there is one
abbrev pub path_in : PathEnd → List ℕ → List (List ℕ)
path_in end part = some_path (without_cr end part)

abbrev pub paths_in : PathEnd → List (List ℕ) → List (List ℕ)
paths_in end [] = []
paths_in end (part ∷ parts) = path_in end part ++ paths_in end parts

-- the list names these paths: those in its parts, in order
abbrev pub Lists : PathEnd → List ℕ → List (List ℕ) → Type 0
Lists end list paths =
    (parts : List (List ℕ)) × ArePartsOf (code_of end) list parts × (paths ≡ paths_in end parts)

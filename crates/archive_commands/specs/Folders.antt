-- For private functions: the names of the records in folders, and their paths.
-- A reader of the public contracts may skip this file.
use Rattle.std.specs.Prelude.{ℕ, ◌==◌, ◌||◌, Bool, List, [], ◌∷◌, ◌++◌, codes, if◌then◌else◌}
use Rattle.std.specs.List.{ends_with}

-- the text ends in these bytes
abbrev pub ends_in : List ℕ → List ℕ → Bool
ends_in text end = ends_with (λ a b. a == b) text end

-- the name of a record
abbrev pub is_record_name : List ℕ → Bool
is_record_name name = ends_in name (codes ".csa") || ends_in name (codes ".CSA")

-- the path of a name in a folder: there is a slash between them
abbrev pub joined : List ℕ → List ℕ → List ℕ
joined folder name = (if ends_in folder (codes "/") then folder else folder ++ 47 ∷ []) ++ name

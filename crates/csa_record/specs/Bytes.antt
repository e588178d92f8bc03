-- For private functions and fields of `Titles`: names in memory, seen as their bytes.
-- A reader of the public contracts may skip this file.
use Rattle.std.specs.Prelude.{ℕ, List, Option, Some, None}
use Rattle.std.specs.Global.{Vec}

abbrev pub name_bytes : Option (Vec ℕ) → Option (List ℕ)
name_bytes None = None
name_bytes (Some v) = Some v.items

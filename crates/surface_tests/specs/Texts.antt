-- Texts in memory.
use Rattle.std.specs.Prelude.{ℕ, List, [], map, slice_index_or}
use Rattle.std.specs.Borrow.{Bor}

-- the bytes of the text at this place
abbrev pub bytes_at : List (Bor (List ℕ)) → ℕ → List ℕ
bytes_at texts at = slice_index_or (map (λ text. text.now) texts) at []

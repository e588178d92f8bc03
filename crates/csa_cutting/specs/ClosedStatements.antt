-- The statements of a text whose end has been read, whatever follows.
use Rattle.std.specs.Prelude.{◌≡◌, ℕ, ◌+◌, ◌||◌, Bool, List, length, filter, nat_lt}
use Rattle.csa_cutting.specs.Cut.{TextUnit, IsCut, longest_statement}

-- in a text of so many bytes, a unit that is followed by the byte that ends it, or has more than
-- 4,096 bytes
abbrev pub is_closed : ℕ → TextUnit → Bool
is_closed end u =
    nat_lt (u.offset + length u.bytes) end || nat_lt longest_statement (length u.bytes)

-- the closed statements of a record's bytes
abbrev pub Closed : List ℕ → List TextUnit → Type 0
Closed source closed = (statements : List TextUnit) × IsCut source statements
    × (closed ≡ filter (is_closed (length source)) statements)

-- Which '#' begins a line, by the places of a text.
use Rattle.std.specs.Prelude.{◌≡◌, ◌≢◌, ◌⊎◌, ℕ, ◌-◌, ◌<◌, List, [], ◌∷◌, take, slice_index}

-- LF or CR
abbrev pub EndsLine : ℕ → Type 0
EndsLine b = (b ≡ 10) ⊎ (b ≡ 13)

-- the byte at k is the first, or follows the byte order mark at the front or a byte that ends a
-- line
abbrev pub BeginsLine : List ℕ → ℕ → Type 0
BeginsLine bytes k = (k ≡ 0)
    ⊎ ((take k bytes ≡ 0xEF ∷ 0xBB ∷ 0xBF ∷ [])
    ⊎ ((0 < k) × EndsLine (slice_index bytes (k - 1))))

-- a '#' that begins a line is read as an apostrophe, and any other byte as itself
pub record IsReadAs (bytes : List ℕ) (k byte : ℕ) : Type 0 where
  pub hash : slice_index bytes k ≡ 35 → BeginsLine bytes k → byte ≡ 39
  pub other : (slice_index bytes k ≢ 35) ⊎ (BeginsLine bytes k → ⊥)
      → byte ≡ slice_index bytes k

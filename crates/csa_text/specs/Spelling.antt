-- What the bytes of a statement spell.
use Rattle.std.specs.Prelude.{◌≡◌, ◌≢◌, ℕ, ◌+◌, ◌≤◌, ◌==◌, ◌||◌, ◌&&◌, nat_le, Bool, false, List, [], ◌∷◌, ◌++◌, length, Option, ◌⊎◌, codes, if◌then◌else◌}
use Rattle.std.specs.List.{flat_map}
use Rattle.shogi_board.specs.declared.kind.Piece.{Piece}
use Rattle.csa_text.specs.declared.fault.TextFault.{TextFault}
use Rattle.csa_text.specs.declared.fault.TextFault.TheVariants.{BadVersion, BadHeader, BadPosition, BadMove, BadTime, UnknownEnding, Unknown}
use Rattle.csa_text.specs.Codes.{sign, cell_text, move_text}
use Rattle.csa_cutting.specs.Cut.{begins_with}
use Rattle.csa_text.specs.Endings.{ending_name}
use Rattle.csa_text.specs.Fields.{IsSplit}
use Rattle.csa_text.specs.PairTexts.{pairs_text, AllOnBoard}
use Rattle.csa_text.specs.Saying.{Saying, version, name, header, even, rank, pieces, turn, walked, time, ending}
use Rattle.csa_text.specs.TimeTexts.{IsTime}

-- `P`, the number of the rank, and its cells
abbrev pub rank_text : ℕ → List (Option Piece) → List ℕ
rank_text number cells = codes "P" ++ (48 + number) ∷ flat_map cell_text cells

-- nine cells; if the last one is empty, its last space may be missing
pub record IsRank (bytes : List ℕ) (number : ℕ) (cells : List (Option Piece)) : Type 0 where
  pub low : 1 ≤ number
  pub high : number ≤ 9
  pub nine : length cells ≡ 9
  pub whole : (bytes ≡ rank_text number cells) ⊎ (bytes ++ codes " " ≡ rank_text number cells)

-- `$`, the key, which is not empty and has no colon, a colon, and the text
pub record IsHeader (bytes key text : List ℕ) : Type 0 where
  pub line : List ℕ
  pub whole : bytes ≡ codes "$" ++ line
  pub split : IsSplit 58 line key text
  pub some : key ≢ []

-- a case for each row of the grammar
abbrev pub Spells : List ℕ → Saying → Type 0
Spells bytes version = (bytes ≡ codes "V2") ⊎ (bytes ≡ codes "V2.1") ⊎ (bytes ≡ codes "V2.2")
Spells bytes (name color text) = bytes ≡ codes "N" ++ sign color ∷ text
Spells bytes (header key text) = IsHeader bytes key text
Spells bytes (even pairs) = (bytes ≡ codes "PI" ++ pairs_text pairs) × AllOnBoard pairs
Spells bytes (rank number cells) = IsRank bytes number cells
Spells bytes (pieces color pairs) = bytes ≡ codes "P" ++ sign color ∷ pairs_text pairs
Spells bytes (turn color) = bytes ≡ sign color ∷ []
Spells bytes (walked color m) = bytes ≡ move_text color m
Spells bytes (time thousandths) = (text : List ℕ) × (bytes ≡ codes "T" ++ text)
    × IsTime text thousandths
Spells bytes (ending e) = bytes ≡ codes "%" ++ ending_name e

-- `PI`, `P+`, `P-` or `P1` to `P9`
abbrev pub begins_position : List ℕ → Bool
begins_position [] = false
begins_position (first ∷ []) = false
begins_position (first ∷ next ∷ rest) =
    first == 80 && (next == 73 || next == 43 || next == 45 || (nat_le 49 next && nat_le next 57))

-- the fault of bytes that spell nothing, by how they begin: `V`, `$`, `P` as above, `+` or `-`,
-- `T`, `%`
abbrev pub fault_of_row : List ℕ → TextFault
fault_of_row bytes =
    if begins_with 86 bytes then BadVersion
    else if begins_with 36 bytes then BadHeader
    else if begins_position bytes then BadPosition
    else if begins_with 43 bytes || begins_with 45 bytes then BadMove
    else if begins_with 84 bytes then BadTime
    else if begins_with 37 bytes then UnknownEnding
    else Unknown

-- Which words are the SFEN of a position, and the first fault of any others.
use Rattle.std.specs.Prelude.{◌≡◌, ℕ, ◌≤◌, List, [], Option, Ok, Err, EachIndex, slice_index, codes}
use Prim.Native.Char.{code}
use Rattle.shogi_board.specs.declared.color.Color.{Color}
use Rattle.shogi_board.specs.declared.color.Color.TheVariants.{Black, White}
use Rattle.shogi_board.specs.declared.kind.Piece.{Piece}
use Rattle.shogi_board.specs.Placed.{Placed}
use Rattle.usi_text.specs.declared.fault.SfenFault.{SfenFault}
use Rattle.usi_text.specs.declared.fault.SfenFault.TheVariants.{BadBoard, BadSide, BadHands, BadNumber, Start}
use Rattle.usi_text.specs.Boards.{SpellsBoard}
use Rattle.usi_text.specs.Hands.{Pile, SpellsHands}
use Rattle.usi_text.specs.Setting.{set_up, Finishes}
use Rattle.usi_text.specs.Words.{nth_word}

abbrev pub side_text : Color → List ℕ
side_text Black = codes "b"
side_text White = codes "w"

-- a digit from 0 to 9
abbrev pub IsDigit : ℕ → Type 0
IsDigit b = (code "0" ≤ b) × (b ≤ code "9")

-- a word that is all digits, with no word after it
abbrev pub IsNumber : List ℕ → List ℕ → Type 0
IsNumber word next = EachIndex word (λ k. IsDigit (slice_index word k)) × (next ≡ [])

-- the fourth word, if there is one, is a number, and there is no fifth
abbrev pub HasNumber : List (List ℕ) → Type 0
HasNumber ws = IsNumber (nth_word ws 3) (nth_word ws 4)

-- the words spell this board, this side and these piles
pub record Shape (ws : List (List ℕ)) (cells : List (Option Piece)) (side : Color)
    (piles : List Pile) : Type 0 where
  pub board : SpellsBoard (nth_word ws 0) cells
  pub turn : nth_word ws 1 ≡ side_text side
  pub hands : SpellsHands (nth_word ws 2) piles
  pub number : HasNumber ws

-- the words are the SFEN of the position
pub record Sfen (ws : List (List ℕ)) (p : Placed) : Type 0 where
  pub cells : List (Option Piece)
  pub piles : List Pile
  pub shape : Shape ws cells p.side piles
  pub stands : Finishes (set_up cells piles) p.side (Ok p)

abbrev pub IsBoard : List (List ℕ) → Type 0
IsBoard ws = (cells : List (Option Piece)) × SpellsBoard (nth_word ws 0) cells

abbrev pub HasSide : List (List ℕ) → Type 0
HasSide ws = (side : Color) × (nth_word ws 1 ≡ side_text side)

abbrev pub HasHands : List (List ℕ) → Type 0
HasHands ws = (piles : List Pile) × SpellsHands (nth_word ws 2) piles

-- the first thing that keeps the words from being an SFEN; a missing word counts as an empty text
abbrev pub FirstFault : List (List ℕ) → SfenFault → Type 0
FirstFault ws BadBoard = IsBoard ws → ⊥
FirstFault ws BadSide = IsBoard ws × (HasSide ws → ⊥)
FirstFault ws BadHands = IsBoard ws × HasSide ws × (HasHands ws → ⊥)
FirstFault ws BadNumber = IsBoard ws × HasSide ws × HasHands ws × (HasNumber ws → ⊥)
FirstFault ws (Start fault) =
    (cells : List (Option Piece)) × (side : Color) × (piles : List Pile)
    × Shape ws cells side piles × Finishes (set_up cells piles) side (Err fault)

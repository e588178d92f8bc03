-- What a walk and a drop make of a position.
use Rattle.std.proofs.Common.{◌≡◌, ◌≢◌, ℕ, zero, suc, ◌+◌, ◌%◌, ◌^◌, List, [], ◌∷◌, Option, None, set, get_or, refl, ap, sym, ◌∙◌, get_or-set_other}
use Rattle.shogi_board.specs.Cells.{Cells}
use Rattle.shogi_board.specs.Keys.{key_of}
use Rattle.shogi_board.specs.KeySteps.{IsKeyed}
use Rattle.shogi_board.specs.Material.{Material, with_bag}
use Rattle.shogi_board.specs.Pieces.{opponent}
use Rattle.shogi_board.specs.Placed.{Placed}
use Rattle.shogi_board.specs.Reach.{InCheck}
use Rattle.shogi_board.specs.Totals.{IsWithinTotals}
use Rattle.shogi_board.specs.declared.color.Color.{Color}
use Rattle.shogi_board.specs.declared.color.Color.TheVariants.{Black, White}
use Rattle.shogi_board.specs.declared.kind.Piece.{Piece}
use Rattle.shogi_board.proofs.Keyed.{changed, passed-key}

-- a cell made as it was
pub put-back : (cells : Cells) (i : ℕ) (a b : Option Piece) → get_or cells i None ≡ b → set (set cells i a) i b ≡ cells
put-back [] i a b e = refl
put-back (x ∷ xs) zero a b e = ap (λ y. y ∷ xs) (sym e)
put-back (x ∷ xs) (suc i) a b e = ap (λ ys. x ∷ ys) (put-back xs i a b e)

-- and both cells of a walk
pub walk-back : (cells : Cells) (i j : ℕ) (a was captured : Option Piece) → i ≢ j → get_or cells i None ≡ was → get_or cells j None ≡ captured → set (set (set (set cells i None) j a) j captured) i was ≡ cells
walk-back cells i j a was captured apart e f =
    let there : get_or (set cells i None) j None ≡ captured = get_or-set_other cells i j None None (λ h. apart (sym h)) ∙ f in
    ap (λ (b : Cells). set b i was) (put-back (set cells i None) j a captured there) ∙ put-back cells i None was e

abbrev pub made : Cells → List ℕ → List ℕ → Color → Placed
made cells black white side = record { material = record { board = cells; black = black; white = white }; side = side }

-- the position with another board and another hand of the side to move, the other side to move
pub black-passed : (m : Material) (side : Color) (board : Cells) (bag : List ℕ) (key : ℕ) → side ≡ Black → IsWithinTotals (record (with_bag m side bag) { board = board }) → (InCheck board side → ⊥) → key_of (changed m side board bag) ≡ key
    → IsKeyed (made board bag m.white (opponent side)) ((key + 2 ^ 63) % 2 ^ 64)
black-passed m Black board bag key e totals safe is = record { sound = record { within = totals; safe = safe }; key = passed-key _ Black key is }
black-passed m White board bag key e totals safe is = cc

pub white-passed : (m : Material) (side : Color) (board : Cells) (bag : List ℕ) (key : ℕ) → side ≡ White → IsWithinTotals (record (with_bag m side bag) { board = board }) → (InCheck board side → ⊥) → key_of (changed m side board bag) ≡ key
    → IsKeyed (made board m.black bag (opponent side)) ((key + 2 ^ 63) % 2 ^ 64)
white-passed m Black board bag key e totals safe is = cc
white-passed m White board bag key e totals safe is = record { sound = record { within = totals; safe = safe }; key = passed-key _ White key is }

-- How often a position occurs in a list of positions, and who gave check all the while.
use Rattle.std.specs.Prelude.{◌≡◌, ℕ, ◌+◌, ◌<◌, ◌≤◌, List, Some, take, count_by, slice_get}
use Rattle.shogi_board.specs.declared.color.Color.{Color}
use Rattle.shogi_board.specs.Placed.{Placed}
use Rattle.shogi_board.specs.Reach.{InCheck}
use Rattle.shogi_board.specs.Same.{same_position}

-- how often the position occurs in the list, with its board, hands and side to move
abbrev pub times : List Placed → Placed → ℕ
times ps p = count_by (λ q. same_position q p) ps

-- it is at that place, and occurs fewer times before
pub record IsNth (ps : List Placed) (p : Placed) (n place : ℕ) : Type 0 where
  pub stands : slice_get ps place ≡ Some p
  pub before : times (take place ps) p + 1 ≡ n

-- if the side moved from that place, the other was in check afterwards
abbrev pub PressedAt : List Placed → Color → ℕ → Type 0
PressedAt ps color place =
    (p q : Placed) → slice_get ps place ≡ Some p → slice_get ps (place + 1) ≡ Some q
    → p.side ≡ color → InCheck q.material.board q.side

-- each move of that side in the stretch gave check
abbrev pub Pressed : List Placed → ℕ → ℕ → Color → Type 0
Pressed ps first fourth color = (place : ℕ) → first ≤ place → place < fourth
    → PressedAt ps color place

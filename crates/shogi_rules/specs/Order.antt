-- The order in which moves are tried.
use Rattle.std.specs.Prelude.{◌≡◌, ◌<◌, ◌⊎◌, true, false}
use Rattle.shogi_board.specs.Pieces.{is_promoted, place_of}
use Rattle.shogi_board.specs.Placed.{Placed}
use Rattle.shogi_board.specs.Squares.{place}
use Rattle.shogi_board.specs.declared.moves.Move.{Move}
use Rattle.shogi_board.specs.declared.moves.Move.TheVariants.{Walk, Put}
use Rattle.shogi_board.specs.Legal.{Legal}

-- walks before drops; walks by the square left, then the target, unpromoted before promoted; drops
-- by kind, then target
abbrev pub IsBefore : Move → Move → Type 0
IsBefore (Walk f t k) (Walk g u l) =
    (place f < place g) ⊎ ((f ≡ g) × ((place t < place u)
    ⊎ ((t ≡ u) × (is_promoted k ≡ false) × (is_promoted l ≡ true))))
IsBefore (Walk f t k) (Put u l) = Unit {0}
IsBefore (Put t k) (Walk g u l) = ⊥
IsBefore (Put t k) (Put u l) = (place_of k < place_of l) ⊎ ((k ≡ l) × (place t < place u))

-- legal, and no legal move is before it
pub record IsFirstLegal (p : Placed) (m : Move) : Type 0 where
  pub legal : Legal p m
  pub first : (n : Move) → IsBefore n m → Legal p n → ⊥

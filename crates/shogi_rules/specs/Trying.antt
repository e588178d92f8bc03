-- For private functions: the first legal move among some moves, and squares that may end a check.
-- A reader of the public contracts may skip this file.
use Rattle.std.specs.Prelude.{◌≡◌, ◌⊎◌, ◌<◌, ℕ}
use Rattle.shogi_board.specs.Placed.{Placed}
use Rattle.shogi_board.specs.declared.kind.Kind.{Kind}
use Rattle.shogi_board.specs.declared.square.Square.{Square}
use Rattle.shogi_board.specs.declared.moves.Move.{Move}
use Rattle.shogi_board.specs.declared.moves.Move.TheVariants.{Walk, Put}
use Rattle.shogi_board.specs.Legal.{Legal}
use Rattle.shogi_rules.specs.Order.{IsBefore}

abbrev pub IsWalk : Move → Type 0
IsWalk (Walk from to _) = Unit {0}
IsWalk (Put to _) = ⊥

-- a walk between these squares
abbrev pub IsWalkBetween : Square → Square → Move → Type 0
IsWalkBetween a b (Walk from to _) = (from ≡ a) × (to ≡ b)
IsWalkBetween a b (Put to _) = ⊥

abbrev pub IsDrop : Move → Type 0
IsDrop (Walk from to _) = ⊥
IsDrop (Put to _) = Unit {0}

abbrev pub IsDropOf : Kind → Move → Type 0
IsDropOf its_kind (Walk from to _) = ⊥
IsDropOf its_kind (Put to k) = k ≡ its_kind

-- the first legal one among some moves
pub record IsFirstOf (p : Placed) (Among : Move → Type 0) (m : Move) : Type 0 where
  pub among : Among m
  pub legal : Legal p m
  pub first : (n : Move) → Among n → IsBefore n m → Legal p n → ⊥

-- none among them is legal
abbrev pub NoneOf : Placed → (Move → Type 0) → Type 0
NoneOf p Among = (m : Move) → Among m → Legal p m → ⊥

-- a number strictly between the first and the last, or all three are the same
abbrev pub IsOnWay : ℕ → ℕ → ℕ → Type 0
IsOnWay first last n = ((first < n) × (n < last))
    ⊎ (((last < n) × (n < first)) ⊎ ((first ≡ n) × (n ≡ last)))

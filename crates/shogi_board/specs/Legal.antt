-- The rules of one move, each stated as what it asks of a move of the side to move.
use Rattle.std.specs.Prelude.{◌≡◌, ◌<◌, ◌≤◌, ◌⊎◌, Some, None}
use Rattle.shogi_board.specs.declared.kind.Kind.{Kind}
use Rattle.shogi_board.specs.declared.kind.Kind.TheVariants.{Pawn}
use Rattle.shogi_board.specs.declared.square.Square.{Square}
use Rattle.shogi_board.specs.Cells.{at, piece, HasPawnOnFile}
use Rattle.shogi_board.specs.Material.{bag_of}
use Rattle.shogi_board.specs.Placed.{Placed}
use Rattle.shogi_board.specs.Reach.{Reach, InCheck}
use Rattle.shogi_board.specs.Totals.{count_in}
use Rattle.shogi_board.specs.declared.moves.Move.{Move}
use Rattle.shogi_board.specs.declared.moves.Move.TheVariants.{Walk, Put}
use Rattle.shogi_board.specs.After.{after}
use Rattle.shogi_board.specs.Pieces.{promoted}
use Rattle.shogi_board.specs.Kinds.{InZone, rank_for, last_rank}

abbrev pub target : Move → Square
target (Walk from to _) = to
target (Put to _) = to

-- the kind after the move
abbrev pub kind_after : Move → Kind
kind_after (Walk from to kind) = kind
kind_after (Put to kind) = kind

-- an own piece stands on the square left, or the hand has one of the kind
abbrev pub HasPiece : Placed → Move → Type 0
HasPiece p (Walk from to _) = (was : Kind) × (at p.material.board from ≡ piece p.side was)
HasPiece p (Put to kind) = 0 < count_in (bag_of p.material p.side) kind

-- the own piece on the square left is of that kind, or promotes to it
abbrev pub KindFits : Placed → Move → Type 0
KindFits p (Walk from to kind) =
    (was : Kind) × (at p.material.board from ≡ piece p.side was)
    × ((kind ≡ was) ⊎ (promoted was ≡ Some kind))
KindFits p (Put to _) = Unit {0}

-- no own piece stands on the target; for a drop, no piece
abbrev pub TargetFree : Placed → Move → Type 0
TargetFree p (Walk from to _) = (own : Kind) → at p.material.board to ≡ piece p.side own → ⊥
TargetFree p (Put to _) = at p.material.board to ≡ None

-- the walking piece reaches the target
abbrev pub ReachesTarget : Placed → Move → Type 0
ReachesTarget p (Walk from to _) = Reach p.material.board from to
ReachesTarget p (Put to _) = Unit {0}

-- a walk keeps the kind, or leaves or enters the last three ranks
abbrev pub MayPromote : Placed → Move → Type 0
MayPromote p (Walk from to kind) = (at p.material.board from ≡ piece p.side kind)
    ⊎ InZone p.side from ⊎ InZone p.side to
MayPromote p (Put to _) = Unit {0}

-- the piece stands where its kind still has a move
abbrev pub HasFurtherMove : Placed → Move → Type 0
HasFurtherMove p m = last_rank (kind_after m) ≤ rank_for p.side (target m)

-- a pawn is put on no file that holds an own unpromoted pawn
abbrev pub LonePawn : Placed → Move → Type 0
LonePawn p (Walk from to _) = Unit {0}
LonePawn p (Put to kind) = kind ≡ Pawn → HasPawnOnFile p.material.board p.side to → ⊥

-- the mover's king is not attacked afterwards
abbrev pub KingSafe : Placed → Move → Type 0
KingSafe p m = InCheck (after p m).material.board p.side → ⊥

-- the rules 3 to 9, which the board before the move decides, are kept
pub record FitsBoard (p : Placed) (m : Move) : Type 0 where
  pub has_piece : HasPiece p m
  pub kind_fits : KindFits p m
  pub target_free : TargetFree p m
  pub reaches : ReachesTarget p m
  pub may_promote : MayPromote p m
  pub further_move : HasFurtherMove p m
  pub lone_pawn : LonePawn p m

-- the rules 3 to 10 are kept
pub record Keeps (p : Placed) (m : Move) : Type 0 where
  pub fits : FitsBoard p m
  pub king_safe : KingSafe p m

-- the side to move is in check, and no move keeps the rules 3 to 10
pub record Mated (p : Placed) : Type 0 where
  pub in_check : InCheck p.material.board p.side
  pub no_move : (m : Move) → Keeps p m → ⊥

abbrev pub IsPawnDrop : Move → Type 0
IsPawnDrop (Walk from to _) = ⊥
IsPawnDrop (Put to kind) = kind ≡ Pawn

-- a pawn put down does not mate
abbrev pub NoDropMate : Placed → Move → Type 0
NoDropMate p m = IsPawnDrop m → Mated (after p m) → ⊥

-- the side to move breaks none of the rules 3 to 11
pub record Legal (p : Placed) (m : Move) : Type 0 where
  pub keeps : Keeps p m
  pub no_drop_mate : NoDropMate p m

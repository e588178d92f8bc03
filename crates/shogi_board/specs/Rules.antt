-- The rules of one move, in the order in which the first broken one is named.
use Rattle.std.specs.Prelude.{◌≡◌, ◌⊎◌, ◌++◌, List, [], ◌∷◌, Option, Some, None}
use Rattle.shogi_board.specs.declared.moves.Move.{Move}
use Rattle.shogi_board.specs.declared.rule.Rule.{Rule}
use Rattle.shogi_board.specs.declared.rule.Rule.TheVariants.{WrongSide, RepetitionOver, NoPiece, WrongKind, Occupied, CannotReach, BadPromotion, MustPromote, DoubledPawn, LeavesKing, PawnDropMate}
use Rattle.shogi_board.specs.Legal.{HasPiece, KindFits, TargetFree, ReachesTarget, MayPromote, HasFurtherMove, LonePawn, KingSafe, NoDropMate}
use Rattle.shogi_board.specs.Placed.{Placed}

-- the side to move keeps a rule by the move; a position alone breaks neither of the first two
abbrev pub KeepsRule : Placed → Move → Rule → Type 0
KeepsRule p m WrongSide = Unit {0}
KeepsRule p m RepetitionOver = Unit {0}
KeepsRule p m NoPiece = HasPiece p m
KeepsRule p m WrongKind = KindFits p m
KeepsRule p m Occupied = TargetFree p m
KeepsRule p m CannotReach = ReachesTarget p m
KeepsRule p m BadPromotion = MayPromote p m
KeepsRule p m MustPromote = HasFurtherMove p m
KeepsRule p m DoubledPawn = LonePawn p m
KeepsRule p m LeavesKing = KingSafe p m
KeepsRule p m PawnDropMate = NoDropMate p m

-- the rules that a look at the board before the move decides
abbrev pub board_rules : List Rule
board_rules = NoPiece ∷ WrongKind ∷ Occupied ∷ CannotReach ∷ BadPromotion ∷ MustPromote
    ∷ DoubledPawn ∷ []

-- the rules 3 to 10
abbrev pub keeping_rules : List Rule
keeping_rules = board_rules ++ LeavesKing ∷ []

-- the rules 3 to 11
abbrev pub move_rules : List Rule
move_rules = keeping_rules ++ PawnDropMate ∷ []

abbrev pub all_rules : List Rule
all_rules = WrongSide ∷ RepetitionOver ∷ move_rules

-- the first rule of a list that is not kept, or none and all are kept
abbrev pub IsFirstBroken : (Rule → Type 0) → List Rule → Option Rule → Type 0
IsFirstBroken kept [] answer = answer ≡ None
IsFirstBroken kept (rule ∷ rules) answer =
    ((kept rule → ⊥) × (answer ≡ Some rule)) ⊎ (kept rule × IsFirstBroken kept rules answer)

-- The first broken rule of a list and of a longer one.
use Rattle.std.proofs.Common.{◌≡◌, Bool, false, inl, inr, List, [], ◌∷◌, ◌++◌, Option, None, Some, refl, sym, subst, ◌↔◌, IsTrue}
use Rattle.shogi_board.specs.Placed.{Placed}
use Rattle.shogi_board.specs.After.{after}
use Rattle.shogi_board.specs.Legal.{FitsBoard, IsPawnDrop, Keeps, KingSafe, Mated, NoDropMate}
use Rattle.shogi_board.specs.Rules.{KeepsRule, board_rules, keeping_rules, move_rules, IsFirstBroken}
use Rattle.shogi_board.specs.declared.moves.Move.{Move}
use Rattle.shogi_board.specs.declared.rule.Rule.{Rule}
use Rattle.shogi_board.specs.declared.rule.Rule.TheVariants.{LeavesKing, PawnDropMate}

abbrev pub AllKept : (Rule → Type 0) → List Rule → Type 0
AllKept kept [] = Unit {0}
AllKept kept (rule ∷ rules) = kept rule × AllKept kept rules

-- what is broken in a list is broken in a longer one
pub broken-longer : (kept : Rule → Type 0) (xs ys : List Rule) (r : Rule) → IsFirstBroken kept xs (Some r) → IsFirstBroken kept (xs ++ ys) (Some r)
broken-longer kept [] ys r h = cc
broken-longer kept (x ∷ xs) ys r (inl h) = inl h
broken-longer kept (x ∷ xs) ys r (inr h) = inr (h.0, broken-longer kept xs ys r h.1)

-- after a list of which none is broken comes the next
pub none-broken : (kept : Rule → Type 0) (xs ys : List Rule) (answer : Option Rule) → AllKept kept xs → IsFirstBroken kept ys answer → IsFirstBroken kept (xs ++ ys) answer
none-broken kept [] ys answer all h = h
none-broken kept (x ∷ xs) ys answer all h = inr (all.0, none-broken kept xs ys answer all.1 h)

pub broken-not-kept : (kept : Rule → Type 0) (xs : List Rule) (r : Rule) → IsFirstBroken kept xs (Some r) → AllKept kept xs → ⊥
broken-not-kept kept [] r h all = cc
broken-not-kept kept (x ∷ xs) r (inl h) all = h.0 all.0
broken-not-kept kept (x ∷ xs) r (inr h) all = broken-not-kept kept xs r h.1 all.1

pub all-kept : (p : Placed) (m : Move) → Keeps p m → AllKept (KeepsRule p m) keeping_rules
all-kept p m k =
    let f = k.fits in
    (f.has_piece, (f.kind_fits, (f.target_free, (f.reaches, (f.may_promote, (f.further_move, (f.lone_pawn, (k.king_safe, tt))))))))

-- who fits the board and leaves the king attacked breaks rule 10 first
pub leaves-king : (p : Placed) (m : Move) → FitsBoard p m → (KingSafe p m → ⊥) → IsFirstBroken (KeepsRule p m) keeping_rules (Some LeavesKing)
leaves-king p m f bare =
    none-broken (KeepsRule p m) board_rules (LeavesKing ∷ []) (Some LeavesKing)
    (f.has_piece, (f.kind_fits, (f.target_free, (f.reaches, (f.may_promote, (f.further_move, (f.lone_pawn, tt))))))) (inl (bare, refl))

-- who breaks one of the rules 3 to 10 does not keep them
pub unkept : (p : Placed) (m : Move) (r : Rule) → IsFirstBroken (KeepsRule p m) keeping_rules (Some r) → Keeps p m → ⊥
unkept p m r h keeps = broken-not-kept (KeepsRule p m) keeping_rules r h (all-kept p m keeps)

-- who keeps the rules 3 to 10 breaks at most the last
pub none-by-side : (p : Placed) (m : Move) → Keeps p m → NoDropMate p m → IsFirstBroken (KeepsRule p m) move_rules None
none-by-side p m keeps free =
    none-broken (KeepsRule p m) keeping_rules (PawnDropMate ∷ []) None (all-kept p m keeps) (inr (free, refl))

pub mate-by-side : (p : Placed) (m : Move) → Keeps p m → IsPawnDrop m → Mated (after p m) → IsFirstBroken (KeepsRule p m) move_rules (Some PawnDropMate)
mate-by-side p m keeps drop mated =
    none-broken (KeepsRule p m) keeping_rules (PawnDropMate ∷ []) (Some PawnDropMate) (all-kept p m keeps) (inl ((λ free. free drop mated), refl))

-- the first of the rules 3 to 10 that is broken is the first of all
pub unkept-by-side : (p : Placed) (m : Move) (r : Rule) → IsFirstBroken (KeepsRule p m) keeping_rules (Some r) → IsFirstBroken (KeepsRule p m) move_rules (Some r)
unkept-by-side p m r h = broken-longer (KeepsRule p m) keeping_rules (PawnDropMate ∷ []) r h

-- what a test of the position after the move says
pub no-mate : (p next : Placed) (m : Move) (b : Bool) → next ≡ after p m → b ≡ false → IsTrue b ↔ (IsPawnDrop m × Mated next) → NoDropMate p m
no-mate p next m b made off says = λ drop mated. let yes = says.1 (drop, subst (λ (q : Placed). Mated q) (sym made) mated) in cc

-- Each rule of a move is kept or not, and each line has a verdict.
use Rattle.std.proofs.Common.{◌≡◌, ℕ, ◌<◌, ◌≤◌, ◌⊎◌, inl, inr, List, [], ◌∷◌, Option, Some, None, arith, refl, ap}
use Rattle.std.proofs.lemmas.Bool.{cases_lt}
use Rattle.shogi_board.specs.Cells.{at, piece}
use Rattle.shogi_board.specs.Material.{bag_of}
use Rattle.shogi_board.specs.Placed.{Placed}
use Rattle.shogi_board.specs.Reach.{InCheck}
use Rattle.shogi_board.specs.Totals.{count_in}
use Rattle.shogi_board.specs.declared.color.Color.{Color}
use Rattle.shogi_board.specs.declared.color.Color.TheVariants.{Black}
use Rattle.shogi_board.specs.declared.kind.Kind.{Kind}
use Rattle.shogi_board.specs.declared.kind.Kind.TheVariants.{Pawn}
use Rattle.shogi_board.specs.declared.square.Square.{Square}
use Rattle.shogi_board.proofs.Decided.{Decision, decide-as, decide-both, decide-either, decide-implies, decide-not, decide-square, decide-kind, decide-color, decide-cell, decide-pawn_on_file, decide-reach, decide-in_check}
use Rattle.shogi_board.specs.After.{after}
use Rattle.shogi_board.specs.Pieces.{promoted}
use Rattle.shogi_board.specs.Kinds.{rank_for, last_rank}
use Rattle.shogi_board.specs.Legal.{target, kind_after, HasPiece, KindFits, TargetFree, ReachesTarget, MayPromote, HasFurtherMove, LonePawn, KingSafe, FitsBoard, Keeps, Mated, IsPawnDrop, NoDropMate, Legal}
use Rattle.shogi_rules.specs.Positions.{Played, Over, all_of, now_of}
use Rattle.shogi_rules.specs.Repetition.{times}
use Rattle.shogi_rules.specs.Rules.{Kept}
use Rattle.shogi_board.specs.Rules.{IsFirstBroken}
use Rattle.shogi_board.specs.declared.moves.Move.{Move}
use Rattle.shogi_board.specs.declared.moves.Move.TheVariants.{Walk, Put}
use Rattle.shogi_board.specs.declared.rule.Rule.{Rule}
use Rattle.shogi_board.specs.declared.rule.Rule.TheVariants.{WrongSide, RepetitionOver, NoPiece, WrongKind, Occupied, CannotReach, BadPromotion, MustPromote, DoubledPawn, LeavesKing, PawnDropMate}
use Rattle.shogi_board.proofs.Forms.{piece-kind}

pub decide-le : (m n : ℕ) → Decision (m ≤ n)
decide-le m n = elim (cases_lt n m) [ inl lt ↦ inr (λ h. omega (arith, lt, h)) | inr le ↦ inl le ]

pub decide-lt : (m n : ℕ) → Decision (m < n)
decide-lt m n = elim (cases_lt m n) [ inl lt ↦ inl lt | inr le ↦ inr (λ h. omega (arith, le, h)) ]

-- a kind and an optional one are compared as cells of one colour are
decide-option : (a : Option Kind) (k : Kind) → Decision (a ≡ Some k)
decide-option None k = inr (λ h. cc)
decide-option (Some a) k =
    elim (decide-cell (piece Black a) (piece Black k)) [
      | inl e ↦ let same = piece-kind Black a k e in inl (ap Some same)
      | inr differ ↦ inr (λ h. differ (let same : a ≡ k = cc in rw same refl))
    ]

decide-same : (a b : Kind) → Decision (a ≡ b)
decide-same a b = decide-as (Some a ≡ Some b) (a ≡ b) (λ h. cc) (λ h. cc) (decide-option (Some a) b)

decide-has_piece : (p : Placed) (m : Move) → Decision (HasPiece p m)
decide-has_piece p (Walk from to k) = decide-kind (λ was. at p.material.board from ≡ piece p.side was) (λ was. decide-cell (at p.material.board from) (piece p.side was))
decide-has_piece p (Put to k) = decide-lt 0 (count_in (bag_of p.material p.side) k)

decide-kind_fits : (p : Placed) (m : Move) → Decision (KindFits p m)
decide-kind_fits p (Walk from to k) =
    let P : Kind → Type 0 = λ was. (at p.material.board from ≡ piece p.side was) × ((k ≡ was) ⊎ (promoted was ≡ Some k)) in
    decide-as ((was : Kind) × P was) (KindFits p (Walk from to k))
    (λ h. (h.0, h.1.0, h.1.1))
    (λ h. (h.0, (h.1, h.2)))
    (decide-kind P (λ was. decide-both _ _ (decide-cell (at p.material.board from) (piece p.side was)) (decide-either _ _ (decide-same k was) (decide-option (promoted was) k))))
decide-kind_fits p (Put to k) = inl tt

decide-target_free : (p : Placed) (m : Move) → Decision (TargetFree p m)
decide-target_free p (Walk from to k) =
    decide-as (((own : Kind) × (at p.material.board to ≡ piece p.side own)) → ⊥) (TargetFree p (Walk from to k))
    (λ h own there. h (own, there))
    (λ h there. h there.0 there.1)
    (decide-not _ (decide-kind (λ own. at p.material.board to ≡ piece p.side own) (λ own. decide-cell (at p.material.board to) (piece p.side own))))
decide-target_free p (Put to k) = decide-cell (at p.material.board to) None

decide-reaches : (p : Placed) (m : Move) → Decision (ReachesTarget p m)
decide-reaches p (Walk from to k) = decide-reach p.material.board from to
decide-reaches p (Put to k) = inl tt

decide-may_promote : (p : Placed) (m : Move) → Decision (MayPromote p m)
decide-may_promote p (Walk from to k) =
    decide-either _ _ (decide-cell (at p.material.board from) (piece p.side k)) (decide-either _ _ (decide-le (rank_for p.side from) 3) (decide-le (rank_for p.side to) 3))
decide-may_promote p (Put to k) = inl tt

decide-further_move : (p : Placed) (m : Move) → Decision (HasFurtherMove p m)
decide-further_move p m = decide-le (last_rank (kind_after m)) (rank_for p.side (target m))

decide-lone_pawn : (p : Placed) (m : Move) → Decision (LonePawn p m)
decide-lone_pawn p (Walk from to k) = inl tt
decide-lone_pawn p (Put to k) = decide-implies _ _ (decide-same k Pawn) (decide-not _ (decide-pawn_on_file p.material.board p.side to))

decide-king_safe : (p : Placed) (m : Move) → Decision (KingSafe p m)
decide-king_safe p m = decide-not _ (decide-in_check (after p m).material.board p.side)

pub decide-fits : (p : Placed) (m : Move) → Decision (FitsBoard p m)
decide-fits p m =
    decide-as (HasPiece p m × (KindFits p m × (TargetFree p m × (ReachesTarget p m × (MayPromote p m × (HasFurtherMove p m × LonePawn p m)))))) (FitsBoard p m)
    (λ h. record {
      has_piece = h.0;
      kind_fits = h.1.0;
      target_free = h.1.1.0;
      reaches = h.1.1.1.0;
      may_promote = h.1.1.1.1.0;
      further_move = h.1.1.1.1.1.0;
      lone_pawn = h.1.1.1.1.1.1;
    })
    (λ h. (h.has_piece, (h.kind_fits, (h.target_free, (h.reaches, (h.may_promote, (h.further_move, h.lone_pawn)))))))
    (decide-both _ _ (decide-has_piece p m)
    (decide-both _ _ (decide-kind_fits p m)
    (decide-both _ _ (decide-target_free p m)
    (decide-both _ _ (decide-reaches p m)
    (decide-both _ _ (decide-may_promote p m)
    (decide-both _ _ (decide-further_move p m) (decide-lone_pawn p m)))))))

-- whether the side to move keeps the rules 3 to 10
pub decide-keeps : (p : Placed) (m : Move) → Decision (Keeps p m)
decide-keeps p m =
    decide-as (FitsBoard p m × KingSafe p m) (Keeps p m)
    (λ h. record { fits = h.0; king_safe = h.1 })
    (λ h. (h.fits, h.king_safe))
    (decide-both _ _ (decide-fits p m) (decide-king_safe p m))

abbrev SomeWalk : (Move → Type 0) → Type 0
SomeWalk P = (from : Square) × ((to : Square) × ((k : Kind) × P (Walk from to k)))

abbrev SomeDrop : (Move → Type 0) → Type 0
SomeDrop P = (to : Square) × ((k : Kind) × P (Put to k))

move-of : (P : Move → Type 0) → SomeWalk P ⊎ SomeDrop P → (m : Move) × P m
move-of P (inl h) = (Walk h.0 h.1.0 h.1.1.0, h.1.1.1)
move-of P (inr h) = (Put h.0 h.1.0, h.1.1)

of-move : (P : Move → Type 0) (m : Move) → P m → SomeWalk P ⊎ SomeDrop P
of-move P (Walk from to k) h = inl (from, (to, (k, h)))
of-move P (Put to k) h = inr (to, (k, h))

-- some move has it
pub decide-move : (P : Move → Type 0) → ((m : Move) → Decision (P m)) → Decision ((m : Move) × P m)
decide-move P each =
    decide-as (SomeWalk P ⊎ SomeDrop P) ((m : Move) × P m) (move-of P) (λ h. of-move P h.0 h.1)
    (decide-either _ _
    (decide-square (λ from. (to : Square) × ((k : Kind) × P (Walk from to k))) (λ from. decide-square (λ to. (k : Kind) × P (Walk from to k)) (λ to. decide-kind (λ k. P (Walk from to k)) (λ k. each (Walk from to k)))))
    (decide-square (λ to. (k : Kind) × P (Put to k)) (λ to. decide-kind (λ k. P (Put to k)) (λ k. each (Put to k)))))

-- whether the side to move is in check and no move keeps the rules 3 to 10
pub decide-mated : (p : Placed) → Decision (Mated p)
decide-mated p =
    decide-as (InCheck p.material.board p.side × (((m : Move) × Keeps p m) → ⊥)) (Mated p)
    (λ h. record { in_check = h.0; no_move = λ m k. h.1 (m, k) })
    (λ h. (h.in_check, λ s. h.no_move s.0 s.1))
    (decide-both _ _ (decide-in_check p.material.board p.side) (decide-not _ (decide-move (Keeps p) (decide-keeps p))))

decide-pawn_drop : (m : Move) → Decision (IsPawnDrop m)
decide-pawn_drop (Walk from to k) = inr (λ h. h)
decide-pawn_drop (Put to k) = decide-same k Pawn

decide-no_drop_mate : (p : Placed) (m : Move) → Decision (NoDropMate p m)
decide-no_drop_mate p m = decide-implies _ _ (decide-pawn_drop m) (decide-not _ (decide-mated (after p m)))

-- whether the side to move breaks none of the rules 3 to 11
pub decide-legal : (p : Placed) (m : Move) → Decision (Legal p m)
decide-legal p m =
    decide-as (Keeps p m × NoDropMate p m) (Legal p m)
    (λ h. record { keeps = h.0; no_drop_mate = h.1 })
    (λ h. (h.keeps, h.no_drop_mate))
    (decide-both _ _ (decide-keeps p m) (decide-no_drop_mate p m))

-- whether the last position occurs for the fourth time
pub decide-over : (line : Played) → Decision (Over line)
decide-over line = decide-le 4 (times (all_of line) (now_of line))

-- whether a side's move keeps a rule
pub decide-kept : (line : Played) (color : Color) (m : Move) (rule : Rule) → Decision (Kept line color m rule)
decide-kept line color m WrongSide = decide-color color (now_of line).side
decide-kept line color m RepetitionOver = decide-not _ (decide-over line)
decide-kept line color m NoPiece = decide-has_piece (now_of line) m
decide-kept line color m WrongKind = decide-kind_fits (now_of line) m
decide-kept line color m Occupied = decide-target_free (now_of line) m
decide-kept line color m CannotReach = decide-reaches (now_of line) m
decide-kept line color m BadPromotion = decide-may_promote (now_of line) m
decide-kept line color m MustPromote = decide-further_move (now_of line) m
decide-kept line color m DoubledPawn = decide-lone_pawn (now_of line) m
decide-kept line color m LeavesKing = decide-king_safe (now_of line) m
decide-kept line color m PawnDropMate = decide-no_drop_mate (now_of line) m

-- of each list of rules some rule, or none, is the first that is not kept
pub some-broken : (kept : Rule → Type 0) (rules : List Rule) → ((rule : Rule) → Decision (kept rule)) → (answer : Option Rule) × IsFirstBroken kept rules answer
some-broken kept [] each = (None, refl)
some-broken kept (x ∷ xs) each =
    elim (each x) [
      | inl holds ↦ let rest = some-broken kept xs each in (rest.0, inr (holds, rest.1))
      | inr broken ↦ (Some x, inl (broken, refl))
    ]

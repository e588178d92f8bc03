-- A pawn, a lance and a knight reach a square exactly from the ranks on which they still have a
-- move.
use Rattle.std.proofs.Common.{◌≡◌, ◌+◌, ◌-◌, ◌<◌, ◌≤◌, ◌⊎◌, ◌↔◌, inl, inr, [], ◌∷◌, Some, arith}
use Rattle.std.proofs.lemmas.Bool.{cases_lt}
use Rattle.shogi_board.specs.Cells.{Cells, at, piece}
use Rattle.shogi_board.specs.Moves.{forward, jumps, turned_for}
use Rattle.shogi_board.specs.Reach.{Reach, InSight, Steps, Slides}
use Rattle.shogi_board.specs.Squares.{Direction, IsAway}
use Rattle.shogi_board.specs.declared.color.Color.{Color}
use Rattle.shogi_board.specs.declared.color.Color.TheVariants.{Black, White}
use Rattle.shogi_board.specs.declared.kind.Kind.TheVariants.{Pawn, Lance, Knight}
use Rattle.shogi_board.specs.declared.kind.Piece.{Piece}
use Rattle.shogi_board.specs.declared.square.Square.{Square}
use Rattle.shogi_board.proofs.OneOf.{OneOf, one-of, any-of}
use Rattle.shogi_board.proofs.Pieces.{mover-is}
use Rattle.shogi_board.specs.Kinds.{rank_for, last_rank}

abbrev Step : Color → Square → Square → Direction → Type 0
Step color a b d = IsAway a (turned_for color d) 1 b

abbrev Sees : Cells → Color → Square → Square → Direction → Type 0
Sees cells color a b d = InSight cells a (turned_for color d) b

moves-of : (cells : Cells) (a b : Square) (p : Piece) → at cells a ≡ Some p → Reach cells a b → Steps p a b ⊎ Slides cells p a b
moves-of cells a b p h r = let e = mover-is cells a b p h r in rw e at r.moves

not-ahead : (color : Color) (a b : Square) → rank_for color a < 2 → Step color a b forward → ⊥
not-ahead Black a b low away = let j = b.on_board in omega (arith, away.1, low, j.2, j.3)
not-ahead White a b low away = let j = b.on_board in omega (arith, away.1, low, j.2, j.3)

not-seen : (cells : Cells) (color : Color) (a b : Square) → rank_for color a < 2 → Sees cells color a b forward → ⊥
not-seen cells Black a b low sight = let j = b.on_board in omega (arith, sight.away.1, sight.some, low, j.2, j.3)
not-seen cells White a b low sight = let j = b.on_board in omega (arith, sight.away.1, sight.some, low, j.2, j.3)

not-jumped : (color : Color) (a b : Square) → rank_for color a < 3 → OneOf (Step color a b) jumps → ⊥
not-jumped Black a b low (inl away) = let j = b.on_board in omega (arith, away.1, low, j.2, j.3)
not-jumped Black a b low (inr (inl away)) = let j = b.on_board in omega (arith, away.1, low, j.2, j.3)
not-jumped Black a b low (inr (inr none)) = none
not-jumped White a b low (inl away) = let j = b.on_board in omega (arith, away.1, low, j.2, j.3)
not-jumped White a b low (inr (inl away)) = let j = b.on_board in omega (arith, away.1, low, j.2, j.3)
not-jumped White a b low (inr (inr none)) = none

ahead : (color : Color) (a : Square) → 2 ≤ rank_for color a → (b : Square) × Step color a b forward
ahead Black a h =
    let i = a.on_board in
    (record { file = a.file; rank = a.rank - 1; on_board = (omega arith, omega arith, omega arith, omega arith) }, (omega arith, omega arith))
ahead White a h =
    let i = a.on_board in
    (record { file = a.file; rank = a.rank + 1; on_board = (omega arith, omega arith, omega arith, omega arith) }, (omega arith, omega arith))

jump : (color : Color) (a : Square) → 3 ≤ rank_for color a → (b : Square) × OneOf (Step color a b) jumps
jump Black a h =
    let i = a.on_board in
    elim (cases_lt a.file 9) [
      | inl low ↦ (record { file = a.file + 1; rank = a.rank - 2; on_board = (omega arith, omega arith, omega arith, omega arith) }, inl (omega arith, omega arith))
      | inr high ↦ (record { file = a.file - 1; rank = a.rank - 2; on_board = (omega arith, omega arith, omega arith, omega arith) }, inr (inl (omega arith, omega arith)))
    ]
jump White a h =
    let i = a.on_board in
    elim (cases_lt a.file 9) [
      | inl low ↦ (record { file = a.file + 1; rank = a.rank + 2; on_board = (omega arith, omega arith, omega arith, omega arith) }, inr (inl (omega arith, omega arith)))
      | inr high ↦ (record { file = a.file - 1; rank = a.rank + 2; on_board = (omega arith, omega arith, omega arith, omega arith) }, inl (omega arith, omega arith))
    ]

pub pawn-last : (cells : Cells) (color : Color) (a : Square) → at cells a ≡ piece color Pawn → (rank_for color a < last_rank Pawn) ↔ ((b : Square) → Reach cells a b → ⊥)
pawn-last cells color a stands = (
  λ low b r. elim (moves-of cells a b (record { color = color; kind = Pawn }) stands r) [
    | inl step ↦ elim (one-of (Step color a b) (forward ∷ []) step) [ inl away ↦ not-ahead color a b low away | inr none ↦ none ]
    | inr slide ↦ omega (arith, slide.2)
  ],
  λ none. elim (cases_lt (rank_for color a) 2) [
    | inl low ↦ low
    | inr high ↦
        let s = ahead color a high in
        absurd (none s.0 (record {
          mover = record { color = color; kind = Pawn };
          stands = stands;
          moves = inl (any-of (Step color a s.0) (forward ∷ []) (inl s.1));
        }))
  ],
)

pub lance-last : (cells : Cells) (color : Color) (a : Square) → at cells a ≡ piece color Lance → (rank_for color a < last_rank Lance) ↔ ((b : Square) → Reach cells a b → ⊥)
lance-last cells color a stands = (
  λ low b r. elim (moves-of cells a b (record { color = color; kind = Lance }) stands r) [
    | inl step ↦ omega (arith, step.2)
    | inr slide ↦ elim (one-of (Sees cells color a b) (forward ∷ []) slide) [ inl sight ↦ not-seen cells color a b low sight | inr none ↦ none ]
  ],
  λ none. elim (cases_lt (rank_for color a) 2) [
    | inl low ↦ low
    | inr high ↦
        let s = ahead color a high in
        absurd (none s.0 (record {
          mover = record { color = color; kind = Lance };
          stands = stands;
          moves = inr (any-of (Sees cells color a s.0) (forward ∷ []) (inl (record { distance = 1; some = omega arith; away = s.1; clear = λ k t least most away. absurd (omega (arith, least, most)) })));
        }))
  ],
)

pub knight-last : (cells : Cells) (color : Color) (a : Square) → at cells a ≡ piece color Knight → (rank_for color a < last_rank Knight) ↔ ((b : Square) → Reach cells a b → ⊥)
knight-last cells color a stands = (
  λ low b r. elim (moves-of cells a b (record { color = color; kind = Knight }) stands r) [
    | inl step ↦ not-jumped color a b low (one-of (Step color a b) jumps step)
    | inr slide ↦ omega (arith, slide.2)
  ],
  λ none. elim (cases_lt (rank_for color a) 3) [
    | inl low ↦ low
    | inr high ↦
        let s = jump color a high in
        absurd (none s.0 (record {
          mover = record { color = color; kind = Knight };
          stands = stands;
          moves = inl (any-of (Step color a s.0) jumps s.1);
        }))
  ],
)

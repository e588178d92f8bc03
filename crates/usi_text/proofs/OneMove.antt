-- A text is one move.
use Rattle.std.proofs.Common.{◌≡◌, ◌≢◌, ℕ, ◌+◌, ◌==◌, cond, inl, inr, List, [], ◌∷◌, ◌++◌, Some, length, get_or, arith, refl, sym, ap, ◌∙◌, true}
use Rattle.shogi_board.specs.declared.kind.Kind.{Kind}
use Rattle.shogi_board.specs.declared.kind.Kind.TheVariants.{Pawn, Lance, Knight, Silver, Gold, Bishop, Rook, King, ProPawn, ProLance, ProKnight, ProSilver, Horse, Dragon}
use Rattle.shogi_board.specs.declared.kind.Piece.{Piece}
use Rattle.shogi_board.specs.declared.square.Square.{Square}
use Rattle.shogi_board.specs.Cells.{at}
use Rattle.shogi_board.specs.Pieces.{is_hand_kind, promoted}
use Rattle.shogi_board.specs.Placed.{Placed}
use Rattle.shogi_board.specs.Squares.{file_of, rank_of}
use Rattle.shogi_board.proofs.Squares.{square-same}
use Rattle.shogi_board.specs.declared.moves.Move.{Move}
use Rattle.shogi_board.specs.declared.moves.Move.TheVariants.{Walk, Put}
use Rattle.usi_text.specs.Letters.{square_text, letter}
use Rattle.usi_text.specs.Moves.{UsiMove}

abbrev by_letter : ℕ → Kind
by_letter n = cond (n == 80) Pawn (cond (n == 76) Lance (cond (n == 78) Knight (cond (n == 83) Silver (cond (n == 71) Gold (cond (n == 66) Bishop Rook)))))

held_by : (a : Kind) → is_hand_kind a ≡ true → by_letter (letter a) ≡ a
held_by Pawn h = refl
held_by Lance h = refl
held_by Knight h = refl
held_by Silver h = refl
held_by Gold h = refl
held_by Bishop h = refl
held_by Rook h = refl
held_by King h = cc
held_by ProPawn h = cc
held_by ProLance h = cc
held_by ProKnight h = cc
held_by ProSilver h = cc
held_by Horse h = cc
held_by Dragon h = cc

-- the kinds of a hand have different letters
pub held_letter : (a b : Kind) → is_hand_kind a ≡ true → is_hand_kind b ≡ true → letter a ≡ letter b → a ≡ b
held_letter a b h k e = sym (held_by a h) ∙ (ap by_letter e ∙ held_by b k)

abbrev digit : Square → ℕ
digit s = 48 + file_of s

abbrev rank_letter : Square → ℕ
rank_letter s = 96 + rank_of s

-- and squares have different texts of a digit and a letter
pub same_square : (s t : Square) → digit s ≡ digit t → rank_letter s ≡ rank_letter t → s ≡ t
same_square s t e d = square-same s t (omega arith) (omega arith)

pub same_four : (from to other goal : Square) → square_text from ++ square_text to ≡ square_text other ++ square_text goal → (from ≡ other) × (to ≡ goal)
same_four from to other goal e =
    let a : digit from ≡ digit other = cc in
    let b : rank_letter from ≡ rank_letter other = cc in
    let c : digit to ≡ digit goal = cc in
    let d : rank_letter to ≡ rank_letter goal = cc in
    (same_square from other a b, same_square to goal c d)

pub same_five : (from to other goal : Square) → square_text from ++ square_text to ++ 43 ∷ [] ≡ square_text other ++ square_text goal ++ 43 ∷ [] → (from ≡ other) × (to ≡ goal)
same_five from to other goal e =
    let a : digit from ≡ digit other = cc in
    let b : rank_letter from ≡ rank_letter other = cc in
    let c : digit to ≡ digit goal = cc in
    let d : rank_letter to ≡ rank_letter goal = cc in
    (same_square from other a b, same_square to goal c d)

same_walk : (p : Placed) (from to other goal : Square) (k l : Kind) → from ≡ other → to ≡ goal → k ≡ l → Walk from to k ≡ Walk other goal l
same_walk p from to other goal k l a b c =
    ap (λ s. Walk s to k) a ∙ (ap (λ s. Walk other s k) b ∙ ap (λ x. Walk other goal x) c)

-- the piece on the square that a walk leaves is one
same_mover : (p : Placed) (s t : Square) (x y : Piece) → s ≡ t → at p.material.board s ≡ Some x → at p.material.board t ≡ Some y → x.kind ≡ y.kind
same_mover p s t x y e h k =
    let f : at p.material.board s ≡ at p.material.board t = ap (λ q. at p.material.board q) e in
    let g : Some x ≡ Some y = sym h ∙ (f ∙ k) in
    let z : x ≡ y = cc in
    ap (λ (q : Piece). q.kind) z

different_lengths : (m n : ℕ) → m ≡ n → m ≢ n → ⊥
different_lengths m n e h = h e

walks : (p : Placed) (text : List ℕ) (from to other goal : Square) (k l : Kind) → UsiMove p text (Walk from to k) → UsiMove p text (Walk other goal l) → Walk from to k ≡ Walk other goal l
walks p text from to other goal k l (x, hx, inl m) (y, hy, inl n) =
    let s = same_four from to other goal (sym m.0 ∙ n.0) in
    same_walk p from to other goal k l s.0 s.1 (m.1 ∙ (same_mover p from other x y s.0 hx hy ∙ sym n.1))
walks p text from to other goal k l (x, hx, inl m) (y, hy, inr n) =
    absurd (different_lengths 4 5 (ap length (sym m.0 ∙ n.0)) (omega arith))
walks p text from to other goal k l (x, hx, inr m) (y, hy, inl n) =
    absurd (different_lengths 5 4 (ap length (sym m.0 ∙ n.0)) (omega arith))
walks p text from to other goal k l (x, hx, inr m) (y, hy, inr n) =
    let s = same_five from to other goal (sym m.0 ∙ n.0) in
    let e : Some k ≡ Some l = sym m.1 ∙ (ap promoted (same_mover p from other x y s.0 hx hy) ∙ n.1) in
    let z : k ≡ l = cc in
    same_walk p from to other goal k l s.0 s.1 z

-- no walk has * as its second byte
walk_no_drop : (p : Placed) (text : List ℕ) (from to goal : Square) (k l : Kind) → UsiMove p text (Walk from to k) → UsiMove p text (Put goal l) → ⊥
walk_no_drop p text from to goal k l (x, hx, inl m) n =
    let e : rank_letter from ≡ 42 = ap (λ (bs : List ℕ). get_or bs 1 0) (sym m.0 ∙ n.1) in omega arith
walk_no_drop p text from to goal k l (x, hx, inr m) n =
    let e : rank_letter from ≡ 42 = ap (λ (bs : List ℕ). get_or bs 1 0) (sym m.0 ∙ n.1) in omega arith

drops : (p : Placed) (text : List ℕ) (to goal : Square) (k l : Kind) → UsiMove p text (Put to k) → UsiMove p text (Put goal l) → Put to k ≡ Put goal l
drops p text to goal k l m n =
    let e : letter k ∷ 42 ∷ square_text to ≡ letter l ∷ 42 ∷ square_text goal = sym m.1 ∙ n.1 in
    let a : letter k ≡ letter l = cc in
    let b : digit to ≡ digit goal = cc in
    let c : rank_letter to ≡ rank_letter goal = cc in
    ap (λ s. Put s k) (same_square to goal b c) ∙ ap (λ x. Put goal x) (held_letter k l m.0 n.0 a)

-- in one position a text is at most one move
pub one_move : (p : Placed) (text : List ℕ) (m n : Move) → UsiMove p text m → UsiMove p text n → m ≡ n
one_move p text (Walk from to k) (Walk other goal l) h j = walks p text from to other goal k l h j
one_move p text (Walk from to k) (Put goal l) h j = absurd (walk_no_drop p text from to goal k l h j)
one_move p text (Put to k) (Walk other goal l) h j = absurd (walk_no_drop p text other goal to l k j h)
one_move p text (Put to k) (Put goal l) h j = drops p text to goal k l h j

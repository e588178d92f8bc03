-- A move has one text, and so has a line.
use Rattle.std.proofs.Common.{◌≡◌, ℕ, inl, inr, List, [], ◌∷◌, ◌++◌, Some, sym, ap, ◌∙◌, codes}
use Rattle.shogi_board.specs.declared.kind.Kind.{Kind}
use Rattle.shogi_board.specs.declared.kind.Kind.TheVariants.{Pawn, Lance, Knight, Silver, Gold, Bishop, Rook, King, ProPawn, ProLance, ProKnight, ProSilver, Horse, Dragon}
use Rattle.shogi_board.specs.declared.kind.Piece.{Piece}
use Rattle.shogi_board.specs.declared.square.Square.{Square}
use Rattle.shogi_board.specs.Cells.{at}
use Rattle.shogi_board.specs.Placed.{Placed}
use Rattle.shogi_board.specs.declared.moves.Move.{Move}
use Rattle.shogi_board.specs.declared.moves.Move.TheVariants.{Walk, Put}
use Rattle.shogi_board.specs.After.{after}
use Rattle.shogi_board.specs.Pieces.{promoted}
use Rattle.usi_text.specs.LineText.{MovesText, StartText, AfterStart, LineText}
use Rattle.usi_text.specs.Moves.{UsiMove}

-- no kind promotes to itself
never_itself : (k : Kind) → promoted k ≡ Some k → ⊥
never_itself Pawn h = cc
never_itself Lance h = cc
never_itself Knight h = cc
never_itself Silver h = cc
never_itself Gold h = cc
never_itself Bishop h = cc
never_itself Rook h = cc
never_itself King h = cc
never_itself ProPawn h = cc
never_itself ProLance h = cc
never_itself ProKnight h = cc
never_itself ProSilver h = cc
never_itself Horse h = cc
never_itself Dragon h = cc

same_kind : (p : Placed) (s : Square) (x y : Piece) → at p.material.board s ≡ Some x → at p.material.board s ≡ Some y → x.kind ≡ y.kind
same_kind p s x y h k =
    let g : Some x ≡ Some y = sym h ∙ k in
    let z : x ≡ y = cc in
    ap (λ (q : Piece). q.kind) z

not_both : (k a b : Kind) → a ≡ b → k ≡ a → promoted b ≡ Some k → ⊥
not_both k a b e h j = never_itself b (j ∙ ap (λ x. Some x) (h ∙ e))

pub one_text : (p : Placed) (t u : List ℕ) (m : Move) → UsiMove p t m → UsiMove p u m → t ≡ u
one_text p t u (Walk from to k) (x, hx, inl m) (y, hy, inl n) = m.0 ∙ sym n.0
one_text p t u (Walk from to k) (x, hx, inl m) (y, hy, inr n) = absurd (not_both k x.kind y.kind (same_kind p from x y hx hy) m.1 n.1)
one_text p t u (Walk from to k) (x, hx, inr m) (y, hy, inl n) = absurd (not_both k y.kind x.kind (same_kind p from y x hy hx) n.1 m.1)
one_text p t u (Walk from to k) (x, hx, inr m) (y, hy, inr n) = m.0 ∙ sym n.0
one_text p t u (Put to k) h j = h.1 ∙ sym j.1

moves_once : (p : Placed) (ms : List Move) (t u : List ℕ) → MovesText p ms t → MovesText p ms u → t ≡ u
moves_once p [] t u h j = h ∙ sym j
moves_once p (m ∷ ms) t u (v, r, e, w, o) (x, s, f, y, q) =
    let a = one_text p v x m w y in
    let b = moves_once (after p m) ms r s o q in
    e ∙ (ap (λ z. 32 ∷ (z ++ r)) a ∙ (ap (λ z. 32 ∷ (x ++ z)) b ∙ sym f))

following_once : (p : Placed) (ms : List Move) (t u : List ℕ) → AfterStart p ms t → AfterStart p ms u → t ≡ u
following_once p [] t u h j = h ∙ sym j
following_once p (m ∷ ms) t u (r, e, o) (s, f, q) =
    e ∙ (ap (λ z. codes " moves" ++ z) (moves_once p (m ∷ ms) r s o q) ∙ sym f)

start_once : (p : Placed) (t u : List ℕ) → StartText p t → StartText p u → t ≡ u
start_once p t u (inl h) (inl j) = h.1 ∙ sym j.1
start_once p t u (inl h) (inr j) = absurd (j.0 h.0)
start_once p t u (inr h) (inl j) = absurd (h.0 j.0)
start_once p t u (inr h) (inr j) = h.1 ∙ sym j.1

pub one_line_text : (start : Placed) (moves : List Move) (t u : List ℕ) → LineText start moves t → LineText start moves u → t ≡ u
one_line_text start moves t u (v, r, e, h, o) (w, s, f, j, q) =
    e ∙ (ap (λ z. codes "position " ++ (z ++ r)) (start_once start v w h j)
    ∙ (ap (λ z. codes "position " ++ (w ++ z)) (following_once start moves r s o q) ∙ sym f))

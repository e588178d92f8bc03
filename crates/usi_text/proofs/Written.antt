-- What is written, one part after another.
use Rattle.std.proofs.Common.{◌≡◌, ◌≢◌, ℕ, suc, ◌+◌, List, [], ◌∷◌, ◌++◌, Option, Some, None, length, length-append, arith, refl, sym, ap, ◌∙◌, subst, append_assoc}
use Rattle.std.specs.List.{flat_map}
use Rattle.std.proofs.lemmas.List.{append-nil}
use Rattle.shogi_board.specs.declared.kind.Piece.{Piece}
use Rattle.usi_text.specs.Hands.{Pile, pile_text}
use Rattle.usi_text.specs.Letters.{piece_text}
use Rattle.usi_text.specs.SfenText.{cell, cells_from, rank_text, ranks_text, hands_text}
use Rattle.usi_text.proofs.Runs.{text_after}
use Rattle.usi_text.proofs.Piles.{pile_none}
use Rattle.usi_text.specs.Scanning.{run_text}

abbrev Cells : Type 0
Cells = List (Option Piece)

none_more : (board : Cells) (rank m e : ℕ) (t w : List ℕ) → cell board (suc m) rank ≡ None → t ++ text_after e (cells_from board rank (suc m)) ≡ w → t ++ text_after (e + 1) (cells_from board rank m) ≡ w
none_more board rank m e t w here h =
    sym (ap (λ c. t ++ text_after e (c ∷ cells_from board rank m)) here) ∙ h

pub left_none : (board : Cells) (rank n m e : ℕ) (t w : List ℕ) → n ≡ suc m → cell board n rank ≡ None → t ++ text_after e (cells_from board rank n) ≡ w → t ++ text_after (e + 1) (cells_from board rank m) ≡ w
left_none board rank n m e t w same here h =
    none_more board rank m e t w (subst (λ k. cell board k rank ≡ None) same here) (subst (λ k. t ++ text_after e (cells_from board rank k) ≡ w) same h)

regroup : (t a b c w : List ℕ) → t ++ (a ++ (b ++ c)) ≡ w → ((t ++ a) ++ b) ++ c ≡ w
regroup t a b c w h = append_assoc (t ++ a) b c ∙ (append_assoc t a (b ++ c) ∙ h)

piece_more : (board : Cells) (rank m e : ℕ) (p : Piece) (t next w : List ℕ) → cell board (suc m) rank ≡ Some p → t ++ text_after e (cells_from board rank (suc m)) ≡ w → next ≡ (t ++ run_text e) ++ piece_text p → next ++ text_after 0 (cells_from board rank m) ≡ w
piece_more board rank m e p t next w here h d =
    let rest = text_after 0 (cells_from board rank m) in
    ap (λ x. x ++ rest) d ∙ regroup t (run_text e) (piece_text p) rest w (sym (ap (λ c. t ++ text_after e (c ∷ cells_from board rank m)) here) ∙ h)

pub left_piece : (board : Cells) (rank n m e : ℕ) (p : Piece) (t next w : List ℕ) → n ≡ suc m → cell board n rank ≡ Some p → t ++ text_after e (cells_from board rank n) ≡ w → next ≡ (t ++ run_text e) ++ piece_text p → next ++ text_after 0 (cells_from board rank m) ≡ w
left_piece board rank n m e p t next w same here h d =
    piece_more board rank m e p t next w (subst (λ k. cell board k rank ≡ Some p) same here) (subst (λ k. t ++ text_after e (cells_from board rank k) ≡ w) same h) d

pub rank_more : (board : Cells) (r n m : ℕ) (t next w : List ℕ) → n ≡ suc m → t ++ ranks_text board r n ≡ w → next ≡ (t ++ 47 ∷ []) ++ rank_text board r → next ++ ranks_text board (r + 1) m ≡ w
rank_more board r n m t next w same h d =
    let rest = ranks_text board (r + 1) m in
    ap (λ x. x ++ rest) d ∙ regroup t (47 ∷ []) (rank_text board r) rest w (subst (λ k. t ++ ranks_text board r k ≡ w) same h)

pub flat_map-append : {X A : Type 0} (f : X → List A) (xs ys : List X) → flat_map f (xs ++ ys) ≡ flat_map f xs ++ flat_map f ys
flat_map-append f [] ys = refl
flat_map-append f (x ∷ xs) ys = ap (λ z. f x ++ z) (flat_map-append f xs ys) ∙ sym (append_assoc (f x) (flat_map f xs) (flat_map f ys))

abbrev pub stated : List Pile → List ℕ
stated piles = flat_map pile_text piles

abbrev one_more : List ℕ → List ℕ → List Pile → List Pile → Type 0
one_more t next xs rest = next ++ stated rest ≡ t ++ stated (xs ++ rest)

kind_more : (t next : List ℕ) (xs rest : List Pile) → next ≡ t ++ stated xs → one_more t next xs rest
kind_more t next xs rest d =
    ap (λ x. x ++ stated rest) d ∙ (append_assoc t (stated xs) (stated rest) ∙ ap (λ x. t ++ x) (sym (flat_map-append pile_text xs rest)))

-- the seven kinds of a hand, one after another
pub seven_stated : (old t1 t2 t3 t4 t5 t6 t7 : List ℕ) (a b c d e f g : List Pile) → t1 ≡ old ++ stated a → t2 ≡ t1 ++ stated b → t3 ≡ t2 ++ stated c → t4 ≡ t3 ++ stated d → t5 ≡ t4 ++ stated e → t6 ≡ t5 ++ stated f → t7 ≡ t6 ++ stated g → t7 ≡ old ++ stated (a ++ (b ++ (c ++ (d ++ (e ++ (f ++ (g ++ [])))))))
seven_stated old t1 t2 t3 t4 t5 t6 t7 a b c d e f g h1 h2 h3 h4 h5 h6 h7 =
    sym (append-nil t7)
    ∙ (kind_more t6 t7 g [] h7
    ∙ (kind_more t5 t6 f (g ++ []) h6
    ∙ (kind_more t4 t5 e (f ++ (g ++ [])) h5
    ∙ (kind_more t3 t4 d (e ++ (f ++ (g ++ []))) h4
    ∙ (kind_more t2 t3 c (d ++ (e ++ (f ++ (g ++ [])))) h3
    ∙ (kind_more t1 t2 b (c ++ (d ++ (e ++ (f ++ (g ++ []))))) h2
    ∙ kind_more old t1 a (b ++ (c ++ (d ++ (e ++ (f ++ (g ++ [])))))) h1))))))

stated_none : (piles : List Pile) → length (stated piles) ≡ 0 → piles ≡ []
stated_none [] h = refl
stated_none (p ∷ ps) h = absurd (pile_none p (stated ps) h)

pub hands_dash : (old next text : List ℕ) (black white : List Pile) → next ≡ (old ++ stated black) ++ stated white → length next ≡ length old → text ≡ next ++ 45 ∷ [] → text ≡ old ++ hands_text (black ++ white)
hands_dash old next text black white d same e =
    let whole : next ≡ old ++ stated (black ++ white) = d ∙ (append_assoc old (stated black) (stated white) ∙ ap (λ x. old ++ x) (sym (flat_map-append pile_text black white))) in
    let l = ap length whole in
    let none : black ++ white ≡ [] = stated_none (black ++ white) (omega (arith, length-append old (stated (black ++ white)), l, same)) in
    let bare : next ≡ old = whole ∙ (ap (λ ps. old ++ stated ps) none ∙ append-nil old) in
    e ∙ (ap (λ x. x ++ 45 ∷ []) bare ∙ ap (λ ps. old ++ hands_text ps) (sym none))

some_stated : (old : List ℕ) (piles : List Pile) → length (old ++ stated piles) ≢ length old → old ++ stated piles ≡ old ++ hands_text piles
some_stated old [] other = absurd (other (ap length (append-nil old)))
some_stated old (p ∷ ps) other = refl

pub hands_stated : (old next : List ℕ) (black white : List Pile) → next ≡ (old ++ stated black) ++ stated white → length next ≢ length old → next ≡ old ++ hands_text (black ++ white)
hands_stated old next black white d other =
    let whole : next ≡ old ++ stated (black ++ white) = d ∙ (append_assoc old (stated black) (stated white) ∙ ap (λ x. old ++ x) (sym (flat_map-append pile_text black white))) in
    whole ∙ some_stated old (black ++ white) (λ e. other (ap length whole ∙ e))

pub sfen_stated : (old t1 t2 t3 t4 t5 t6 board side hands : List ℕ) → t1 ≡ old ++ board → t2 ≡ t1 ++ 32 ∷ [] → t3 ≡ t2 ++ side → t4 ≡ t3 ++ 32 ∷ [] → t5 ≡ t4 ++ hands → t6 ≡ t5 ++ 32 ∷ 49 ∷ [] → t6 ≡ old ++ (board ++ (32 ∷ (side ++ (32 ∷ (hands ++ (32 ∷ 49 ∷ []))))))
sfen_stated old t1 t2 t3 t4 t5 t6 board side hands h1 h2 h3 h4 h5 h6 =
    h6 ∙ (ap (λ x. x ++ 32 ∷ 49 ∷ []) (h5 ∙ ap (λ x. x ++ hands) (h4 ∙ ap (λ x. x ++ 32 ∷ []) (h3 ∙ ap (λ x. x ++ side) (h2 ∙ ap (λ x. x ++ 32 ∷ []) h1)))) ∙ simp append_assoc)

-- Words give one position or one first fault.
use Rattle.std.proofs.Common.{◌≡◌, ℕ, List, [], ◌∷◌, ◌++◌, Option, Result, Ok, Err, arith, refl, sym, ap, ◌∙◌, subst}
use Rattle.std.specs.List.{flat_map}
use Rattle.shogi_board.specs.declared.color.Color.{Color}
use Rattle.shogi_board.specs.declared.color.Color.TheVariants.{Black, White}
use Rattle.shogi_board.specs.declared.kind.Piece.{Piece}
use Rattle.shogi_board.specs.declared.setup.SetupFault.{SetupFault}
use Rattle.shogi_board.specs.Layout.{Layout}
use Rattle.shogi_board.specs.Placed.{Placed}
use Rattle.usi_text.specs.declared.fault.SfenFault.{SfenFault}
use Rattle.usi_text.specs.declared.fault.SfenFault.TheVariants.{BadBoard, BadSide, BadHands, BadNumber, Start}
use Rattle.usi_text.specs.Boards.{SpellsRanks}
use Rattle.usi_text.specs.Hands.{Pile, SpellsPiles, SpellsHands, pile_text}
use Rattle.usi_text.specs.Setting.{set_up, Finishes}
use Rattle.usi_text.specs.Sfen.{Shape, Sfen, FirstFault, IsBoard, side_text}
use Rattle.usi_text.specs.Words.{nth_word}
use Rattle.usi_text.proofs.Piles.{pile_first, pile_some, dash_no_pile}
use Rattle.usi_text.proofs.Ranks.{cells_once}

abbrev Cells : Type 0
Cells = List (Option Piece)

pub ranks_once : (texts : List (List ℕ)) (a b : Cells) → SpellsRanks texts a → SpellsRanks texts b → a ≡ b
ranks_once [] a b h k = h ∙ sym k
ranks_once (t ∷ ts) a b (r, x, whole, spelt, nine, rest) (q, y, other, stated, size, more) =
    whole ∙ (ap (λ c. c ++ x) (cells_once t r q spelt stated) ∙ (ap (λ c. q ++ c) (ranks_once ts x y rest more) ∙ sym other))

first_apart : (x y : ℕ) (xs ys : List ℕ) → x ∷ xs ≡ y ∷ ys → (x ≡ y → ⊥) → ⊥
first_apart x y xs ys h differ = let e : x ≡ y = cc in differ e

side_once : (a b : Color) → side_text a ≡ side_text b → a ≡ b
side_once Black Black h = refl
side_once Black White h = absurd (first_apart 98 119 [] [] h (omega arith))
side_once White Black h = absurd (first_apart 119 98 [] [] h (omega arith))
side_once White White h = refl

piles_once : (text : List ℕ) (a b : List Pile) → SpellsPiles text a → SpellsPiles text b → a ≡ b
piles_once text [] [] h k = refl
piles_once text [] (q ∷ qs) h k = absurd (pile_some q (flat_map pile_text qs) (sym h.1 ∙ k.1))
piles_once text (p ∷ ps) b h k =
    let f = pile_first p (flat_map pile_text ps) b h.0.0 (subst (λ t. SpellsPiles t b) h.1 k) in
    ap (λ x. p ∷ x) (piles_once (flat_map pile_text ps) ps f.others (h.0.1, refl) f.spelt) ∙ sym f.whole

pub hands_once : (text : List ℕ) (a b : List Pile) → SpellsHands text a → SpellsHands text b → a ≡ b
hands_once text [] [] h k = refl
hands_once text [] (q ∷ qs) h k = absurd (dash_no_pile q (flat_map pile_text qs) k.0.0.0 (sym h ∙ k.1))
hands_once text (p ∷ ps) [] h k = absurd (dash_no_pile p (flat_map pile_text ps) h.0.0.0 (sym k ∙ h.1))
hands_once text (p ∷ ps) (q ∷ qs) h k = piles_once text (p ∷ ps) (q ∷ qs) h k

finishes_once : (r : Result Layout SetupFault) (side : Color) (x y : Result Placed SetupFault) → Finishes r side x → Finishes r side y → x ≡ y
finishes_once (Err f) side x y h k = h ∙ sym k
finishes_once (Ok s) side (Ok p) (Ok q) h k = ap Ok (h.1 ∙ sym k.1)
finishes_once (Ok s) side (Ok p) (Err f) h k = absurd (h.0 k.0)
finishes_once (Ok s) side (Err f) (Ok q) h k = absurd (k.0 h.0)
finishes_once (Ok s) side (Err f) (Err g) h k = ap Err (h.1 ∙ sym k.1)

-- one shape, and so one result of its setup
answers_once : (ws : List (List ℕ)) (c d : Cells) (s t : Color) (p q : List Pile) (x y : Result Placed SetupFault) → Shape ws c s p → Shape ws d t q → Finishes (set_up c p) s x → Finishes (set_up d q) t y → x ≡ y
answers_once ws c d s t p q x y a b f g =
    let e : d ≡ c = ranks_once _ d c b.board.1 a.board.1 in
    let m : t ≡ s = side_once t s (sym b.turn ∙ a.turn) in
    let n : q ≡ p = hands_once (nth_word ws 2) q p b.hands a.hands in
    let g1 = subst (λ z. Finishes (set_up z q) t y) e g in
    let g2 = subst (λ z. Finishes (set_up c z) t y) n g1 in
    let g3 = subst (λ z. Finishes (set_up c p) z y) m g2 in
    finishes_once (set_up c p) s x y f g3

pub sfen_once : (ws : List (List ℕ)) (p q : Placed) → Sfen ws p → Sfen ws q → p ≡ q
sfen_once ws p q a b =
    let e : Ok p ≡ Ok q = answers_once ws a.cells b.cells p.side q.side a.piles b.piles (Ok p) (Ok q) a.shape b.shape a.stands b.stands in
    cc

abbrev is_board : (ws : List (List ℕ)) (c : Cells) (s : Color) (p : List Pile) → Shape ws c s p → IsBoard ws
is_board ws c s p a = (c, a.board)

pub sfen_no_fault : (ws : List (List ℕ)) (p : Placed) (f : SfenFault) → Sfen ws p → FirstFault ws f → ⊥
sfen_no_fault ws p BadBoard a f = f (a.cells, a.shape.board)
sfen_no_fault ws p BadSide a f = f.1 (p.side, a.shape.turn)
sfen_no_fault ws p BadHands a f = f.2 (a.piles, a.shape.hands)
sfen_no_fault ws p BadNumber a f = f.3 a.shape.number
sfen_no_fault ws p (Start fault) a (c, s, ps, shape, stands) =
    let e : Ok p ≡ Err fault = answers_once ws a.cells c p.side s a.piles ps (Ok p) (Err fault) a.shape shape a.stands stands in cc

pub fault_once : (ws : List (List ℕ)) (f g : SfenFault) → FirstFault ws f → FirstFault ws g → f ≡ g
fault_once ws BadBoard BadBoard h k = refl
fault_once ws BadBoard BadSide h k = absurd (h k.0)
fault_once ws BadBoard BadHands h k = absurd (h k.0)
fault_once ws BadBoard BadNumber h k = absurd (h k.0)
fault_once ws BadBoard (Start y) h k = absurd (h (k.0, k.3.board))
fault_once ws BadSide BadBoard h k = absurd (k h.0)
fault_once ws BadSide BadSide h k = refl
fault_once ws BadSide BadHands h k = absurd (h.1 k.1)
fault_once ws BadSide BadNumber h k = absurd (h.1 k.1)
fault_once ws BadSide (Start y) h k = absurd (h.1 (k.1, k.3.turn))
fault_once ws BadHands BadBoard h k = absurd (k h.0)
fault_once ws BadHands BadSide h k = absurd (k.1 h.1)
fault_once ws BadHands BadHands h k = refl
fault_once ws BadHands BadNumber h k = absurd (h.2 k.2)
fault_once ws BadHands (Start y) h k = absurd (h.2 (k.2, k.3.hands))
fault_once ws BadNumber BadBoard h k = absurd (k h.0)
fault_once ws BadNumber BadSide h k = absurd (k.1 h.1)
fault_once ws BadNumber BadHands h k = absurd (k.2 h.2)
fault_once ws BadNumber BadNumber h k = refl
fault_once ws BadNumber (Start y) h k = absurd (h.3 k.3.number)
fault_once ws (Start x) BadBoard h k = absurd (k (h.0, h.3.board))
fault_once ws (Start x) BadSide h k = absurd (k.1 (h.1, h.3.turn))
fault_once ws (Start x) BadHands h k = absurd (k.2 (h.2, h.3.hands))
fault_once ws (Start x) BadNumber h k = absurd (k.3 h.3.number)
fault_once ws (Start x) (Start y) h k =
    let e : Err x ≡ Err y = answers_once ws h.0 k.0 h.1 k.1 h.2 k.2 (Err x) (Err y) h.3 k.3 h.4 k.4 in
    let z : x ≡ y = cc in
    ap Start z

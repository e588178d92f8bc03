-- On which squares the cells of a board's text are.
use Rattle.std.proofs.Common.{◌≡◌, ◌≢◌, ℕ, zero, suc, ◌+◌, ◌<◌, ◌≤◌, List, [], ◌∷◌, Option, Some, None, Result, Ok, Err, length, get_or, arith, refl, sym, ap, ◌∙◌}
use Rattle.std.specs.List.{flat_map}
use Rattle.std.proofs.lemmas.List.{get_or-set_same, get_or-set_other, length-set}
use Rattle.shogi_board.specs.declared.color.Color.{Color}
use Rattle.shogi_board.specs.declared.color.Color.TheVariants.{Black, White}
use Rattle.shogi_board.specs.declared.kind.Piece.{Piece}
use Rattle.shogi_board.specs.declared.setup.SetupFault.{SetupFault}
use Rattle.shogi_board.specs.Layout.{Layout}
use Rattle.shogi_board.specs.Material.{Material, bag_of, with_bag}
use Rattle.shogi_board.specs.Placed.{Placed}
use Rattle.shogi_board.specs.Setup.{empty_layout, add_fault, one_more}
use Rattle.usi_text.specs.Boards.{SpellsBoard}
use Rattle.usi_text.specs.Contents.{HasCells}
use Rattle.usi_text.specs.Hands.{pile_pieces}
use Rattle.usi_text.specs.Setting.{board_place, set_up, Finishes}
use Rattle.usi_text.specs.Sfen.{Sfen}
use Rattle.usi_text.specs.Words.{nth_word}
use Rattle.usi_text.proofs.SfenOnce.{ranks_once}
use Rattle.usi_text.proofs.Setups.{more_fault, put, put_cells, held, hold_pieces, hold_after, place_bound, places_apart, none_there, set_up_is, board_size}
use Rattle.usi_text.proofs.StartFaults.{goes_on}

abbrev Cells : Type 0
Cells = List (Option Piece)

abbrev stands : Cells → ℕ → Option Piece
stands board n = get_or board (board_place n) None

other_stands : (s : Layout) (n m : ℕ) (p : Piece) → n < 81 → m < 81 → m ≢ n → stands (put s n p).material.board m ≡ stands s.material.board m
other_stands s n m p h k apart = get_or-set_other s.material.board (board_place n) (board_place m) (Some p) None (places_apart m n k h (λ e. apart (sym e)))

earlier_stands : (cells : Cells) (s t : Layout) (n m : ℕ) → n + length cells ≤ 81 → m < n → put_cells s n cells ≡ Ok t → stands t.material.board m ≡ stands s.material.board m
earlier_stands [] s t n m few low h = let e : t ≡ s = cc in ap (λ (l : Layout). stands l.material.board m) e
earlier_stands (None ∷ cells) s t n m few low h = earlier_stands cells s t (n + 1) m (omega arith) (omega arith) h
earlier_stands (Some p ∷ cells) s t n m few low h =
    earlier_stands cells (put s n p) t (n + 1) m (omega arith) (omega arith) (goes_on (more_fault s p) _ t h)
    ∙ other_stands s n m p (omega arith) (omega arith) (λ e. omega (arith, e))

-- the squares from the nth of a text on are empty, and there are squares for all
record Room (s : Layout) (n : ℕ) : Type 0 where
  size : length s.material.board ≡ 81
  empty : (m : ℕ) → n ≤ m → m < 81 → stands s.material.board m ≡ None

less_room : (s : Layout) (n : ℕ) → Room s n → Room s (n + 1)
less_room s n r = record { size = r.size; empty = λ m low high. r.empty m (omega arith) high }

room_after : (s : Layout) (n : ℕ) (p : Piece) → n < 81 → Room s n → Room (put s n p) (n + 1)
room_after s n p h r = record {
  size = length-set s.material.board (board_place n) (Some p) ∙ r.size;
  empty = λ m low high. other_stands s n m p h high (λ e. omega (arith, e)) ∙ r.empty m (omega arith) high;
}

cell_stands : (cells : Cells) (s t : Layout) (n m k : ℕ) → n + length cells ≤ 81 → Room s n → put_cells s n cells ≡ Ok t → m ≡ n + k → k < length cells → stands t.material.board m ≡ get_or cells k None
cell_stands [] s t n m k few r h e low = absurd (omega arith)
cell_stands (None ∷ cells) s t n m zero few r h e low =
    earlier_stands cells s t (n + 1) m (omega arith) (omega arith) h ∙ r.empty m (omega arith) (omega arith)
cell_stands (None ∷ cells) s t n m (suc k) few r h e low =
    cell_stands cells s t (n + 1) m k (omega arith) (less_room s n r) h (omega arith) (omega arith)
cell_stands (Some p ∷ cells) s t n m zero few r h e low =
    let here : m ≡ n = omega arith in
    let size = r.size in
    let bound = place_bound n (omega arith) in
    earlier_stands cells (put s n p) t (n + 1) m (omega arith) (omega arith) (goes_on (more_fault s p) _ t h)
    ∙ (ap (λ i. stands (put s n p).material.board i) here ∙ get_or-set_same s.material.board (board_place n) (Some p) None (omega arith))
cell_stands (Some p ∷ cells) s t n m (suc k) few r h e low =
    cell_stands cells (put s n p) t (n + 1) m k (omega arith) (room_after s n p (omega arith) r) (goes_on (more_fault s p) _ t h) (omega arith) (omega arith)

-- hands do not change the board
pub hand_board : (m : Material) (c : Color) (bag : List ℕ) → (with_bag m c bag).board ≡ m.board
hand_board m Black bag = refl
hand_board m White bag = refl

pub hold_board : (ps : List Piece) (s t : Layout) → hold_pieces s ps ≡ Ok t → t.material.board ≡ s.material.board
hold_board [] s t h = let e : t ≡ s = cc in ap (λ (l : Layout). l.material.board) e
hold_board (p ∷ ps) s t h =
    hold_board ps (held s p) t (goes_on (add_fault s p.kind) _ t h) ∙ hand_board s.material p.color (one_more (bag_of s.material p.color) p.kind)

all_room : Room empty_layout 0
all_room = record { size = refl; empty = λ m low high. none_there 81 (board_place m) }

-- the board is that of the cells alone
held_after : (r : Result Layout SetupFault) (ps : List Piece) (t : Layout) → hold_after r ps ≡ Ok t → (s : Layout) × (r ≡ Ok s) × (t.material.board ≡ s.material.board)
held_after (Ok s) ps t h = (s, refl, hold_board ps s t h)
held_after (Err f) ps t h = cc

after_stands : (cells : Cells) (ps : List Piece) (t : Layout) (n : ℕ) → length cells ≡ 81 → n < 81 → hold_after (put_cells empty_layout 0 cells) ps ≡ Ok t → stands t.material.board n ≡ get_or cells n None
after_stands cells ps t n size low h =
    let s = held_after (put_cells empty_layout 0 cells) ps t h in
    ap (λ b. stands b n) s.2 ∙ cell_stands cells empty_layout s.0 0 n n (omega arith) all_room s.1 (omega arith) (omega arith)

finished : (r : Result Layout SetupFault) (side : Color) (p : Placed) → Finishes r side (Ok p) → (t : Layout) × (r ≡ Ok t) × (p.material.board ≡ t.material.board)
finished (Ok t) side p h = (t, refl, ap (λ (q : Placed). q.material.board) h.1)
finished (Err f) side p h = cc

pub board_stands : (ws : List (List ℕ)) (p : Placed) (cells : Cells) → Sfen ws p → SpellsBoard (nth_word ws 0) cells → HasCells p cells
board_stands ws p cells s h n low =
    let same = ranks_once _ s.cells cells s.shape.board.1 h.1 in
    let t = finished (set_up s.cells s.piles) p.side p s.stands in
    let size = board_size (nth_word ws 0) s.cells s.shape.board in
    ap (λ b. stands b n) t.2
    ∙ (after_stands s.cells (flat_map pile_pieces s.piles) t.0 n size low (sym (set_up_is s.cells s.piles size) ∙ t.1) ∙ ap (λ c. get_or c n None) same)

-- The board of a text first, then its hands.
use Rattle.std.proofs.Common.{◌≡◌, ◌≢◌, ℕ, zero, suc, ◌+◌, ◌*◌, ◌<◌, ◌≤◌, ◌&&◌, nat_lt, false, List, [], ◌∷◌, ◌++◌, Option, Some, None, Result, Ok, Err, length, length-append, map, get_or, replicate, arith, refl, ap, ◌∙◌}
use Rattle.std.specs.Prelude.{slice_set}
use Rattle.std.specs.List.{flat_map}
use Rattle.std.proofs.lemmas.List.{get_or-set_other}
use Rattle.shogi_board.specs.declared.kind.Piece.{Piece}
use Rattle.shogi_board.specs.declared.setup.SetupFault.{SetupFault}
use Rattle.shogi_board.specs.declared.setup.SetupFault.TheVariants.{TooMany, SecondKing}
use Rattle.shogi_board.specs.Layout.{Layout}
use Rattle.shogi_board.specs.Pieces.{is_king}
use Rattle.shogi_board.specs.Placing.{Placing, on, placing_fault, placed, unless, place_all}
use Rattle.shogi_board.specs.Setup.{empty_layout, first_fault, is_full}
use Rattle.shogi_board.specs.Totals.{kings_of}
use Rattle.usi_text.specs.Boards.{SpellsRanks, SpellsBoard}
use Rattle.usi_text.specs.Hands.{Pile, pile_pieces}
use Rattle.usi_text.specs.Setting.{board_place, cell_placings, hand_placing, hand_placings, set_up}

abbrev pub Cells : Type 0
Cells = List (Option Piece)

-- why one more piece may not stand on an empty square
abbrev pub more_fault : Layout → Piece → Option SetupFault
more_fault s p =
    first_fault ((SecondKing, is_king p.kind && nat_lt 0 (kings_of s.material.board p.color)) ∷ (TooMany, is_full s p.kind) ∷ [])

abbrev pub put : Layout → ℕ → Piece → Layout
put s n p = record s { material = record s.material { board = slice_set s.material.board (board_place n) (Some p) } }

-- the pieces of the cells, from the nth square of the text on, on empty squares
abbrev pub put_cells : Layout → ℕ → Cells → Result Layout SetupFault
put_cells s n [] = Ok s
put_cells s n (None ∷ cells) = put_cells s (n + 1) cells
put_cells s n (Some p ∷ cells) = unless (more_fault s p) (put_cells (put s n p) (n + 1) cells)

abbrev pub held : Layout → Piece → Layout
held s p = placed s (hand_placing p)

abbrev pub hold_pieces : Layout → List Piece → Result Layout SetupFault
hold_pieces s ps = place_all s (map hand_placing ps)

abbrev pub placed_after : Result Layout SetupFault → List Placing → Result Layout SetupFault
placed_after (Ok s) ps = place_all s ps
placed_after (Err fault) ps = Err fault

abbrev pub hold_after : Result Layout SetupFault → List Piece → Result Layout SetupFault
hold_after (Ok s) ps = hold_pieces s ps
hold_after (Err fault) ps = Err fault

pub place_bound : (n : ℕ) → n < 81 → board_place n < 81
place_bound n h = omega arith

pub places_apart : (m n : ℕ) → m < 81 → n < 81 → n ≢ m → board_place m ≢ board_place n
places_apart m n h k differ e = differ (omega arith)

abbrev nothing : Option Piece
nothing = None

pub none_there : (n i : ℕ) → get_or (replicate n nothing) i nothing ≡ nothing
none_there zero i = refl
none_there (suc n) zero = refl
none_there (suc n) (suc i) = none_there n i

-- on an empty square only two refusals are left
place_more : (s : Layout) (n : ℕ) (p : Piece) → s.rest_given ≡ false → get_or s.material.board n nothing ≡ nothing → placing_fault s (on n p) ≡ more_fault s p
place_more s n p free empty = rw (free, empty) refl

unless_after : (here : Option SetupFault) (r : Result Layout SetupFault) (ps : List Placing) → unless here (placed_after r ps) ≡ placed_after (unless here r) ps
unless_after None r ps = refl
unless_after (Some fault) r ps = refl

-- the squares of a text are distinct, so each of its pieces is placed on an empty one
cells_placed : (cells : Cells) (s : Layout) (n : ℕ) (ps : List Placing) → s.rest_given ≡ false → ((m : ℕ) → n ≤ m → m < 81 → get_or s.material.board (board_place m) nothing ≡ nothing) → n + length cells ≤ 81 → place_all s (cell_placings n cells ++ ps) ≡ placed_after (put_cells s n cells) ps
cells_placed [] s n ps free empty few = refl
cells_placed (None ∷ cells) s n ps free empty few = cells_placed cells s (n + 1) ps free (λ m low high. empty m (omega arith) high) (omega arith)
cells_placed (Some p ∷ cells) s n ps free empty few =
    let bare = empty n (omega arith) (omega arith) in
    let still : (m : ℕ) → n + 1 ≤ m → m < 81 → get_or (put s n p).material.board (board_place m) nothing ≡ nothing = λ m low high.
    get_or-set_other s.material.board (board_place n) (board_place m) (Some p) None (places_apart m n high (omega arith) (omega arith)) ∙ empty m (omega arith) high in
    ap (λ f. unless f (place_all (put s n p) (cell_placings (n + 1) cells ++ ps))) (place_more s (board_place n) p free bare)
    ∙ (ap (unless (more_fault s p)) (cells_placed cells (put s n p) (n + 1) ps free still (omega arith))
    ∙ unless_after (more_fault s p) (put_cells (put s n p) (n + 1) cells) ps)

as_held : (r : Result Layout SetupFault) (ps : List Piece) → placed_after r (map hand_placing ps) ≡ hold_after r ps
as_held (Ok s) ps = refl
as_held (Err fault) ps = refl

pub set_up_is : (cells : Cells) (piles : List Pile) → length cells ≡ 81 → set_up cells piles ≡ hold_after (put_cells empty_layout 0 cells) (flat_map pile_pieces piles)
set_up_is cells piles size =
    cells_placed cells empty_layout 0 (hand_placings piles) refl (λ m low high. none_there 81 (board_place m)) (omega (arith, size))
    ∙ as_held (put_cells empty_layout 0 cells) (flat_map pile_pieces piles)

ranks_size : (texts : List (List ℕ)) (cells : Cells) → SpellsRanks texts cells → length cells ≡ length texts * 9
ranks_size [] cells h = ap length h
ranks_size (x ∷ xs) cells (rank, others, whole, spelt, nine, rest) =
    let e = ap length whole in
    let f = ranks_size xs others rest in
    omega (arith, e, f, nine, length-append rank others)

pub board_size : (text : List ℕ) (cells : Cells) → SpellsBoard text cells → length cells ≡ 81
board_size text cells h = let size = ranks_size _ cells h.1 in let nine = h.0 in omega (arith, size, nine)

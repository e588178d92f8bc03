-- The text of a start, piece by piece.
use Rattle.std.proofs.Common.{◌≡◌, ℕ, zero, suc, ◌+◌, ◌-◌, ◌*◌, ◌<◌, false, List, [], ◌∷◌, ◌++◌, length, drop, get_or, replicate, None, refl, sym, ap, ◌∙◌, append_assoc, arith}
use Rattle.std.specs.List.{flat_map}
use Rattle.std.proofs.lemmas.Grind.{flat_map-append}
use Rattle.std.proofs.lemmas.List.{append-nil}
use Rattle.shogi_board.specs.declared.color.Color.{Color}
use Rattle.shogi_board.specs.declared.color.Color.TheVariants.{Black, White}
use Rattle.shogi_board.specs.declared.kind.Kind.{Kind}
use Rattle.shogi_board.specs.declared.kind.Kind.TheVariants.{Pawn, Lance, Knight, Silver, Gold, Bishop, Rook}
use Rattle.shogi_board.specs.Cells.{Cells, even_cells}
use Rattle.shogi_board.specs.Placed.{Placed}
use Rattle.shogi_board.specs.Squares.{place}
use Rattle.shogi_board.specs.declared.square.Square.{Square}
use Rattle.shogi_board.specs.Totals.{count_in}
use Rattle.csa_text.specs.Codes.{sign, square_text, cell_text}
use Rattle.csa_text.specs.PairTexts.{pair_text, pairs_text}
use Rattle.csa_text.specs.Saying.{rank, pieces}
use Rattle.csa_text.specs.declared.pair.Pair.{Pair}
use Rattle.csa_text.specs.declared.pair.Pair.TheVariants.{InHand}
use Rattle.record_game.specs.Canon.{ended_line, start_items, is_from_even, missing, rank_cells, rank_items, hand_pairs, hand_items, pairs_items}
use Rattle.record_game.specs.Squares.{square_at}

-- the text so far and what is still to be written make the whole
abbrev pub MissingLeft : List ℕ → List ℕ → Cells → ℕ → Type 0
MissingLeft old now board n = now ++ pairs_text (missing n (drop n even_cells) (drop n board)) ≡ old ++ pairs_text (missing 0 even_cells board)

-- the square at a place is written as the text of that place
pub text_at : (s : Square) (n : ℕ) → place s ≡ n → square_text s ≡ square_text (square_at n)
text_at s n h = grind arith

-- so many ranks, from this one on
abbrev pub rows : Cells → ℕ → ℕ → List ℕ
rows cells number zero = []
rows cells number (suc n) = ended_line (rank number (rank_cells cells number)) ++ rows cells (number + 1) n

abbrev pub RowsLeft : List ℕ → List ℕ → Cells → ℕ → Type 0
RowsLeft old now cells number = now ++ rows cells number (10 - number) ≡ old ++ flat_map ended_line (rank_items cells)

next_row : (cells : Cells) (number : ℕ) → number < 10 → rows cells number (10 - number) ≡ ended_line (rank number (rank_cells cells number)) ++ rows cells (number + 1) (10 - (number + 1))
next_row cells number low = let e : 10 - number ≡ suc (10 - (number + 1)) = omega arith in ap (rows cells number) e

pub rows_written : (old now next : List ℕ) (cells : Cells) (number : ℕ) → number < 10 → RowsLeft old now cells number → next ≡ now ++ ended_line (rank number (rank_cells cells number)) → RowsLeft old next cells (number + 1)
rows_written old now next cells number low left is =
    let line = ended_line (rank number (rank_cells cells number)) in
    let rest = rows cells (number + 1) (10 - (number + 1)) in
    ap (λ t. t ++ rest) is ∙ (append_assoc now line rest ∙ (ap (λ t. now ++ t) (sym (next_row cells number low)) ∙ left))

-- the cells of a rank, from this file down to file 1
abbrev pub row_text : Cells → ℕ → ℕ → List ℕ
row_text cells number zero = []
row_text cells number (suc f) = cell_text (get_or cells (f * 9 + (number - 1)) None) ++ row_text cells number f

abbrev pub CellsToWrite : List ℕ → List ℕ → Cells → ℕ → ℕ → Type 0
CellsToWrite old now cells number i = now ++ row_text cells number (9 - i) ≡ old ++ flat_map cell_text (rank_cells cells number)

-- hands
abbrev held : List ℕ → Kind → List Pair
held bag kind = replicate (count_in bag kind) (InHand kind)

some_items : (color : Color) (ps : List Pair) → (length ps ≡ 0 → ⊥) → pairs_items color ps ≡ pieces color ps ∷ []
some_items color [] h = absurd (h refl)
some_items color (p ∷ ps) h = refl

pub hand_line : (color : Color) (bag : List ℕ) → (length (hand_pairs bag) ≡ 0 → ⊥) → flat_map ended_line (hand_items color bag) ≡ ended_line (pieces color (hand_pairs bag))
hand_line color bag some = ap (flat_map ended_line) (some_items color (hand_pairs bag) some) ∙ append-nil (ended_line (pieces color (hand_pairs bag)))

pub hand_text : (bag : List ℕ) → pairs_text (hand_pairs bag) ≡ pairs_text (held bag Rook) ++ (pairs_text (held bag Bishop) ++ (pairs_text (held bag Gold) ++ (pairs_text (held bag Silver) ++ (pairs_text (held bag Knight) ++ (pairs_text (held bag Lance) ++ pairs_text (held bag Pawn))))))
hand_text bag =
    let p = ap pairs_text (append-nil (held bag Pawn)) in
    let l = flat_map-append pair_text (held bag Lance) (held bag Pawn ++ []) ∙ ap (λ t. pairs_text (held bag Lance) ++ t) p in
    let n = flat_map-append pair_text (held bag Knight) (held bag Lance ++ (held bag Pawn ++ [])) ∙ ap (λ t. pairs_text (held bag Knight) ++ t) l in
    let s = flat_map-append pair_text (held bag Silver) (held bag Knight ++ (held bag Lance ++ (held bag Pawn ++ []))) ∙ ap (λ t. pairs_text (held bag Silver) ++ t) n in
    let g = flat_map-append pair_text (held bag Gold) (held bag Silver ++ (held bag Knight ++ (held bag Lance ++ (held bag Pawn ++ [])))) ∙ ap (λ t. pairs_text (held bag Gold) ++ t) s in
    let b = flat_map-append pair_text (held bag Bishop) (held bag Gold ++ (held bag Silver ++ (held bag Knight ++ (held bag Lance ++ (held bag Pawn ++ []))))) ∙ ap (λ t. pairs_text (held bag Bishop) ++ t) g in
    flat_map-append pair_text (held bag Rook) (held bag Bishop ++ (held bag Gold ++ (held bag Silver ++ (held bag Knight ++ (held bag Lance ++ (held bag Pawn ++ [])))))) ∙ ap (λ t. pairs_text (held bag Rook) ++ t) b

pub other_items : (p : Placed) → is_from_even p ≡ false → flat_map ended_line (start_items p) ≡ flat_map ended_line (rank_items p.material.board) ++ (flat_map ended_line (hand_items Black p.material.black) ++ flat_map ended_line (hand_items White p.material.white))
other_items p h =
    rw h (flat_map-append ended_line (rank_items p.material.board) (hand_items Black p.material.black ++ hand_items White p.material.white)
    ∙ ap (λ t. flat_map ended_line (rank_items p.material.board) ++ t) (flat_map-append ended_line (hand_items Black p.material.black) (hand_items White p.material.white)))

pub start_written : (p : Placed) (old a b c : List ℕ) → is_from_even p ≡ false → a ≡ old ++ flat_map ended_line (rank_items p.material.board) → b ≡ a ++ flat_map ended_line (hand_items Black p.material.black) → c ≡ b ++ flat_map ended_line (hand_items White p.material.white) → c ≡ old ++ flat_map ended_line (start_items p)
start_written p old a b c other e f g =
    let ranks = flat_map ended_line (rank_items p.material.board) in
    let black = flat_map ended_line (hand_items Black p.material.black) in
    let white = flat_map ended_line (hand_items White p.material.white) in
    g ∙ (ap (λ t. t ++ white) (f ∙ ap (λ t. t ++ black) e)
    ∙ (append_assoc (old ++ ranks) black white ∙ (append_assoc old ranks (black ++ white) ∙ ap (λ t. old ++ t) (sym (other_items p other)))))

pub line_written : (old b c d : List ℕ) (color : Color) (bag : List ℕ) → (length (hand_pairs bag) ≡ 0 → ⊥) → b ≡ old ++ 80 ∷ sign color ∷ [] → c ≡ b ++ pairs_text (hand_pairs bag) → d ≡ c ++ 10 ∷ [] → d ≡ old ++ flat_map ended_line (hand_items color bag)
line_written old b c d color bag some f g h =
    let text = pairs_text (hand_pairs bag) in
    h ∙ (ap (λ t. t ++ 10 ∷ []) (g ∙ (ap (λ t. t ++ text) f ∙ append_assoc old (80 ∷ sign color ∷ []) text))
    ∙ (append_assoc old (80 ∷ sign color ∷ text) (10 ∷ []) ∙ ap (λ t. old ++ t) (sym (hand_line color bag some))))

replicate_less : (n k : ℕ) (p : Pair) → k < n → replicate (n - k) p ≡ p ∷ replicate (n - (k + 1)) p
replicate_less n k p low = let e : n - k ≡ suc (n - (k + 1)) = omega arith in ap (λ m. replicate m p) e

pub held_more : (whole now next : List ℕ) (kind : Kind) (n k : ℕ) → k < n → now ++ pairs_text (replicate (n - k) (InHand kind)) ≡ whole → next ≡ now ++ pair_text (InHand kind) → next ++ pairs_text (replicate (n - (k + 1)) (InHand kind)) ≡ whole
held_more whole now next kind n k low left e =
    let rest = pairs_text (replicate (n - (k + 1)) (InHand kind)) in
    ap (λ t. t ++ rest) e
    ∙ (append_assoc now (pair_text (InHand kind)) rest ∙ (ap (λ ps. now ++ pairs_text ps) (sym (replicate_less n k (InHand kind) low)) ∙ left))

-- one more kind of a hand
pub kind_more : (old now next done : List ℕ) (bag : List ℕ) (kind : Kind) (n : ℕ) → n ≡ count_in bag kind → now ≡ old ++ done → next ≡ now ++ pairs_text (replicate n (InHand kind)) → next ≡ old ++ (done ++ pairs_text (held bag kind))
kind_more old now next done bag kind n e f g =
    g ∙ (ap (λ m. now ++ pairs_text (replicate m (InHand kind))) e ∙ (ap (λ t. t ++ pairs_text (held bag kind)) f ∙ append_assoc old done (pairs_text (held bag kind))))

six : (a b c d e f g : List ℕ) → ((((((a ++ b) ++ c) ++ d) ++ e) ++ f) ++ g) ≡ a ++ (b ++ (c ++ (d ++ (e ++ (f ++ g)))))
six a b c d e f g =
    append_assoc ((((a ++ b) ++ c) ++ d) ++ e) f g
    ∙ (append_assoc (((a ++ b) ++ c) ++ d) e (f ++ g)
    ∙ (append_assoc ((a ++ b) ++ c) d (e ++ (f ++ g))
    ∙ (append_assoc (a ++ b) c (d ++ (e ++ (f ++ g))) ∙ append_assoc a b (c ++ (d ++ (e ++ (f ++ g)))))))

pub all_kinds : (bag : List ℕ) → (((((((([] ++ pairs_text (held bag Rook)) ++ pairs_text (held bag Bishop)) ++ pairs_text (held bag Gold)) ++ pairs_text (held bag Silver)) ++ pairs_text (held bag Knight)) ++ pairs_text (held bag Lance)) ++ pairs_text (held bag Pawn))) ≡ pairs_text (hand_pairs bag)
all_kinds bag =
    six (pairs_text (held bag Rook)) (pairs_text (held bag Bishop)) (pairs_text (held bag Gold)) (pairs_text (held bag Silver)) (pairs_text (held bag Knight)) (pairs_text (held bag Lance)) (pairs_text (held bag Pawn))
    ∙ sym (hand_text bag)

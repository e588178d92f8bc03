-- What is written for a sound position is its SFEN.
use Rattle.std.proofs.Common.{◌≡◌, ℕ, zero, suc, ◌+◌, ◌<◌, ◌≤◌, ◌==◌, if◌then◌else◌, Bool, true, false, List, [], ◌∷◌, ◌++◌, Option, None, Ok, length, get_or, replicate, arith, refl, sym, ap, ◌∙◌, subst, append_assoc, count_by, slice_index, EachIndex, lit≤, inl, inr}
use Rattle.std.specs.List.{AllByRecursion, flat_map}
use Rattle.std.proofs.lemmas.Bool.Decides.{eqb_tells}
use Rattle.std.proofs.lemmas.List.{append-nil}
use Rattle.shogi_board.specs.declared.color.Color.{Color}
use Rattle.shogi_board.specs.declared.color.Color.TheVariants.{Black, White}
use Rattle.shogi_board.specs.declared.kind.Kind.{Kind}
use Rattle.shogi_board.specs.declared.kind.Kind.TheVariants.{Pawn, Lance, Knight, Silver, Gold, Bishop, Rook, King, ProPawn, ProLance, ProKnight, ProSilver, Horse, Dragon}
use Rattle.shogi_board.specs.declared.kind.Piece.{Piece}
use Rattle.shogi_board.specs.Layout.{Layout}
use Rattle.shogi_board.specs.Pieces.{place_of, is_hand_kind}
use Rattle.shogi_board.specs.Placed.{Placed}
use Rattle.shogi_board.specs.Sound.{IsSound}
use Rattle.shogi_board.specs.Setup.{empty_layout}
use Rattle.shogi_board.specs.Totals.{limit, is_of, no_pieces, count_in}
use Rattle.usi_text.specs.Hands.{Pile, IsPile, SpellsHands, pile_pieces}
use Rattle.usi_text.specs.SfenText.{written_count, pile_of, piles_of, hand_piles, both_piles, hands_text, board_text, sfen_text}
use Rattle.usi_text.specs.Setting.{board_place, set_up}
use Rattle.usi_text.specs.Sfen.{Sfen, Shape, IsDigit, side_text}
use Rattle.usi_text.specs.Words.{words}
use Rattle.usi_text.proofs.Clean.{board_cells, words_front, words_alone, no_space, board_bytes, board_some, board_spelt, hands_word, side_word}
use Rattle.usi_text.proofs.Filled.{fill, start_filled, filled_board, board_cells-length, board_cells-place, hold_black, hold_white}
use Rattle.usi_text.proofs.Piles.{answer_empty}
use Rattle.usi_text.proofs.Setups.{put_cells, hold_pieces, hold_after, set_up_is}
use Rattle.usi_text.proofs.Written.{flat_map-append}

abbrev Cells : Type 0
Cells = List (Option Piece)

abbrev pub lay : Cells → List ℕ → List ℕ → Layout
lay b black white = record { material = record { board = b; black = black; white = white }; rest_given = false }

abbrev made : Color → Kind → Piece
made c k = record { color = c; kind = k }

not_none : (m : ℕ) → (suc m == 0) ≡ false
not_none m = elim (eqb_tells (suc m) 0) [ inl same ↦ let e = same.1 in absurd (omega arith) | inr other ↦ other.0 ]

one_pile : (p : Piece) (n : ℕ) → pile_pieces (record { count = written_count n; piece = p }) ≡ replicate n p
one_pile p n =
    elim (eqb_tells n 1) [
      | inl same ↦ rw (same.0, same.1) refl
      | inr other ↦ rw other.0 refl
    ]

pile_all : (p : Piece) (n : ℕ) → flat_map pile_pieces (pile_of p n) ≡ replicate n p
pile_all p zero = refl
pile_all p (suc m) = rw (not_none m) (append-nil (pile_pieces (record { count = written_count (suc m); piece = p })) ∙ one_pile p (suc m))

written_fits : (n : ℕ) (p : Piece) → 1 ≤ n → n ≤ 99 → is_hand_kind p.kind ≡ true → IsPile (record { count = written_count n; piece = p })
written_fits n p low high h =
    elim (eqb_tells n 1) [
      | inl same ↦ rw same.0 (tt, h)
      | inr other ↦ rw other.0 ((low, high), h)
    ]

piles_fit : (p : Piece) (n : ℕ) → n ≤ 99 → is_hand_kind p.kind ≡ true → AllByRecursion IsPile (pile_of p n)
piles_fit p zero high h = tt
piles_fit p (suc m) high h = rw (not_none m) (written_fits (suc m) p (omega arith) high h, tt)

all_joined : (xs ys : List Pile) → AllByRecursion IsPile xs → AllByRecursion IsPile ys → AllByRecursion IsPile (xs ++ ys)
all_joined [] ys h k = k
all_joined (x ∷ xs) ys h k = (h.0, all_joined xs ys h.1 k)

-- a hand's pieces, kind by kind
abbrev pieces : Color → List ℕ → List Kind → List Piece → List Piece
pieces c bag [] rest = rest
pieces c bag (k ∷ ks) rest = replicate (count_in bag k) (made c k) ++ pieces c bag ks rest

pieces_are : (c : Color) (bag : List ℕ) (ks : List Kind) (rest : List Piece) → flat_map pile_pieces (flat_map (piles_of c bag) ks) ++ rest ≡ pieces c bag ks rest
pieces_are c bag [] rest = refl
pieces_are c bag (k ∷ ks) rest =
    let xs = piles_of c bag k in
    let ys = flat_map (piles_of c bag) ks in
    ap (λ x. x ++ rest) (flat_map-append pile_pieces xs ys)
    ∙ (append_assoc (flat_map pile_pieces xs) (flat_map pile_pieces ys) rest
    ∙ (ap (λ x. x ++ (flat_map pile_pieces ys ++ rest)) (pile_all (made c k) (count_in bag k)) ∙ ap (λ x. replicate (count_in bag k) (made c k) ++ x) (pieces_are c bag ks rest)))

abbrev order : List Kind
order = Rook ∷ Bishop ∷ Gold ∷ Silver ∷ Knight ∷ Lance ∷ Pawn ∷ []

-- the seven counts of a bag
record Seven (bag : List ℕ) : Type 0 where
  a0 : ℕ
  a1 : ℕ
  a2 : ℕ
  a3 : ℕ
  a4 : ℕ
  a5 : ℕ
  a6 : ℕ
  is : bag ≡ a0 ∷ a1 ∷ a2 ∷ a3 ∷ a4 ∷ a5 ∷ a6 ∷ []

seven : (bag : List ℕ) → length bag ≡ 7 → Seven bag
seven [] h = absurd (omega arith)
seven (a0 ∷ []) h = absurd (omega arith)
seven (a0 ∷ a1 ∷ []) h = absurd (omega arith)
seven (a0 ∷ a1 ∷ a2 ∷ []) h = absurd (omega arith)
seven (a0 ∷ a1 ∷ a2 ∷ a3 ∷ []) h = absurd (omega arith)
seven (a0 ∷ a1 ∷ a2 ∷ a3 ∷ a4 ∷ []) h = absurd (omega arith)
seven (a0 ∷ a1 ∷ a2 ∷ a3 ∷ a4 ∷ a5 ∷ []) h = absurd (omega arith)
seven (a0 ∷ a1 ∷ a2 ∷ a3 ∷ a4 ∷ a5 ∷ a6 ∷ []) h = record { a0 = a0; a1 = a1; a2 = a2; a3 = a3; a4 = a4; a5 = a5; a6 = a6; is = refl }
seven (a0 ∷ a1 ∷ a2 ∷ a3 ∷ a4 ∷ a5 ∷ a6 ∷ x ∷ xs) h = absurd (omega arith)

abbrev Fits : Cells → List ℕ → List ℕ → Type 0
Fits b black white = (k : Kind) → count_by (is_of k) b + slice_index black (place_of k) + slice_index white (place_of k) ≤ limit k

black_held : (b : Cells) (a0 a1 a2 a3 a4 a5 a6 w0 w1 w2 w3 w4 w5 w6 : ℕ) (rest : List Piece) → Fits b (a0 ∷ a1 ∷ a2 ∷ a3 ∷ a4 ∷ a5 ∷ a6 ∷ []) (w0 ∷ w1 ∷ w2 ∷ w3 ∷ w4 ∷ w5 ∷ w6 ∷ []) → hold_pieces (lay b no_pieces no_pieces) (pieces Black (a0 ∷ a1 ∷ a2 ∷ a3 ∷ a4 ∷ a5 ∷ a6 ∷ []) order rest) ≡ hold_pieces (lay b (a0 ∷ a1 ∷ a2 ∷ a3 ∷ a4 ∷ a5 ∷ a6 ∷ []) no_pieces) rest
black_held b a0 a1 a2 a3 a4 a5 a6 w0 w1 w2 w3 w4 w5 w6 rest fits =
    hold_black b (0 ∷ 0 ∷ 0 ∷ 0 ∷ 0 ∷ 0 ∷ 0 ∷ []) no_pieces Rook a6 0 a6 (pieces Black (a0 ∷ a1 ∷ a2 ∷ a3 ∷ a4 ∷ a5 ∷ a6 ∷ []) (Bishop ∷ Gold ∷ Silver ∷ Knight ∷ Lance ∷ Pawn ∷ []) rest) refl refl refl (omega arith) (let f = fits Rook in omega arith)
    ∙ (hold_black b (0 ∷ 0 ∷ 0 ∷ 0 ∷ 0 ∷ 0 ∷ a6 ∷ []) no_pieces Bishop a5 0 a5 (pieces Black (a0 ∷ a1 ∷ a2 ∷ a3 ∷ a4 ∷ a5 ∷ a6 ∷ []) (Gold ∷ Silver ∷ Knight ∷ Lance ∷ Pawn ∷ []) rest) refl refl refl (omega arith) (let f = fits Bishop in omega arith)
    ∙ (hold_black b (0 ∷ 0 ∷ 0 ∷ 0 ∷ 0 ∷ a5 ∷ a6 ∷ []) no_pieces Gold a4 0 a4 (pieces Black (a0 ∷ a1 ∷ a2 ∷ a3 ∷ a4 ∷ a5 ∷ a6 ∷ []) (Silver ∷ Knight ∷ Lance ∷ Pawn ∷ []) rest) refl refl refl (omega arith) (let f = fits Gold in omega arith)
    ∙ (hold_black b (0 ∷ 0 ∷ 0 ∷ 0 ∷ a4 ∷ a5 ∷ a6 ∷ []) no_pieces Silver a3 0 a3 (pieces Black (a0 ∷ a1 ∷ a2 ∷ a3 ∷ a4 ∷ a5 ∷ a6 ∷ []) (Knight ∷ Lance ∷ Pawn ∷ []) rest) refl refl refl (omega arith) (let f = fits Silver in omega arith)
    ∙ (hold_black b (0 ∷ 0 ∷ 0 ∷ a3 ∷ a4 ∷ a5 ∷ a6 ∷ []) no_pieces Knight a2 0 a2 (pieces Black (a0 ∷ a1 ∷ a2 ∷ a3 ∷ a4 ∷ a5 ∷ a6 ∷ []) (Lance ∷ Pawn ∷ []) rest) refl refl refl (omega arith) (let f = fits Knight in omega arith)
    ∙ (hold_black b (0 ∷ 0 ∷ a2 ∷ a3 ∷ a4 ∷ a5 ∷ a6 ∷ []) no_pieces Lance a1 0 a1 (pieces Black (a0 ∷ a1 ∷ a2 ∷ a3 ∷ a4 ∷ a5 ∷ a6 ∷ []) (Pawn ∷ []) rest) refl refl refl (omega arith) (let f = fits Lance in omega arith)
    ∙ (hold_black b (0 ∷ a1 ∷ a2 ∷ a3 ∷ a4 ∷ a5 ∷ a6 ∷ []) no_pieces Pawn a0 0 a0 (pieces Black (a0 ∷ a1 ∷ a2 ∷ a3 ∷ a4 ∷ a5 ∷ a6 ∷ []) ([]) rest) refl refl refl (omega arith) (let f = fits Pawn in omega arith)))))))

white_held : (b : Cells) (a0 a1 a2 a3 a4 a5 a6 w0 w1 w2 w3 w4 w5 w6 : ℕ) (rest : List Piece) → Fits b (a0 ∷ a1 ∷ a2 ∷ a3 ∷ a4 ∷ a5 ∷ a6 ∷ []) (w0 ∷ w1 ∷ w2 ∷ w3 ∷ w4 ∷ w5 ∷ w6 ∷ []) → hold_pieces (lay b (a0 ∷ a1 ∷ a2 ∷ a3 ∷ a4 ∷ a5 ∷ a6 ∷ []) no_pieces) (pieces White (w0 ∷ w1 ∷ w2 ∷ w3 ∷ w4 ∷ w5 ∷ w6 ∷ []) order rest) ≡ hold_pieces (lay b (a0 ∷ a1 ∷ a2 ∷ a3 ∷ a4 ∷ a5 ∷ a6 ∷ []) (w0 ∷ w1 ∷ w2 ∷ w3 ∷ w4 ∷ w5 ∷ w6 ∷ [])) rest
white_held b a0 a1 a2 a3 a4 a5 a6 w0 w1 w2 w3 w4 w5 w6 rest fits =
    hold_white b (a0 ∷ a1 ∷ a2 ∷ a3 ∷ a4 ∷ a5 ∷ a6 ∷ []) (0 ∷ 0 ∷ 0 ∷ 0 ∷ 0 ∷ 0 ∷ 0 ∷ []) Rook w6 0 w6 (pieces White (w0 ∷ w1 ∷ w2 ∷ w3 ∷ w4 ∷ w5 ∷ w6 ∷ []) (Bishop ∷ Gold ∷ Silver ∷ Knight ∷ Lance ∷ Pawn ∷ []) rest) refl refl refl (omega arith) (let f = fits Rook in omega arith)
    ∙ (hold_white b (a0 ∷ a1 ∷ a2 ∷ a3 ∷ a4 ∷ a5 ∷ a6 ∷ []) (0 ∷ 0 ∷ 0 ∷ 0 ∷ 0 ∷ 0 ∷ w6 ∷ []) Bishop w5 0 w5 (pieces White (w0 ∷ w1 ∷ w2 ∷ w3 ∷ w4 ∷ w5 ∷ w6 ∷ []) (Gold ∷ Silver ∷ Knight ∷ Lance ∷ Pawn ∷ []) rest) refl refl refl (omega arith) (let f = fits Bishop in omega arith)
    ∙ (hold_white b (a0 ∷ a1 ∷ a2 ∷ a3 ∷ a4 ∷ a5 ∷ a6 ∷ []) (0 ∷ 0 ∷ 0 ∷ 0 ∷ 0 ∷ w5 ∷ w6 ∷ []) Gold w4 0 w4 (pieces White (w0 ∷ w1 ∷ w2 ∷ w3 ∷ w4 ∷ w5 ∷ w6 ∷ []) (Silver ∷ Knight ∷ Lance ∷ Pawn ∷ []) rest) refl refl refl (omega arith) (let f = fits Gold in omega arith)
    ∙ (hold_white b (a0 ∷ a1 ∷ a2 ∷ a3 ∷ a4 ∷ a5 ∷ a6 ∷ []) (0 ∷ 0 ∷ 0 ∷ 0 ∷ w4 ∷ w5 ∷ w6 ∷ []) Silver w3 0 w3 (pieces White (w0 ∷ w1 ∷ w2 ∷ w3 ∷ w4 ∷ w5 ∷ w6 ∷ []) (Knight ∷ Lance ∷ Pawn ∷ []) rest) refl refl refl (omega arith) (let f = fits Silver in omega arith)
    ∙ (hold_white b (a0 ∷ a1 ∷ a2 ∷ a3 ∷ a4 ∷ a5 ∷ a6 ∷ []) (0 ∷ 0 ∷ 0 ∷ w3 ∷ w4 ∷ w5 ∷ w6 ∷ []) Knight w2 0 w2 (pieces White (w0 ∷ w1 ∷ w2 ∷ w3 ∷ w4 ∷ w5 ∷ w6 ∷ []) (Lance ∷ Pawn ∷ []) rest) refl refl refl (omega arith) (let f = fits Knight in omega arith)
    ∙ (hold_white b (a0 ∷ a1 ∷ a2 ∷ a3 ∷ a4 ∷ a5 ∷ a6 ∷ []) (0 ∷ 0 ∷ w2 ∷ w3 ∷ w4 ∷ w5 ∷ w6 ∷ []) Lance w1 0 w1 (pieces White (w0 ∷ w1 ∷ w2 ∷ w3 ∷ w4 ∷ w5 ∷ w6 ∷ []) (Pawn ∷ []) rest) refl refl refl (omega arith) (let f = fits Lance in omega arith)
    ∙ (hold_white b (a0 ∷ a1 ∷ a2 ∷ a3 ∷ a4 ∷ a5 ∷ a6 ∷ []) (0 ∷ w1 ∷ w2 ∷ w3 ∷ w4 ∷ w5 ∷ w6 ∷ []) Pawn w0 0 w0 (pieces White (w0 ∷ w1 ∷ w2 ∷ w3 ∷ w4 ∷ w5 ∷ w6 ∷ []) ([]) rest) refl refl refl (omega arith) (let f = fits Pawn in omega arith)))))))

hands_held : (b : Cells) (a0 a1 a2 a3 a4 a5 a6 w0 w1 w2 w3 w4 w5 w6 : ℕ) → Fits b (a0 ∷ a1 ∷ a2 ∷ a3 ∷ a4 ∷ a5 ∷ a6 ∷ []) (w0 ∷ w1 ∷ w2 ∷ w3 ∷ w4 ∷ w5 ∷ w6 ∷ []) → hold_pieces (lay b no_pieces no_pieces) (flat_map pile_pieces (hand_piles Black (a0 ∷ a1 ∷ a2 ∷ a3 ∷ a4 ∷ a5 ∷ a6 ∷ []) ++ hand_piles White (w0 ∷ w1 ∷ w2 ∷ w3 ∷ w4 ∷ w5 ∷ w6 ∷ []))) ≡ Ok (lay b (a0 ∷ a1 ∷ a2 ∷ a3 ∷ a4 ∷ a5 ∷ a6 ∷ []) (w0 ∷ w1 ∷ w2 ∷ w3 ∷ w4 ∷ w5 ∷ w6 ∷ []))
hands_held b a0 a1 a2 a3 a4 a5 a6 w0 w1 w2 w3 w4 w5 w6 fits =
    let black = hand_piles Black (a0 ∷ a1 ∷ a2 ∷ a3 ∷ a4 ∷ a5 ∷ a6 ∷ []) in
    let white = hand_piles White (w0 ∷ w1 ∷ w2 ∷ w3 ∷ w4 ∷ w5 ∷ w6 ∷ []) in
    let later = flat_map pile_pieces white in
    ap (hold_pieces (lay b no_pieces no_pieces)) (flat_map-append pile_pieces black white ∙ pieces_are Black (a0 ∷ a1 ∷ a2 ∷ a3 ∷ a4 ∷ a5 ∷ a6 ∷ []) order later)
    ∙ (black_held b a0 a1 a2 a3 a4 a5 a6 w0 w1 w2 w3 w4 w5 w6 later fits
    ∙ (ap (hold_pieces (lay b (a0 ∷ a1 ∷ a2 ∷ a3 ∷ a4 ∷ a5 ∷ a6 ∷ []) no_pieces)) (sym (append-nil later) ∙ pieces_are White (w0 ∷ w1 ∷ w2 ∷ w3 ∷ w4 ∷ w5 ∷ w6 ∷ []) order [])
    ∙ white_held b a0 a1 a2 a3 a4 a5 a6 w0 w1 w2 w3 w4 w5 w6 [] fits))

bags_held : (b : Cells) (black white : List ℕ) → length black ≡ 7 → length white ≡ 7 → Fits b black white → hold_pieces (lay b no_pieces no_pieces) (flat_map pile_pieces (hand_piles Black black ++ hand_piles White white)) ≡ Ok (lay b black white)
bags_held b black white h k fits =
    let x = seven black h in
    let y = seven white k in
    let P : List ℕ → List ℕ → Type 0 = λ black white. hold_pieces (lay b no_pieces no_pieces) (flat_map pile_pieces (hand_piles Black black ++ hand_piles White white)) ≡ Ok (lay b black white) in
    let f : Fits b (x.a0 ∷ x.a1 ∷ x.a2 ∷ x.a3 ∷ x.a4 ∷ x.a5 ∷ x.a6 ∷ []) (y.a0 ∷ y.a1 ∷ y.a2 ∷ y.a3 ∷ y.a4 ∷ y.a5 ∷ y.a6 ∷ []) = subst (λ w. Fits b (x.a0 ∷ x.a1 ∷ x.a2 ∷ x.a3 ∷ x.a4 ∷ x.a5 ∷ x.a6 ∷ []) w) y.is (subst (λ l. Fits b l white) x.is fits) in
    subst (λ l. P l white) (sym x.is) (subst (λ w. P (x.a0 ∷ x.a1 ∷ x.a2 ∷ x.a3 ∷ x.a4 ∷ x.a5 ∷ x.a6 ∷ []) w) (sym y.is) (hands_held b x.a0 x.a1 x.a2 x.a3 x.a4 x.a5 x.a6 y.a0 y.a1 y.a2 y.a3 y.a4 y.a5 y.a6 f))

hand_fits : (c : Color) (bag : List ℕ) (ks : List Kind) → ((k : Kind) → count_in bag k ≤ 99) → AllByRecursion (λ k. is_hand_kind k ≡ true) ks → AllByRecursion IsPile (flat_map (piles_of c bag) ks)
hand_fits c bag [] few h = tt
hand_fits c bag (k ∷ ks) few h = all_joined (piles_of c bag k) (flat_map (piles_of c bag) ks) (piles_fit (made c k) (count_in bag k) (few k) h.0) (hand_fits c bag ks few h.1)

order_held : AllByRecursion (λ k. is_hand_kind k ≡ true) order
order_held = (refl, (refl, (refl, (refl, (refl, (refl, (refl, tt)))))))

limit_few : (k : Kind) → limit k ≤ 18
limit_few Pawn = lit≤ tt
limit_few Lance = lit≤ tt
limit_few Knight = lit≤ tt
limit_few Silver = lit≤ tt
limit_few Gold = lit≤ tt
limit_few Bishop = lit≤ tt
limit_few Rook = lit≤ tt
limit_few King = lit≤ tt
limit_few ProPawn = lit≤ tt
limit_few ProLance = lit≤ tt
limit_few ProKnight = lit≤ tt
limit_few ProSilver = lit≤ tt
limit_few Horse = lit≤ tt
limit_few Dragon = lit≤ tt

count_less : (b : Bool) (n : ℕ) → n ≤ 99 → (if b then n else 0) ≤ 99
count_less true n h = h
count_less false n h = lit≤ tt

pub both_fit : (p : Placed) → IsSound p → AllByRecursion IsPile (both_piles p)
both_fit p s =
    let t = s.within.totals in
    all_joined (hand_piles Black p.material.black) (hand_piles White p.material.white)
    (hand_fits Black p.material.black order (λ k. count_less (is_hand_kind k) (slice_index p.material.black (place_of k)) (let f = t k in let l = limit_few k in omega arith)) order_held)
    (hand_fits White p.material.white order (λ k. count_less (is_hand_kind k) (slice_index p.material.white (place_of k)) (let f = t k in let l = limit_few k in omega arith)) order_held)

pub hands_spelt : (ps : List Pile) → AllByRecursion IsPile ps → SpellsHands (hands_text ps) ps
hands_spelt [] h = refl
hands_spelt (p ∷ ps) h = (h, refl)

hands_some : (text : List ℕ) (ps : List Pile) → SpellsHands text ps → 0 < length text
hands_some [] ps s = absurd (answer_empty [] refl ps s)
hands_some (b ∷ bs) ps s = omega arith

side_some : (c : Color) → 0 < length (side_text c)
side_some Black = lit≤ tt
side_some White = lit≤ tt

-- the words of what is written
pub sfen_words : (p : Placed) → IsSound p → words (sfen_text p) ≡ board_text p.material.board ∷ side_text p.side ∷ hands_text (both_piles p) ∷ (49 ∷ []) ∷ []
sfen_words p s =
    let board = board_text p.material.board in
    let side = side_text p.side in
    let hands = hands_text (both_piles p) in
    let fit = both_fit p s in
    let last : List ℕ = 49 ∷ [] in
    words_front board (side ++ (32 ∷ (hands ++ (32 ∷ last)))) (no_space board (board_bytes p.material.board)) (board_some p.material.board)
    ∙ (ap (λ t. board ∷ t) (words_front side (hands ++ (32 ∷ last)) (no_space side (side_word p.side)) (side_some p.side))
    ∙ (ap (λ t. board ∷ side ∷ t) (words_front hands last (no_space hands (hands_word (both_piles p) fit)) (hands_some hands (both_piles p) (hands_spelt (both_piles p) fit)))
    ∙ ap (λ t. board ∷ side ∷ hands ∷ t) (words_alone last (no_space last (lit≤ tt, tt)) (lit≤ tt))))

pub same_layout : (s : Layout) (b : Cells) (black white : List ℕ) → s.material.board ≡ b → s.material.black ≡ black → s.material.white ≡ white → s.rest_given ≡ false → s ≡ lay b black white
same_layout s b black white p q r f =
    ap (λ x. record s { material = record s.material { board = x } }) p
    ∙ (ap (λ x. record s { material = record s.material { board = b; black = x } }) q
    ∙ (ap (λ x. record s { material = record { board = b; black = black; white = x } }) r ∙ ap (λ x. record (lay b black white) { rest_given = x }) f))

one_digit : EachIndex {X = ℕ} (49 ∷ []) (λ k. IsDigit (slice_index (49 ∷ []) k))
one_digit zero h = (lit≤ tt, lit≤ tt)
one_digit (suc k) h = absurd (omega arith)

abbrev nothing : Option Piece
nothing = None

pub from_zero : (k : ℕ) → k ≡ 0 + k
from_zero k = omega arith

cells_put : (p : Placed) → IsSound p → put_cells empty_layout 0 (board_cells p.material.board 1 9) ≡ Ok (lay p.material.board no_pieces no_pieces)
cells_put p s =
    let w = s.within in
    let r = fill p.material.board (board_cells p.material.board 1 9) empty_layout 0 w.squares (λ k. let t = w.totals k in omega arith) w.kings (start_filled p.material.board) (board_cells-length p.material.board 1 9) (λ k h. board_cells-place p.material.board k (let l = board_cells-length p.material.board 1 9 in omega arith) ∙ ap (λ m. get_or p.material.board (board_place m) nothing) (from_zero k)) in
    let f = r.filled in
    let b = filled_board p.material.board r.last w.squares f in
    r.put_all ∙ ap Ok (same_layout r.last p.material.board no_pieces no_pieces b f.black f.white f.free)

-- what is written for a sound position is its SFEN
pub again : (p : Placed) → IsSound p → Sfen (words (sfen_text p)) p
again p s =
    let e = sfen_words p s in
    let fit = both_fit p s in
    let ws : List (List ℕ) = board_text p.material.board ∷ side_text p.side ∷ hands_text (both_piles p) ∷ (49 ∷ []) ∷ [] in
    let shape : Shape ws (board_cells p.material.board 1 9) p.side (both_piles p) = record {
      board = board_spelt p.material.board;
      turn = refl;
      hands = hands_spelt (both_piles p) fit;
      number = (one_digit, refl);
    } in
    let up : set_up (board_cells p.material.board 1 9) (both_piles p) ≡ Ok (lay p.material.board p.material.black p.material.white) =
    set_up_is (board_cells p.material.board 1 9) (both_piles p) (board_cells-length p.material.board 1 9)
    ∙ (ap (λ r. hold_after r (flat_map pile_pieces (both_piles p))) (cells_put p s) ∙ bags_held p.material.board p.material.black p.material.white s.within.black_kinds s.within.white_kinds s.within.totals) in
    let whole : Sfen ws p = record {
      cells = board_cells p.material.board 1 9;
      piles = both_piles p;
      shape = shape;
      stands = rw up (s.safe, refl);
    } in
    subst (λ t. Sfen t p) (sym e) whole

-- A text whose squares and hands are those of a position within the totals is set up as it.
use Rattle.std.proofs.Common.{◌≡◌, ℕ, zero, suc, ◌+◌, ◌<◌, ◌≤◌, ◌==◌, ◌&&◌, Bool, true, false, cond, List, [], ◌∷◌, Option, None, Ok, length, get_or, arith, refl, sym, ap, ◌∙◌, subst}
use Rattle.std.specs.List.{AllByRecursion, flat_map}
use Rattle.std.proofs.lemmas.List.{ext_get_or}
use Rattle.shogi_board.specs.declared.color.Color.{Color}
use Rattle.shogi_board.specs.declared.color.Color.TheVariants.{Black, White}
use Rattle.shogi_board.specs.declared.kind.Kind.{Kind}
use Rattle.shogi_board.specs.declared.kind.Kind.TheVariants.{Pawn, Lance, Knight, Silver, Gold, Bishop, Rook}
use Rattle.shogi_board.specs.declared.kind.Piece.{Piece}
use Rattle.shogi_board.specs.declared.setup.SetupFault.TheVariants.{OpponentInCheck}
use Rattle.shogi_board.specs.Layout.{Layout}
use Rattle.shogi_board.specs.Material.{bag_of}
use Rattle.shogi_board.specs.Pieces.{is_hand_kind, opponent, place_of, same_color}
use Rattle.shogi_board.specs.Placed.{Placed}
use Rattle.shogi_board.specs.Placing.{unless}
use Rattle.shogi_board.specs.Reach.{InCheck}
use Rattle.shogi_board.specs.Setup.{empty_layout}
use Rattle.shogi_board.specs.Sound.{IsSound}
use Rattle.shogi_board.specs.Totals.{total, limit, count_in, no_pieces, IsWithinTotals}
use Rattle.shogi_board.proofs.Forms.{eq-self}
use Rattle.shogi_rules.proofs.Layouts.{add-fits}
use Rattle.usi_text.specs.Contents.{HasCells, HasPiles}
use Rattle.usi_text.specs.Hands.{Pile, pile_pieces}
use Rattle.usi_text.specs.Setting.{board_place, set_up}
use Rattle.usi_text.specs.Sfen.{Shape, Sfen, FirstFault}
use Rattle.usi_text.specs.Words.{nth_word}
use Rattle.usi_text.specs.declared.fault.SfenFault.TheVariants.{Start}
use Rattle.usi_text.proofs.Again.{lay, same_layout, from_zero}
use Rattle.usi_text.proofs.Counted.{pieces_total, count_there, none_held, held_size, pieces_counted, piles_counted}
use Rattle.usi_text.proofs.Filled.{fill, start_filled, filled_board, no_pieces_at}
use Rattle.usi_text.proofs.Outcomes.{hand_total}
use Rattle.usi_text.proofs.Setups.{put_cells, held, hold_pieces, hold_after, set_up_is, board_size}
use Rattle.usi_text.proofs.Standing.{hold_board}
use Rattle.usi_text.proofs.StartFaults.{InHand, hands_held}

abbrev Cells : Type 0
Cells = List (Option Piece)

abbrev nothing : Option Piece
nothing = None

one_side : (c : Color) (b : Bool) → cond (same_color c Black && b) 1 0 + cond (same_color c White && b) 1 0 ≡ cond b 1 0
one_side Black true = refl
one_side Black false = refl
one_side White true = refl
one_side White false = refl

-- pieces for which there is room are held
record AllHeld (s : Layout) (ps : List Piece) : Type 0 where
  last : Layout
  held_all : hold_pieces s ps ≡ Ok last
  free : last.rest_given ≡ false
  bags : (c : Color) → length (bag_of last.material c) ≡ 7

hold_fits : (ps : List Piece) (s : Layout) → s.rest_given ≡ false → ((c : Color) → length (bag_of s.material c) ≡ 7) → AllByRecursion InHand ps
    → ((k : Kind) → is_hand_kind k ≡ true → total s.material k + (pieces_total Black k ps + pieces_total White k ps) ≤ limit k) → AllHeld s ps
hold_fits [] s free bags all fits = record { last = s; held_all = refl; free = free; bags = bags }
hold_fits (p ∷ ps) s free bags all fits =
    let same : (place_of p.kind == place_of p.kind) ≡ true = eq-self (place_of p.kind) (place_of p.kind) refl in
    let one = one_side p.color (place_of p.kind == place_of p.kind) ∙ ap (λ b. cond b 1 0) same in
    let enough = fits p.kind all.0 in
    let room : total s.material p.kind < limit p.kind = omega (arith, one, enough) in
    let here = add-fits s p.kind free all.0 room in
    let still : (k : Kind) → is_hand_kind k ≡ true → total (held s p).material k + (pieces_total Black k ps + pieces_total White k ps) ≤ limit k = λ k j.
    let more = hand_total s.material p.color p.kind k (bags p.color) all.0 in
    let side = one_side p.color (place_of p.kind == place_of k) in
    let old = fits k j in
    omega (arith, more, side, old) in
    let r = hold_fits ps (held s p) free (λ c. held_size s p.color c p.kind (bags c)) all.1 still in
    record {
      last = r.last;
      held_all = ap (λ f. unless f (hold_pieces (held s p) ps)) here ∙ r.held_all;
      free = r.free;
      bags = r.bags;
    }

kind_there : (i : ℕ) → i < 7 → (k : Kind) × (is_hand_kind k ≡ true) × (place_of k ≡ i)
kind_there zero h = (Pawn, refl, refl)
kind_there (suc zero) h = (Lance, refl, refl)
kind_there (suc (suc zero)) h = (Knight, refl, refl)
kind_there (suc (suc (suc zero))) h = (Silver, refl, refl)
kind_there (suc (suc (suc (suc zero)))) h = (Gold, refl, refl)
kind_there (suc (suc (suc (suc (suc zero))))) h = (Bishop, refl, refl)
kind_there (suc (suc (suc (suc (suc (suc zero)))))) h = (Rook, refl, refl)
kind_there (suc (suc (suc (suc (suc (suc (suc i))))))) h = absurd (omega arith)

same_bag : (a b : List ℕ) → length a ≡ 7 → length b ≡ 7 → ((k : Kind) → is_hand_kind k ≡ true → count_in a k ≡ count_in b k) → a ≡ b
same_bag a b h j same =
    ext_get_or 0 a b (h ∙ sym j) (λ i low.
    let k = kind_there i (omega (arith, h)) in
    subst (λ x. get_or a x 0 ≡ get_or b x 0) k.2 (sym (count_there a k.0 k.1) ∙ (same k.0 k.1 ∙ count_there b k.0 k.1)))

board_put : (p : Placed) (cells : Cells) → IsWithinTotals p.material → length cells ≡ 81 → HasCells p cells → put_cells empty_layout 0 cells ≡ Ok (lay p.material.board no_pieces no_pieces)
board_put p cells w size has =
    let b = p.material.board in
    let same : (k : ℕ) → k < length cells → get_or cells k nothing ≡ get_or b (board_place (0 + k)) nothing = λ k low.
    sym (has k (omega (arith, size))) ∙ ap (λ m. get_or b (board_place m) nothing) (from_zero k) in
    let r = fill b cells empty_layout 0 w.squares (λ k. let t = w.totals k in omega arith) w.kings (start_filled b) (omega (arith, size)) same in
    let f = r.filled in
    r.put_all ∙ ap Ok (same_layout r.last b no_pieces no_pieces (filled_board b r.last w.squares f) f.black f.white f.free)

bare_bags : (b : Cells) (c : Color) → length (bag_of (lay b no_pieces no_pieces).material c) ≡ 7
bare_bags b Black = refl
bare_bags b White = refl

from_none : (a b c d : ℕ) → a ≡ b + c → b ≡ 0 → d ≡ c → a ≡ d
from_none a b c d h j k = omega (arith, h, j, k)

hands_fit : (p : Placed) (piles : List Pile) → IsWithinTotals p.material → HasPiles p piles → (k : Kind) → is_hand_kind k ≡ true
    → total (lay p.material.board no_pieces no_pieces).material k + (pieces_total Black k (flat_map pile_pieces piles) + pieces_total White k (flat_map pile_pieces piles)) ≤ limit k
hands_fit p piles w has k j =
    let black = sym (count_there p.material.black k j) ∙ (has Black k j ∙ sym (piles_counted piles Black k)) in
    let white = sym (count_there p.material.white k j) ∙ (has White k j ∙ sym (piles_counted piles White k)) in
    let none = no_pieces_at k in
    let most = w.totals k in
    omega (arith, black, white, none, most)

-- the hands of the text, on the position's board
hands_put : (p : Placed) (piles : List Pile) → IsWithinTotals p.material → AllByRecursion InHand (flat_map pile_pieces piles) → HasPiles p piles
    → hold_pieces (lay p.material.board no_pieces no_pieces) (flat_map pile_pieces piles) ≡ Ok (lay p.material.board p.material.black p.material.white)
hands_put p piles w all has =
    let b = p.material.board in
    let ps = flat_map pile_pieces piles in
    let start = lay b no_pieces no_pieces in
    let r = hold_fits ps start refl (bare_bags b) all (hands_fit p piles w has) in
    let counted = λ (c : Color) (k : Kind) (j : is_hand_kind k ≡ true). pieces_counted ps start r.last c k (bare_bags b) all j r.held_all in
    let black = same_bag r.last.material.black p.material.black (r.bags Black) w.black_kinds (λ k j. from_none _ _ _ _ (counted Black k j) (none_held k) (has Black k j ∙ sym (piles_counted piles Black k))) in
    let white = same_bag r.last.material.white p.material.white (r.bags White) w.white_kinds (λ k j. from_none _ _ _ _ (counted White k j) (none_held k) (has White k j ∙ sym (piles_counted piles White k))) in
    r.held_all ∙ ap Ok (same_layout r.last b p.material.black p.material.white (hold_board ps start r.last r.held_all) black white r.free)

layout_put : (ws : List (List ℕ)) (p : Placed) (cells : Cells) (piles : List Pile) → Shape ws cells p.side piles → HasCells p cells → HasPiles p piles → IsWithinTotals p.material
    → set_up cells piles ≡ Ok (lay p.material.board p.material.black p.material.white)
layout_put ws p cells piles shape squares hands w =
    let size = board_size (nth_word ws 0) cells shape.board in
    set_up_is cells piles size
    ∙ (ap (λ r. hold_after r (flat_map pile_pieces piles)) (board_put p cells w size squares) ∙ hands_put p piles w (hands_held (nth_word ws 2) piles shape.hands) hands)

pub sfen_stands : (ws : List (List ℕ)) (p : Placed) (cells : Cells) (piles : List Pile) → Shape ws cells p.side piles → HasCells p cells → HasPiles p piles → IsSound p → Sfen ws p
sfen_stands ws p cells piles shape squares hands s =
    let up = layout_put ws p cells piles shape squares hands s.within in
    record { cells = cells; piles = piles; shape = shape; stands = rw up (s.safe, refl) }

pub check_refused : (ws : List (List ℕ)) (p : Placed) (cells : Cells) (piles : List Pile) → Shape ws cells p.side piles → HasCells p cells → HasPiles p piles → IsWithinTotals p.material
    → InCheck p.material.board (opponent p.side) → FirstFault ws (Start OpponentInCheck)
check_refused ws p cells piles shape squares hands w check =
    let up = layout_put ws p cells piles shape squares hands w in
    (cells, p.side, piles, shape, rw up (check, refl))

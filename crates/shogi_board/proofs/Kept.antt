-- A move that fits the board adds no piece and takes none, and leads to a sound position where it
-- leaves the king safe.
use Rattle.std.proofs.Common.{◌≡◌, ℕ, ◌+◌, ◌≤◌, ◌==◌, ◌&&◌, Bool, false, cond, List, Option, Some, None, length, set, get_or, count_by, slice_index, arith, refl, ap, sym, ◌∙◌, inl, inr, length-set}
use Rattle.std.proofs.lemmas.Bool.{cases_Bool, and_right}
use Rattle.std.proofs.lemmas.List.Sums.{sum_by-set}
use Rattle.std.specs.List.{sum_by}
use Rattle.shogi_board.specs.Cells.{at, piece}
use Rattle.shogi_board.specs.Pieces.{place_of, is_king, same_color, unpromoted}
use Rattle.shogi_board.specs.Material.{Material, bag_of, with_bag}
use Rattle.shogi_board.specs.Placed.{Placed}
use Rattle.shogi_board.specs.Sound.{IsSound}
use Rattle.shogi_board.specs.Setup.{one_less}
use Rattle.shogi_board.specs.Squares.{place}
use Rattle.shogi_board.specs.Totals.{total, kings_of, is_of, is_king_of, IsWithinTotals}
use Rattle.shogi_board.specs.declared.color.Color.{Color}
use Rattle.shogi_board.specs.declared.color.Color.TheVariants.{Black, White}
use Rattle.shogi_board.specs.declared.kind.Kind.{Kind}
use Rattle.shogi_board.specs.declared.kind.Kind.TheVariants.{King}
use Rattle.shogi_board.specs.declared.kind.Piece.{Piece}
use Rattle.shogi_board.specs.declared.square.Square.{Square}
use Rattle.shogi_board.specs.After.{after, board_after, bag_after, with_captured}
use Rattle.shogi_board.specs.Legal.{FitsBoard, Keeps}
use Rattle.shogi_board.specs.declared.moves.Move.{Move}
use Rattle.shogi_board.specs.declared.moves.Move.TheVariants.{Walk, Put}
use Rattle.shogi_board.proofs.Drops.{held-of}
use Rattle.shogi_board.proofs.Pieces.{captured-held, opponent-twice, unpromoted-place}
use Rattle.shogi_board.proofs.Totals.{bag-less, bag-more, bags-with, own-seven}
use Rattle.shogi_board.proofs.Forms.{form-place, held-no-king, king-by-place}
use Rattle.shogi_board.proofs.Walks.{Start, start-of, on-board, longer, target-stays, no-king-taken}

abbrev bit : Bool → ℕ
bit b = cond b 1 0

-- what a test counts on the board, before and after a walk that it does not see
walk-sum : (f : Option Piece → ℕ) (p : Placed) (from to : Square) (its_kind : Kind) (s : Start p from to its_kind) → f None ≡ 0 → f (piece p.side its_kind) ≡ f (piece p.side s.was) → sum_by f (board_after p (Walk from to its_kind)) + f (at p.material.board to) ≡ sum_by f p.material.board
walk-sum f p from to its_kind s none same =
    let lifted = set p.material.board (place from) None in
    let stands : get_or p.material.board (place from) None ≡ piece p.side s.was = s.stands in
    let off = sum_by-set f p.material.board (place from) None None (on-board p from s.sound) in
    let gone : sum_by f lifted + f (piece p.side s.was) ≡ sum_by f p.material.board + f None = rw stands at off in
    let stays : get_or lifted (place to) None ≡ at p.material.board to = target-stays p from to its_kind s in
    let on = sum_by-set f lifted (place to) (piece p.side its_kind) None (longer p.material.board (place from) (place to) (on-board p to s.sound)) in
    let landed : sum_by f (set lifted (place to) (piece p.side its_kind)) + f (at p.material.board to) ≡ sum_by f lifted + f (piece p.side its_kind) = rw stays at on in
    omega (arith, gone, landed, none, same)

-- a bag with what was captured
captured-bag : (bag : List ℕ) (cell : Option Piece) (k : Kind) → length bag ≡ 7 → ((x : Piece) → cell ≡ Some x → x.kind ≡ King → ⊥) → slice_index (with_captured bag cell) (place_of k) ≡ slice_index bag (place_of k) + cond (is_of k cell) 1 0
captured-bag bag None k seven no_king = omega arith
captured-bag bag (Some x) k seven no_king =
    let e = bag-more bag (unpromoted x.kind) k seven (captured-held x.kind (no_king x refl)) in
    let same : bit (place_of (unpromoted x.kind) == place_of k) ≡ bit (place_of x.kind == place_of k) = ap (λ (n : ℕ). bit (n == place_of k)) (unpromoted-place x.kind) in
    omega (arith, e, same)

captured-length : (bag : List ℕ) (cell : Option Piece) → length bag ≡ 7 → length (with_captured bag cell) ≡ 7
captured-length bag None seven = seven
captured-length bag (Some x) seven = length-set bag _ _ ∙ seven

black-seven : (m : Material) (c : Color) (bag : List ℕ) → length m.black ≡ 7 → length bag ≡ 7 → length (with_bag m c bag).black ≡ 7
black-seven m Black bag old new = new
black-seven m White bag old new = old

white-seven : (m : Material) (c : Color) (bag : List ℕ) → length m.white ≡ 7 → length bag ≡ 7 → length (with_bag m c bag).white ≡ 7
white-seven m Black bag old new = old
white-seven m White bag old new = new

-- the pieces of a kind, promoted or not, before and after a move
pub pieces-stay : (p : Placed) (m : Move) (k : Kind) → IsSound p → FitsBoard p m → total (after p m).material k ≡ total p.material k
pieces-stay p (Walk from to its_kind) k sound fits =
    let s = start-of p from to its_kind sound fits in
    let same : bit (place_of its_kind == place_of k) ≡ bit (place_of s.was == place_of k) = ap (λ (n : ℕ). bit (n == place_of k)) (form-place s.was its_kind s.form) in
    let board = walk-sum (λ x. cond (is_of k x) 1 0) p from to its_kind s refl same in
    let bag = captured-bag (bag_of p.material p.side) (at p.material.board to) k (own-seven p.material p.side sound.within) (λ x there. no-king-taken p from to its_kind x s there) in
    let bags = bags-with p.material p.side (with_captured (bag_of p.material p.side) (at p.material.board to)) (place_of k) in
    omega (arith, board, bag, bags)
pieces-stay p (Put to its_kind) k sound fits =
    let empty : get_or p.material.board (place to) None ≡ None = fits.target_free in
    let on = sum_by-set (λ x. cond (is_of k x) 1 0) p.material.board (place to) (piece p.side its_kind) None (on-board p to sound) in
    let board : count_by (is_of k) (set p.material.board (place to) (piece p.side its_kind)) + 0 ≡ count_by (is_of k) p.material.board + cond (place_of its_kind == place_of k) 1 0 = rw empty at on in
    let bag = bag-less (bag_of p.material p.side) its_kind k (own-seven p.material p.side sound.within) fits.has_piece in
    let bags = bags-with p.material p.side (one_less (bag_of p.material p.side) its_kind) (place_of k) in
    omega (arith, board, bag, bags)

-- no side gets a king
kings-stay : (p : Placed) (m : Move) (c : Color) → IsSound p → FitsBoard p m → kings_of (after p m).material.board c ≤ 1
kings-stay p (Walk from to its_kind) c sound fits =
    let s = start-of p from to its_kind sound fits in
    let king : is_king its_kind ≡ is_king s.was = king-by-place its_kind ∙ (ap (λ (n : ℕ). n == 7) (form-place s.was its_kind s.form) ∙ sym (king-by-place s.was)) in
    let same : bit (same_color p.side c && is_king its_kind) ≡ bit (same_color p.side c && is_king s.was) = ap (λ (b : Bool). bit (same_color p.side c && b)) king in
    let board = walk-sum (λ x. cond (is_king_of c x) 1 0) p from to its_kind s refl same in
    omega (arith, board, sound.within.kings c)
kings-stay p (Put to its_kind) c sound fits =
    let empty : get_or p.material.board (place to) None ≡ None = fits.target_free in
    let held = (held-of (bag_of p.material p.side) its_kind fits.has_piece).0 in
    let no_king : is_king its_kind ≡ false = elim (cases_Bool (is_king its_kind)) [ inl is ↦ absurd (held-no-king its_kind held is) | inr not_one ↦ not_one ] in
    let none : (same_color p.side c && is_king its_kind) ≡ false = and_right _ _ no_king in
    let on = sum_by-set (λ x. cond (is_king_of c x) 1 0) p.material.board (place to) (piece p.side its_kind) None (on-board p to sound) in
    let board : kings_of (set p.material.board (place to) (piece p.side its_kind)) c + 0 ≡ kings_of p.material.board c + 0 = rw (empty, none) at on in
    omega (arith, board, sound.within.kings c)

board-whole : (p : Placed) (m : Move) → length p.material.board ≡ 81 → length (after p m).material.board ≡ 81
board-whole p (Walk from to its_kind) whole = length-set _ _ _ ∙ (length-set _ _ _ ∙ whole)
board-whole p (Put to its_kind) whole = length-set _ _ _ ∙ whole

bag-whole : (p : Placed) (m : Move) → length (bag_of p.material p.side) ≡ 7 → length (bag_after p m) ≡ 7
bag-whole p (Walk from to its_kind) seven = captured-length (bag_of p.material p.side) (at p.material.board to) seven
bag-whole p (Put to its_kind) seven = length-set _ _ _ ∙ seven

-- the totals hold after a move
pub after-within : (p : Placed) (m : Move) → IsSound p → FitsBoard p m → IsWithinTotals (after p m).material
after-within p m sound fits =
    let w = sound.within in
    let seven = bag-whole p m (own-seven p.material p.side w) in
    record {
      squares = board-whole p m w.squares;
      black_kinds = black-seven p.material p.side (bag_after p m) w.black_kinds seven;
      white_kinds = white-seven p.material p.side (bag_after p m) w.white_kinds seven;
      totals = λ k. let e = pieces-stay p m k sound fits in omega (arith, e, w.totals k);
      kings = λ c. kings-stay p m c sound fits;
    }

pub leads-to-sound : (p : Placed) (m : Move) → IsSound p → Keeps p m → IsSound (after p m)
leads-to-sound p m sound kept = record {
  within = after-within p m sound kept.fits;
  safe = λ check. kept.king_safe (rw (opponent-twice p.side) at check);
}

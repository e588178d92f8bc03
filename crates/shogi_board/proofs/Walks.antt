-- A walk that fits the board of a sound position.
use Rattle.std.proofs.Common.{◌≡◌, ◌≢◌, ℕ, ◌<◌, Some, None, ◌⊎◌, length, set, get_or, arith, ap, sym, ◌∙◌, length-set, get_or-set_other}
use Rattle.shogi_board.specs.Cells.{Cells, at, piece}
use Rattle.shogi_board.specs.Pieces.{opponent, promoted}
use Rattle.shogi_board.specs.Placed.{Placed}
use Rattle.shogi_board.specs.Sound.{IsSound}
use Rattle.shogi_board.specs.Squares.{place}
use Rattle.shogi_board.specs.declared.color.Color.{Color}
use Rattle.shogi_board.specs.declared.kind.Kind.{Kind}
use Rattle.shogi_board.specs.declared.kind.Kind.TheVariants.{King}
use Rattle.shogi_board.specs.declared.kind.Piece.{Piece}
use Rattle.shogi_board.specs.declared.square.Square.{Square}
use Rattle.shogi_board.proofs.Pieces.{mover-is, opponent-twice}
use Rattle.shogi_board.proofs.Squares.{place-bound}
use Rattle.shogi_board.specs.Legal.{FitsBoard}
use Rattle.shogi_board.specs.declared.moves.Move.TheVariants.{Walk}
use Rattle.shogi_board.proofs.Forms.{other-color}

-- what the walk starts from
pub record Start (p : Placed) (from to : Square) (its_kind : Kind) : Type 0 where
  pub was : Kind
  pub stands : at p.material.board from ≡ piece p.side was
  pub form : (its_kind ≡ was) ⊎ (promoted was ≡ Some its_kind)
  pub sound : IsSound p
  pub fits : FitsBoard p (Walk from to its_kind)

pub start-of : (p : Placed) (from to : Square) (its_kind : Kind) → IsSound p → FitsBoard p (Walk from to its_kind) → Start p from to its_kind
start-of p from to its_kind sound fits = record {
  was = fits.kind_fits.0;
  stands = fits.kind_fits.1;
  form = fits.kind_fits.2;
  sound = sound;
  fits = fits;
}

pub on-board : (p : Placed) (s : Square) → IsSound p → place s < length p.material.board
on-board p s sound = let b = place-bound s in let w = sound.within.squares in omega arith

-- the two squares differ
pub apart : (p : Placed) (from to : Square) (its_kind : Kind) → Start p from to its_kind → place to ≢ place from
apart p from to its_kind s e =
    let there : at p.material.board to ≡ piece p.side s.was = ap (λ (n : ℕ). get_or p.material.board n None) e ∙ s.stands in
    s.fits.target_free s.was there

pub target-stays : (p : Placed) (from to : Square) (its_kind : Kind) → Start p from to its_kind → at (set p.material.board (place from) None) to ≡ at p.material.board to
target-stays p from to its_kind s =
    let ne = apart p from to its_kind s in
    get_or-set_other p.material.board (place from) (place to) None None ne

pub longer : (cells : Cells) (i j : ℕ) → j < length cells → j < length (set cells i None)
longer cells i j h = rw length-set h

-- an enemy piece that is taken is no king: the side not to move is not in check
pub no-king-taken : (p : Placed) (from to : Square) (its_kind : Kind) (x : Piece) → Start p from to its_kind → at p.material.board to ≡ Some x → x.kind ≡ King → ⊥
no-king-taken p from to its_kind x s there king =
    let enemy : x.color ≡ opponent p.side = other-color x.color p.side (λ own. s.fits.target_free x.kind (there ∙ ap (λ (c : Color). piece c x.kind) own)) in
    let stands : at p.material.board to ≡ piece (opponent p.side) King = there ∙ (ap (λ (c : Color). piece c x.kind) enemy ∙ ap (λ (k : Kind). piece (opponent p.side) k) king) in
    s.sound.safe (
      to,
      stands,
      (
        from,
        record {
          reach = s.fits.reaches;
          enemy = rw (mover-is p.material.board from to (record { color = p.side; kind = s.was }) s.stands s.fits.reaches) (sym (opponent-twice p.side));
        },
      ),
    )

-- What is on the squares after a move.
use Rattle.std.proofs.Common.{◌≡◌, ◌≢◌, ℕ, Option, Some, None, inl, inr, set, get_or, ap, sym, ◌∙◌, get_or-set_same, get_or-set_other}
use Rattle.std.proofs.lemmas.Bool.{cases_eq}
use Rattle.std.proofs.lemmas.Option.{same_Some}
use Rattle.shogi_board.specs.Cells.{at, piece}
use Rattle.shogi_board.specs.Pieces.{opponent}
use Rattle.shogi_board.specs.Placed.{Placed}
use Rattle.shogi_board.specs.Sound.{IsSound}
use Rattle.shogi_board.specs.Squares.{place}
use Rattle.shogi_board.specs.declared.color.Color.{Color}
use Rattle.shogi_board.specs.declared.color.Color.TheVariants.{Black, White}
use Rattle.shogi_board.specs.declared.kind.Kind.{Kind}
use Rattle.shogi_board.specs.declared.kind.Piece.{Piece}
use Rattle.shogi_board.specs.declared.square.Square.{Square}
use Rattle.shogi_board.specs.After.{board_after}
use Rattle.shogi_board.specs.Legal.{kind_after, target}
use Rattle.shogi_board.specs.declared.moves.Move.{Move}
use Rattle.shogi_board.specs.declared.moves.Move.TheVariants.{Walk, Put}
use Rattle.shogi_board.proofs.Walks.{on-board, longer}

pub kinds-same : (c d : Color) (k l : Kind) → piece c k ≡ piece d l → k ≡ l
kinds-same c d k l e = ap (λ (p : Piece). p.kind) (same_Some (record { color = c; kind = k }) (record { color = d; kind = l }) e)

pub colors-same : (c d : Color) (k l : Kind) → piece c k ≡ piece d l → c ≡ d
colors-same c d k l e = ap (λ (p : Piece). p.color) (same_Some (record { color = c; kind = k }) (record { color = d; kind = l }) e)

pub not-opponent : (c : Color) → c ≡ opponent c → ⊥
not-opponent Black e = cc
not-opponent White e = cc

-- what the target holds
at-target : (p : Placed) (m : Move) → IsSound p → at (board_after p m) (target m) ≡ piece p.side (kind_after m)
at-target p (Walk from to k) sound = get_or-set_same (set p.material.board (place from) None) (place to) (piece p.side k) None (longer p.material.board (place from) (place to) (on-board p to sound))
at-target p (Put to k) sound = get_or-set_same p.material.board (place to) (piece p.side k) None (on-board p to sound)

pub on-target : (p : Placed) (m : Move) (s : Square) → IsSound p → place s ≡ place (target m) → at (board_after p m) s ≡ piece p.side (kind_after m)
on-target p m s sound e = ap (λ (n : ℕ). get_or (board_after p m) n None) e ∙ at-target p m sound

pub not-none : (a : Option Piece) (x : Piece) → a ≡ None → a ≡ Some x → ⊥
not-none a x e h = cc

-- what another square holds, it held before
pub held-before : (p : Placed) (m : Move) (s : Square) (x : Piece) → IsSound p → place s ≢ place (target m) → at (board_after p m) s ≡ Some x → at p.material.board s ≡ Some x
held-before p (Walk from to k) s x sound other there =
    let lifted = set p.material.board (place from) None in
    let kept : at (board_after p (Walk from to k)) s ≡ at lifted s = get_or-set_other lifted (place to) (place s) (piece p.side k) None other in
    let held : at lifted s ≡ Some x = sym kept ∙ there in
    elim (cases_eq (place s) (place from)) [
      | inl e ↦
          let gone : at lifted s ≡ None = ap (λ (n : ℕ). get_or lifted n None) e ∙ get_or-set_same p.material.board (place from) None None (on-board p from sound) in
          absurd (not-none (at lifted s) x gone held)
      | inr ne ↦ sym (get_or-set_other p.material.board (place from) (place s) None None ne) ∙ held
    ]
held-before p (Put to k) s x sound other there = sym (get_or-set_other p.material.board (place to) (place s) (piece p.side k) None other) ∙ there

pub walk-keeps : (p : Placed) (from to : Square) (k : Kind) (s : Square) → place s ≢ place to → place s ≢ place from → at (board_after p (Walk from to k)) s ≡ at p.material.board s
walk-keeps p from to k s other apart =
    get_or-set_other (set p.material.board (place from) None) (place to) (place s) (piece p.side k) None other
    ∙ get_or-set_other p.material.board (place from) (place s) None None apart

-- Values compare as equal where they are equal.
use Rattle.std.proofs.Common.{rules, ◌≡◌, ℕ, ◌↔◌, Bool, nat_eq, Option, Some, None, ◌&&◌, refl, ap, sym, List, [], ◌∷◌, ◌++◌, ◌∙◌}
use Rattle.std.specs.Option.{option_eq}
use Rattle.std.specs.Cmp.Lexicographic.{pointwise}
use Rattle.std.specs.List.Sorted.{IsStrictlySortedBy}
use Rattle.std.specs.Ordering.{is_eq}
use Rattle.std.specs.declared.cmp.Ordering.TheVariants.{Equal}
use Rattle.std.specs.Bool.{Decides, beq}
use Rattle.std.specs.Cmp.{IsTotalOrder, Equal-is, booleans_Decides}
use Rattle.std.proofs.lemmas.Slice.Eq.{slice_eq-Decides}
use Rattle.std.proofs.lemmas.Bool.Decides.{Decides-and, Decides-eqb, Decides-like, same_from_decides}
use Rattle.std.proofs.lemmas.Bool.{and_from, and_parts}
use denote.Enum.Bare.{sameb, same_true, true_same}
use Rattle.shogi_board.specs.Contents.{code_of, piece_of}
use Rattle.shogi_board.specs.Layout.{Layout}
use Rattle.shogi_board.specs.Pieces.{same_color}
use Rattle.shogi_board.specs.Placed.{Placed}
use Rattle.shogi_board.specs.Same.{same_cell, same_position}
use Rattle.shogi_board.specs.Totals.{hand_kinds}
use Rattle.shogi_board.specs.declared.cell.Code.{Code}
use Rattle.shogi_board.specs.declared.color.Color.{Color}
use Rattle.shogi_board.specs.declared.kind.Kind.{Kind}
use Rattle.shogi_board.specs.declared.kind.Kind.TheVariants.{King, ProPawn, ProLance, ProKnight, ProSilver, Horse, Dragon}
use Rattle.shogi_board.specs.declared.kind.Piece.{Piece}
use Rattle.shogi_board.proofs.Tells.{color-same, cell-same, piece-same}
use Rattle.shogi_board.proofs.Contents.{content-back}
use Rattle.shogi_board.specs.contracts.cell.Code as code
use Rattle.shogi_board.specs.contracts.cell.CellPartialEq.TheImpl as cells
use Rattle.shogi_board.specs.contracts.color.Color as color
use Rattle.shogi_board.specs.contracts.kind.Kind as kind
use Rattle.shogi_board.specs.contracts.kind.PiecePartialEq.TheImpl.{eq-value}
use Rattle.shogi_board.specs.contracts.kind.KindOrd.TheImpl as kinds
use Rattle.shogi_board.specs.contracts.kind.PieceOrd.TheImpl as pieces
use Rattle.shogi_board.specs.contracts.kind.PieceOrd.TheImpl.Laws as piece-laws
use Rattle.shogi_board.specs.contracts.position.PositionOrd.TheImpl.{cmp-value}
use Rattle.shogi_board.specs.contracts.position.PositionOrd.TheImpl.Laws as laws

pub color-eq : (a b : Color) → Decides (sameb color.the_type a b) (a ≡ b)
color-eq a b = (λ h. same_true color.the_type (search rules) a b h, true_same color.the_type a b)

pub kind-eq : (a b : Kind) → Decides (sameb kind.the_type a b) (a ≡ b)
kind-eq a b = (λ h. same_true kind.the_type (search rules) a b h, true_same kind.the_type a b)

piece-eq : (a b : Piece) → Decides (eq-value.it a b) (a ≡ b)
piece-eq a b = (
  λ h. piece-same a b ((color-eq a.color b.color).0 (and_parts _ _ h).0) ((kind-eq a.kind b.kind).0 (and_parts _ _ h).1),
  λ h. and_from _ _ ((color-eq a.color b.color).1 (ap (λ (p : Piece). p.color) h)) ((kind-eq a.kind b.kind).1 (ap (λ (p : Piece). p.kind) h)),
)

pub cell-eq : (a b : Option Piece) → Decides (option_eq eq-value.it a b) (a ≡ b)
cell-eq None None = (λ h. refl, λ h. refl)
cell-eq None (Some y) = (λ h. cc, λ h. cc)
cell-eq (Some x) None = (λ h. cc, λ h. cc)
cell-eq (Some x) (Some y) = (λ h. ap Some ((piece-eq x y).0 h), λ h. (piece-eq x y).1 cc)

code-eq : (a b : Code) → Decides (sameb code.the_type a b) (a ≡ b)
code-eq a b = (λ h. same_true code.the_type (search rules) a b h, true_same code.the_type a b)

pub coded-eq : (a b : Option Piece) → Decides (cells.eq-value.it a b) (a ≡ b)
coded-eq a b =
    let codes = code-eq (code_of a) (code_of b) in
    (λ h. sym (content-back a) ∙ (ap piece_of (codes.0 h) ∙ content-back b), λ e. codes.1 (ap code_of e))

pub counts-eq : (a b : List ℕ) → Decides (pointwise nat_eq a b) (a ≡ b)
counts-eq a b = slice_eq-Decides Decides-eqb a b _ refl

abbrev parts : List (Option Piece) → List ℕ → List ℕ → Color → Placed
parts x y z c = record { material = record { board = x; black = y; white = z }; side = c }

placed-same : (a b : Placed) → a.material.board ≡ b.material.board → a.material.black ≡ b.material.black → a.material.white ≡ b.material.white → a.side ≡ b.side → a ≡ b
placed-same a b p q r s =
    ap (λ x. parts x a.material.black a.material.white a.side) p
    ∙ (ap (λ x. parts b.material.board x a.material.white a.side) q
    ∙ (ap (λ x. parts b.material.board b.material.black x a.side) r ∙ ap (λ x. parts b.material.board b.material.black b.material.white x) s))

-- positions are equal where their boards, hands and sides are
placed-by : (board : Option Piece → Option Piece → Bool) (side : Color → Color → Bool) → ((a b : Option Piece) → Decides (board a b) (a ≡ b)) → ((a b : Color) → Decides (side a b) (a ≡ b)) → (a b : Placed)
    → Decides (pointwise board a.material.board b.material.board && (pointwise nat_eq a.material.black b.material.black && (pointwise nat_eq a.material.white b.material.white && side a.side b.side))) (a ≡ b)
placed-by board side cell color a b =
    Decides-like _ (λ h. placed-same a b h.0 h.1.0 h.1.1.0 h.1.1.1)
    (λ e. (ap (λ (p : Placed). p.material.board) e, (ap (λ (p : Placed). p.material.black) e, (ap (λ (p : Placed). p.material.white) e, ap (λ (p : Placed). p.side) e))))
    (Decides-and _ _ (slice_eq-Decides cell a.material.board b.material.board _ refl)
    (Decides-and _ _ (counts-eq a.material.black b.material.black) (Decides-and _ _ (counts-eq a.material.white b.material.white) (color a.side b.side))))

abbrev pub placed_eq : Placed → Placed → Bool
placed_eq a b =
    pointwise cells.eq-value.it a.material.board b.material.board
    && (pointwise nat_eq a.material.black b.material.black && (pointwise nat_eq a.material.white b.material.white && sameb color.the_type a.side b.side))

pub placed-eq : (a b : Placed) → Decides (placed_eq a b) (a ≡ b)
placed-eq a b = placed-by cells.eq-value.it (sameb color.the_type) coded-eq color-eq a b

-- positions that compare as equal are one, and one position is equal to itself
pub exact-positions : (a b : Placed) → (cmp-value.it a b ≡ Equal) ↔ (a ≡ b)
exact-positions a b =
    let e : placed_eq a b ≡ is_eq (cmp-value.it a b) = laws.matches_eq-law a b in (
      λ h. (placed-eq a b).0 (e ∙ ap is_eq h),
      λ h. (Equal-is (cmp-value.it a b)).0 (sym e ∙ (placed-eq a b).1 h),
    )

pub total-positions : IsTotalOrder cmp-value.it
total-positions = laws.total-law

pub total-pieces : IsTotalOrder pieces.cmp-value.it
total-pieces = piece-laws.total-law

pub kinds-sorted : IsStrictlySortedBy kinds.cmp-value.it (hand_kinds ++ King ∷ ProPawn ∷ ProLance ∷ ProKnight ∷ ProSilver ∷ Horse ∷ Dragon ∷ [])
unfolding IsStrictlySortedBy
kinds-sorted = search rules

-- positions are the same where they are equal
pub position-same : (a b : Placed) → Decides (same_position a b) (a ≡ b)
position-same a b = placed-by same_cell same_color cell-same color-same a b

-- what `==` answers is whether they are the same
pub eq-same : (a b : Placed) → placed_eq a b ≡ same_position a b
eq-same a b = same_from_decides (placed_eq a b) (same_position a b) (placed-eq a b) (position-same a b)

abbrev laid : List (Option Piece) → List ℕ → List ℕ → Bool → Layout
laid x y z r = record { material = record { board = x; black = y; white = z }; rest_given = r }

layout-same : (a b : Layout) → a.material.board ≡ b.material.board → a.material.black ≡ b.material.black → a.material.white ≡ b.material.white → a.rest_given ≡ b.rest_given → a ≡ b
layout-same a b p q r s =
    ap (λ x. laid x a.material.black a.material.white a.rest_given) p
    ∙ (ap (λ x. laid b.material.board x a.material.white a.rest_given) q
    ∙ (ap (λ x. laid b.material.board b.material.black x a.rest_given) r ∙ ap (λ x. laid b.material.board b.material.black b.material.white x) s))

-- setups compare as equal where they are equal
pub layout-eq : (a b : Layout) → Decides (pointwise cells.eq-value.it a.material.board b.material.board && (pointwise nat_eq a.material.black b.material.black && (pointwise nat_eq a.material.white b.material.white && beq a.rest_given b.rest_given))) (a ≡ b)
layout-eq a b =
    Decides-like _ (λ h. layout-same a b h.0 h.1.0 h.1.1.0 h.1.1.1)
    (λ e. (ap (λ (p : Layout). p.material.board) e, (ap (λ (p : Layout). p.material.black) e, (ap (λ (p : Layout). p.material.white) e, ap (λ (p : Layout). p.rest_given) e))))
    (Decides-and _ _ (slice_eq-Decides coded-eq a.material.board b.material.board _ refl)
    (Decides-and _ _ (counts-eq a.material.black b.material.black) (Decides-and _ _ (counts-eq a.material.white b.material.white) (booleans_Decides a.rest_given b.rest_given))))

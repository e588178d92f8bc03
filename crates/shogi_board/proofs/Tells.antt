-- The tests of cells tell which are equal.
use Rattle.std.proofs.Common.{◌≡◌, ℕ, true, false, Bool, Option, Some, None, refl, ap, sym, [], ◌∷◌, ◌∙◌, get_or}
use Rattle.std.specs.Bool.{Decides}
use Rattle.std.proofs.lemmas.Bool.Decides.{Decides-eqb}
use Rattle.std.proofs.lemmas.Option.{same_Some}
use Rattle.std.proofs.lemmas.Bool.{and_from, and_parts}
use Rattle.shogi_board.specs.Pieces.{same_color, same_kind, same, place_of, is_promoted}
use Rattle.shogi_board.specs.Same.{same_cell}
use Rattle.shogi_board.specs.declared.color.Color.{Color}
use Rattle.shogi_board.specs.declared.color.Color.TheVariants.{Black, White}
use Rattle.shogi_board.specs.declared.kind.Kind.{Kind}
use Rattle.shogi_board.specs.declared.kind.Kind.TheVariants.{Pawn, Lance, Knight, Silver, Gold, Bishop, Rook, King, ProPawn, ProLance, ProKnight, ProSilver, Horse, Dragon}
use Rattle.shogi_board.specs.declared.kind.Piece.{Piece}

pub piece-same : (a b : Piece) → a.color ≡ b.color → a.kind ≡ b.kind → a ≡ b
piece-same a b h k =
    let first : a ≡ record { color = b.color; kind = a.kind } = ap (λ (c : Color). record a { color = c }) h in
    first ∙ ap (λ (l : Kind). record b { kind = l }) k

pub color-same : (a b : Color) → Decides (same_color a b) (a ≡ b)
color-same Black Black = (λ _. refl, λ _. refl)
color-same White White = (λ _. refl, λ _. refl)
color-same _ _ = (λ h. cc, λ h. cc)

same-bool : (a b : Bool) → Decides (same a b) (a ≡ b)
same-bool true true = (λ _. refl, λ _. refl)
same-bool true false = (λ h. cc, λ h. cc)
same-bool false true = (λ h. cc, λ h. cc)
same-bool false false = (λ _. refl, λ _. refl)

-- the kind of a place, promoted or not
abbrev kind-at : ℕ → Bool → Kind
kind-at n true = get_or (ProPawn ∷ ProLance ∷ ProKnight ∷ ProSilver ∷ Gold ∷ Horse ∷ Dragon ∷ []) n Pawn
kind-at n false = get_or (Pawn ∷ Lance ∷ Knight ∷ Silver ∷ Gold ∷ Bishop ∷ Rook ∷ King ∷ []) n Pawn

kind-there : (k : Kind) → kind-at (place_of k) (is_promoted k) ≡ k
kind-there Pawn = refl
kind-there _ = refl

kind-same : (a b : Kind) → Decides (same_kind a b) (a ≡ b)
kind-same a b = (
  λ h.
      let places : place_of a ≡ place_of b = (Decides-eqb (place_of a) (place_of b)).0 (and_parts _ _ h).0 in
      let forms : is_promoted a ≡ is_promoted b = (same-bool (is_promoted a) (is_promoted b)).0 (and_parts _ _ h).1 in
      sym (kind-there a) ∙ (ap (λ (n : ℕ). kind-at n (is_promoted a)) places ∙ (ap (kind-at (place_of b)) forms ∙ kind-there b)),
  λ h. and_from _ _ ((Decides-eqb (place_of a) (place_of b)).1 (ap place_of h)) ((same-bool (is_promoted a) (is_promoted b)).1 (ap is_promoted h)),
)

pub cell-same : (a b : Option Piece) → Decides (same_cell a b) (a ≡ b)
cell-same None None = (λ h. refl, λ h. refl)
cell-same None (Some y) = (λ h. cc, λ h. cc)
cell-same (Some x) None = (λ h. cc, λ h. cc)
cell-same (Some x) (Some y) = (
  λ h. ap Some (piece-same x y ((color-same x.color y.color).0 (and_parts _ _ h).0) ((kind-same x.kind y.kind).0 (and_parts _ _ h).1)),
  λ h.
      let e : x ≡ y = same_Some x y h in
      and_from _ _ ((color-same x.color y.color).1 (ap (λ (p : Piece). p.color) e)) ((kind-same x.kind y.kind).1 (ap (λ (p : Piece). p.kind) e)),
)

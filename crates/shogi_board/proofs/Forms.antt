-- What the tests of kinds and colours say.
use Rattle.std.proofs.Common.{◌≡◌, ℕ, ◌<◌, ◌==◌, true, Option, Some, None, ◌⊎◌, inl, inr, refl, ap, arith}
use Rattle.std.proofs.lemmas.Bool.Decides.{Decides-eqb}
use Rattle.shogi_board.specs.Cells.{piece}
use Rattle.shogi_board.specs.declared.kind.Piece.{Piece}
use Rattle.shogi_board.specs.Pieces.{place_of, is_king, is_hand_kind, opponent, same_color, promoted}
use Rattle.shogi_board.specs.declared.color.Color.{Color}
use Rattle.shogi_board.specs.declared.color.Color.TheVariants.{Black, White}
use Rattle.shogi_board.specs.declared.kind.Kind.{Kind}
use Rattle.shogi_board.specs.declared.kind.Kind.TheVariants.{Pawn, King}

-- a promoted form has the place of its kind
pub promoted-place : (was its_kind : Kind) → promoted was ≡ Some its_kind → place_of its_kind ≡ place_of was
promoted-place Pawn its_kind h = cc
promoted-place _ its_kind h = cc

pub form-place : (was its_kind : Kind) → (its_kind ≡ was) ⊎ (promoted was ≡ Some its_kind) → place_of its_kind ≡ place_of was
form-place was its_kind (inl e) = ap place_of e
form-place was its_kind (inr e) = promoted-place was its_kind e

pub held-low : (k : Kind) → is_hand_kind k ≡ true → place_of k < 7
held-low King h = cc
held-low _ h = omega arith

pub held-no-king : (k : Kind) → is_hand_kind k ≡ true → is_king k ≡ true → ⊥
held-no-king King h e = cc
held-no-king _ h e = cc

pub other-color : (a b : Color) → (a ≡ b → ⊥) → a ≡ opponent b
other-color Black Black h = absurd (h refl)
other-color White White h = absurd (h refl)
other-color _ _ h = refl

pub same_color-self : (c : Color) → same_color c c ≡ true
same_color-self Black = refl
same_color-self White = refl

pub eq-self : (m n : ℕ) → m ≡ n → (m == n) ≡ true
eq-self m n e = (Decides-eqb m n).1 e

abbrev kind-in : Option Piece → Kind
kind-in None = Pawn
kind-in (Some x) = x.kind

pub piece-kind : (c : Color) (a b : Kind) → piece c a ≡ piece c b → a ≡ b
piece-kind c a b h = let e : kind-in (piece c a) ≡ kind-in (piece c b) = ap kind-in h in e

pub king-by-place : (k : Kind) → is_king k ≡ (place_of k == 7)
king-by-place King = refl
king-by-place _ = refl

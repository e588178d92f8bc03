-- Kinds and pieces that compare as the same are equal.
use Rattle.std.proofs.Common.{◌≡◌, ℕ, ◌==◌, ◌&&◌, Bool, true, false, List, [], ◌∷◌, Option, Some, None, refl, sym, ap, ◌∙◌}
use Rattle.std.specs.Prelude.{if◌then◌else◌}
use Rattle.std.proofs.lemmas.Bool.{eqb-true}
use Rattle.shogi_board.specs.declared.color.Color.{Color}
use Rattle.shogi_board.specs.declared.color.Color.TheVariants.{Black, White}
use Rattle.shogi_board.specs.declared.kind.Kind.{Kind}
use Rattle.shogi_board.specs.declared.kind.Kind.TheVariants.{Pawn, Lance, Knight, Silver, Gold, Bishop, Rook, King, ProPawn, ProLance, ProKnight, ProSilver, Horse, Dragon}
use Rattle.shogi_board.specs.declared.kind.Piece.{Piece}
use Rattle.shogi_board.specs.Pieces.{same_color, same_kind, same, place_of, is_promoted}
use Rattle.csa_text.specs.CodesOnce.{all_kinds}

pub and_left : (a b : Bool) → (a && b) ≡ true → a ≡ true
and_left true b h = refl
and_left false b h = h

pub and_right : (a b : Bool) → (a && b) ≡ true → b ≡ true
and_right true b h = h
and_right false true h = refl
and_right false false h = h

kind_by : ℕ → Bool → List Kind → Option Kind
kind_by n b [] = None
kind_by n b (k ∷ ks) = if (place_of k == n) && same (is_promoted k) b then Some k else kind_by n b ks

kind_is : (k : Kind) → kind_by (place_of k) (is_promoted k) all_kinds ≡ Some k
unfolding kind_by
kind_is Pawn = refl
kind_is Lance = refl
kind_is Knight = refl
kind_is Silver = refl
kind_is Gold = refl
kind_is Bishop = refl
kind_is Rook = refl
kind_is King = refl
kind_is ProPawn = refl
kind_is ProLance = refl
kind_is ProKnight = refl
kind_is ProSilver = refl
kind_is Horse = refl
kind_is Dragon = refl

same_is : (a b : Bool) → same a b ≡ true → a ≡ b
same_is true b h = sym h
same_is false true h = h
same_is false false h = refl

pub same_kinds : (a b : Kind) → same_kind a b ≡ true → a ≡ b
same_kinds a b h =
    let places : place_of a ≡ place_of b = eqb-true (place_of a) (place_of b) (and_left _ _ h) in
    let forms : is_promoted a ≡ is_promoted b = same_is (is_promoted a) (is_promoted b) (and_right _ _ h) in
    let found : Some a ≡ Some b = sym (kind_is a) ∙ (ap (λ n. kind_by n (is_promoted a) all_kinds) places ∙ (ap (λ f. kind_by (place_of b) f all_kinds) forms ∙ kind_is b)) in
    cc

pub kind_itself : (k : Kind) → same_kind k k ≡ true
kind_itself Pawn = refl
kind_itself Lance = refl
kind_itself Knight = refl
kind_itself Silver = refl
kind_itself Gold = refl
kind_itself Bishop = refl
kind_itself Rook = refl
kind_itself King = refl
kind_itself ProPawn = refl
kind_itself ProLance = refl
kind_itself ProKnight = refl
kind_itself ProSilver = refl
kind_itself Horse = refl
kind_itself Dragon = refl

same_colors : (a b : Color) → same_color a b ≡ true → a ≡ b
same_colors Black Black h = refl
same_colors Black White h = cc
same_colors White Black h = cc
same_colors White White h = refl

pub same_pieces : (p q : Piece) → (same_color p.color q.color && same_kind p.kind q.kind) ≡ true → p ≡ q
same_pieces p q h =
    let first : p ≡ record { color = q.color; kind = p.kind } = ap (λ (c : Color). record p { color = c }) (same_colors p.color q.color (and_left _ _ h)) in
    first ∙ ap (λ (k : Kind). record q { kind = k }) (same_kinds p.kind q.kind (and_right _ _ h))

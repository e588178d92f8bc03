-- Bytes that end no statement, and bytes that are not blanks either.
use Rattle.std.proofs.Common.{◌≡◌, ◌≢◌, ℕ, ◌+◌, ◌<◌, ◌==◌, ◌&&◌, ◌||◌, true, false, List, [], ◌∷◌, ◌++◌, Option, Some, None, refl, ap, ◌∙◌, arith}
use Rattle.std.specs.List.{AllByRecursion, flat_map}
use Rattle.std.proofs.lemmas.Bool.{ne_eqb}
use Rattle.shogi_board.specs.declared.color.Color.{Color}
use Rattle.shogi_board.specs.declared.color.Color.TheVariants.{Black, White}
use Rattle.shogi_board.specs.declared.kind.Kind.{Kind}
use Rattle.shogi_board.specs.declared.kind.Kind.TheVariants.{Pawn, Lance, Knight, Silver, Gold, Bishop, Rook, King, ProPawn, ProLance, ProKnight, ProSilver, Horse, Dragon}
use Rattle.shogi_board.specs.declared.kind.Piece.{Piece}
use Rattle.shogi_board.specs.declared.square.Square.{Square}
use Rattle.shogi_board.specs.Squares.{file_of, rank_of}
use Rattle.shogi_board.specs.declared.moves.Move.{Move}
use Rattle.shogi_board.specs.declared.moves.Move.TheVariants.{Walk, Put}
use Rattle.csa_text.specs.declared.pair.Pair.{Pair}
use Rattle.csa_text.specs.declared.pair.Pair.TheVariants.{On, InHand, Rest}
use Rattle.csa_text.specs.Codes.{sign, square_text, kind_code, cell_text, squares_text}
use Rattle.csa_cutting.specs.Cut.{is_blank, without_last_blanks, before_kept}
use Rattle.csa_text.specs.PairTexts.{pair_text, pairs_text}

pub all_joined : {X : Type 0} (P : X → Type 0) (xs ys : List X) → AllByRecursion P xs → AllByRecursion P ys → AllByRecursion P (xs ++ ys)
all_joined P [] ys h k = k
all_joined P (x ∷ xs) ys h k = (h.0, all_joined P xs ys h.1 k)

pub all_flat : {X Y : Type 0} (P : Y → Type 0) (f : X → List Y) → ((x : X) → AllByRecursion P (f x)) → (xs : List X) → AllByRecursion P (flat_map f xs)
all_flat P f h [] = tt
all_flat P f h (x ∷ xs) = all_joined P (f x) (flat_map f xs) (h x) (all_flat P f h xs)

pub all_weaker : {X : Type 0} (P Q : X → Type 0) → ((x : X) → P x → Q x) → (xs : List X) → AllByRecursion P xs → AllByRecursion Q xs
all_weaker P Q f [] h = tt
all_weaker P Q f (x ∷ xs) h = (f x h.0, all_weaker P Q f xs h.1)

-- no CR, LF or comma
abbrev pub EndsNothing : ℕ → Type 0
EndsNothing b = (b ≢ 13) × (b ≢ 10) × (b ≢ 44)

-- nor a blank
abbrev pub IsSolid : ℕ → Type 0
IsSolid b = EndsNothing b × (b ≢ 32) × (b ≢ 9)

pub solid : (b : ℕ) → 44 < b → IsSolid b
solid b h = (((λ e. omega (arith, e, h)), (λ e. omega (arith, e, h)), (λ e. omega (arith, e, h))), (λ e. omega (arith, e, h)), (λ e. omega (arith, e, h)))

pub solid_sign : (color : Color) → IsSolid (sign color)
solid_sign Black = (((λ e. omega (arith, e)), (λ e. omega (arith, e)), (λ e. omega (arith, e))), (λ e. omega (arith, e)), (λ e. omega (arith, e)))
solid_sign White = solid 45 (omega arith)

pub solid_digit : (n : ℕ) → IsSolid (48 + n)
solid_digit n = solid (48 + n) (omega arith)

two : (a b : ℕ) → 44 < a → 44 < b → AllByRecursion IsSolid (a ∷ b ∷ [])
two a b h k = (solid a h, (solid b k, tt))

pub solid_kind : (k : Kind) → AllByRecursion IsSolid (kind_code k)
solid_kind Pawn = two 70 85 (omega arith) (omega arith)
solid_kind Lance = two 75 89 (omega arith) (omega arith)
solid_kind Knight = two 75 69 (omega arith) (omega arith)
solid_kind Silver = two 71 73 (omega arith) (omega arith)
solid_kind Gold = two 75 73 (omega arith) (omega arith)
solid_kind Bishop = two 75 65 (omega arith) (omega arith)
solid_kind Rook = two 72 73 (omega arith) (omega arith)
solid_kind King = two 79 85 (omega arith) (omega arith)
solid_kind ProPawn = two 84 79 (omega arith) (omega arith)
solid_kind ProLance = two 78 89 (omega arith) (omega arith)
solid_kind ProKnight = two 78 75 (omega arith) (omega arith)
solid_kind ProSilver = two 78 71 (omega arith) (omega arith)
solid_kind Horse = two 85 77 (omega arith) (omega arith)
solid_kind Dragon = two 82 89 (omega arith) (omega arith)

pub solid_square : (s : Square) → AllByRecursion IsSolid (square_text s)
solid_square s = (solid_digit (file_of s), (solid_digit (rank_of s), tt))

pub solid_zeros : AllByRecursion IsSolid (48 ∷ 48 ∷ [])
solid_zeros = two 48 48 (omega arith) (omega arith)

pub solid_pair : (p : Pair) → AllByRecursion IsSolid (pair_text p)
solid_pair (On s k) = all_joined IsSolid (square_text s) (kind_code k) (solid_square s) (solid_kind k)
solid_pair (InHand k) = all_joined IsSolid (48 ∷ 48 ∷ []) (kind_code k) solid_zeros (solid_kind k)
solid_pair Rest = (solid 48 (omega arith), (solid 48 (omega arith), two 65 76 (omega arith) (omega arith)))

pub solid_pairs : (ps : List Pair) → AllByRecursion IsSolid (pairs_text ps)
solid_pairs ps = all_flat IsSolid pair_text solid_pair ps

pub solid_squares : (m : Move) → AllByRecursion IsSolid (squares_text m)
solid_squares (Walk from to k) =
    all_joined IsSolid (square_text from) (square_text to ++ kind_code k) (solid_square from)
    (all_joined IsSolid (square_text to) (kind_code k) (solid_square to) (solid_kind k))
solid_squares (Put to k) =
    all_joined IsSolid (48 ∷ 48 ∷ []) (square_text to ++ kind_code k) solid_zeros
    (all_joined IsSolid (square_text to) (kind_code k) (solid_square to) (solid_kind k))

goes_star : AllByRecursion EndsNothing (32 ∷ 42 ∷ 32 ∷ [])
goes_star = (
  ((λ e. omega (arith, e)), (λ e. omega (arith, e)), (λ e. omega (arith, e))),
  (
    ((λ e. omega (arith, e)), (λ e. omega (arith, e)), (λ e. omega (arith, e))),
    (((λ e. omega (arith, e)), (λ e. omega (arith, e)), (λ e. omega (arith, e))), tt),
  ),
)

pub goes_cell : (c : Option Piece) → AllByRecursion EndsNothing (cell_text c)
goes_cell None = goes_star
goes_cell (Some p) = ((solid_sign p.color).0, all_weaker IsSolid EndsNothing (λ b h. h.0) (kind_code p.kind) (solid_kind p.kind))

pub no_end : (b : ℕ) → EndsNothing b → (b == 13 || b == 10 || (b == 44 && true)) ≡ false
no_end b h = rw (ne_eqb b 13 h.0, ne_eqb b 10 h.1, ne_eqb b 44 h.2) refl

pub no_ends : (bytes : List ℕ) → AllByRecursion EndsNothing bytes → AllByRecursion (λ b. (b == 13 || b == 10 || (b == 44 && true)) ≡ false) bytes
no_ends bytes h = all_weaker EndsNothing (λ b. (b == 13 || b == 10 || (b == 44 && true)) ≡ false) no_end bytes h

pub no_blank : (b : ℕ) → IsSolid b → is_blank b ≡ false
no_blank b h = rw (ne_eqb b 32 h.1, ne_eqb b 9 h.2) refl

solid_before : (b : ℕ) (bs : List ℕ) → is_blank b ≡ false → before_kept b bs ≡ b ∷ bs
solid_before b [] h = rw h refl
solid_before b (c ∷ cs) h = refl

pub solid_whole : (bytes : List ℕ) → AllByRecursion IsSolid bytes → without_last_blanks bytes ≡ bytes
solid_whole [] h = refl
solid_whole (b ∷ bs) h = ap (before_kept b) (solid_whole bs h.1) ∙ solid_before b bs (no_blank b h.0)

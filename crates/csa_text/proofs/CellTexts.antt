-- The cells of a rank are determined by their texts, and how they are read.
use Rattle.std.proofs.Common.{◌≡◌, ◌≢◌, ℕ, ◌+◌, ◌*◌, ◌<◌, arith, List, [], ◌∷◌, ◌++◌, length, take, drop, get_or, Option, Some, None, MatchOption, refl, sym, ap, ◌∙◌, inl, inr, ◌⊎◌}
use Rattle.std.specs.List.{flat_map}
use Rattle.std.proofs.lemmas.List.{length-append}
use Rattle.shogi_board.specs.declared.color.Color.{Color}
use Rattle.shogi_board.specs.declared.color.Color.TheVariants.{Black, White}
use Rattle.shogi_board.specs.declared.kind.Kind.{Kind}
use Rattle.shogi_board.specs.declared.kind.Piece.{Piece}
use Rattle.csa_text.specs.Codes.{sign, kind_code, cell_text}
use Rattle.csa_text.specs.CodesOnce.{kind_once, kind_length}
use Rattle.csa_text.proofs.Codings.{sign_once}
use Rattle.csa_text.specs.PairsOnce.{same_split}
use Rattle.csa_text.proofs.Texts.{texts_length, text_at, texts_more, front_more}

pub cell_length : (cell : Option Piece) → length (cell_text cell) ≡ 3
cell_length None = refl
cell_length (Some p) = omega (arith, kind_length p.kind)

no_space : (color : Color) → sign color ≡ 32 → ⊥
no_space Black e = omega (arith, e)
no_space White e = omega (arith, e)

piece_same : (a b : Piece) → a.color ≡ b.color → a.kind ≡ b.kind → a ≡ b
piece_same a b h k =
    let first : a ≡ record { color = b.color; kind = a.kind } = ap (λ (c : Color). record a { color = c }) h in
    first ∙ ap (λ (l : Kind). record b { kind = l }) k

pub cell_once : (a b : Option Piece) → cell_text a ≡ cell_text b → a ≡ b
cell_once None None e = refl
cell_once None (Some q) e = let space : sign q.color ≡ 32 = cc in absurd (no_space q.color space)
cell_once (Some p) None e = let space : sign p.color ≡ 32 = cc in absurd (no_space p.color space)
cell_once (Some p) (Some q) e =
    let signs : sign p.color ≡ sign q.color = cc in
    let kinds : kind_code p.kind ≡ kind_code q.kind = cc in
    ap Some (piece_same p q (sign_once p.color q.color signs) (kind_once p.kind q.kind kinds))

cell_first : (c : Option Piece) (cs : List (Option Piece)) → flat_map cell_text (c ∷ cs) ≡ [] → ⊥
cell_first c cs e = let n : length (cell_text c ++ flat_map cell_text cs) ≡ 0 = ap length e in grind (arith, cell_length c)

pub cells_once : (cs ds : List (Option Piece)) → flat_map cell_text cs ≡ flat_map cell_text ds → cs ≡ ds
cells_once [] [] e = refl
cells_once [] (d ∷ ds) e = absurd (cell_first d ds (sym e))
cells_once (c ∷ cs) [] e = absurd (cell_first c cs e)
cells_once (c ∷ cs) (d ∷ ds) e =
    let parts = same_split (cell_text c) (cell_text d) (flat_map cell_text cs) (flat_map cell_text ds) (cell_length c ∙ sym (cell_length d)) e in
    ap (λ r. r ∷ cs) (cell_once c d parts.0) ∙ ap (λ rs. d ∷ rs) (cells_once cs ds parts.1)

pub cells_length : (bytes : List ℕ) (cells : List (Option Piece)) → bytes ≡ flat_map cell_text cells → length bytes ≡ 3 * length cells
cells_length bytes cells e = let whole : length bytes ≡ length (flat_map cell_text cells) = ap length e in omega (arith, whole, texts_length cell_text 3 cell_length cells)

pub no_nine : (bytes : List ℕ) → length bytes ≢ 27 → (cells : List (Option Piece)) → length cells ≡ 9 → bytes ≡ flat_map cell_text cells → ⊥
no_nine bytes other cells nine e = other (omega (arith, cells_length bytes cells e))

pub no_cells : (bytes three : List ℕ) (i : ℕ) → i < 9 → three ≡ take 3 (drop (3 * i) bytes) → ((cell : Option Piece) → three ≡ cell_text cell → ⊥) → (cells : List (Option Piece)) → length cells ≡ 9 → bytes ≡ flat_map cell_text cells → ⊥
no_cells bytes three i less is none cells nine e =
    none (get_or cells i None) (is ∙ rw e (text_at cell_text 3 cell_length cells i None (omega arith)))

pub cells_next : (bytes three : List ℕ) (i : ℕ) (front next : List (Option Piece)) (cell : Option Piece) → take (3 * i) bytes ≡ flat_map cell_text front → three ≡ take 3 (drop (3 * i) bytes) → three ≡ cell_text cell → next ≡ front ++ cell ∷ [] → take (3 * (i + 1)) bytes ≡ flat_map cell_text next
cells_next bytes three i front next cell h is e more =
    front_more bytes 3 i ∙ ap (λ bs. bs ++ take 3 (drop (3 * i) bytes)) h ∙ ap (λ bs. flat_map cell_text front ++ bs) (sym is ∙ e)
    ∙ sym (texts_more cell_text front cell) ∙ ap (flat_map cell_text) (sym more)

-- the text of nine cells, or that text without its last space
abbrev pub CellsOf : List ℕ → List (Option Piece) → Type 0
CellsOf bytes cells = (bytes ≡ flat_map cell_text cells) ⊎ (bytes ++ 32 ∷ [] ≡ flat_map cell_text cells)

pub short_rank : (bytes whole : List ℕ) (o : Option (List (Option Piece))) → whole ≡ bytes → length bytes ≡ 26 → MatchOption o ((cells : List (Option Piece)) → length cells ≡ 9 → whole ++ 32 ∷ [] ≡ flat_map cell_text cells → ⊥) (λ cells. whole ++ 32 ∷ [] ≡ flat_map cell_text cells) → MatchOption o ((cells : List (Option Piece)) → length cells ≡ 9 → CellsOf bytes cells → ⊥) (λ cells. CellsOf bytes cells)
short_rank bytes whole None same size h = λ cells nine w.
    elim w [
      | inl e ↦ omega (arith, cells_length bytes cells e, size, nine)
      | inr e ↦ h cells nine (rw same e)
    ]
short_rank bytes whole (Some cells) same size h = inr (rw (← same) h)

pub whole_rank : (bytes : List ℕ) (o : Option (List (Option Piece))) → length bytes ≢ 26 → MatchOption o ((cells : List (Option Piece)) → length cells ≡ 9 → bytes ≡ flat_map cell_text cells → ⊥) (λ cells. bytes ≡ flat_map cell_text cells) → MatchOption o ((cells : List (Option Piece)) → length cells ≡ 9 → CellsOf bytes cells → ⊥) (λ cells. CellsOf bytes cells)
whole_rank bytes None size h = λ cells nine w.
    elim w [
      | inl e ↦ h cells nine e
      | inr e ↦ size (omega (arith, cells_length (bytes ++ 32 ∷ []) cells e, nine, length-append bytes (32 ∷ [])))
    ]
whole_rank bytes (Some cells) size h = inl h

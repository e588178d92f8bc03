-- Cells are ordered as what they hold, by their codes.
use Rattle.std.proofs.Common.{◌≡◌, ℕ, ◌+◌, ◌*◌, ◌<◌, List, [], ◌∷◌, Option, Some, None, suc, inl, inr, arith, refl, ap, sym, ◌∙◌}
use Rattle.std.specs.Cmp.{nat_cmp_is}
use Rattle.std.specs.Cmp.Lexicographic.{slice_cmp}
use Rattle.std.specs.Option.{option_cmp}
use Rattle.std.specs.Ordering.{ordering_then, nat_cmp}
use Rattle.std.specs.declared.cmp.Ordering.{Ordering}
use Rattle.std.specs.declared.cmp.Ordering.TheVariants.{Less, Equal, Greater}
use Rattle.std.proofs.lemmas.Bool.{cases_lt}
use denote.Struct.Field.{Field}
use denote.Enum.Compared.{by}
use denote.Enum.Declared.{Choice}
use Rattle.std.specs.Cmp.Derive.{points}
use Rattle.shogi_board.specs.Cells.{Cells, piece}
use Rattle.shogi_board.specs.Contents.{code_of}
use Rattle.shogi_board.specs.contracts.cell.Code as code
use Rattle.shogi_board.specs.contracts.cell.CellOrd.TheImpl as cells
use Rattle.shogi_board.specs.contracts.cell.CodeOrd.TheImpl as codes
use Rattle.shogi_board.specs.contracts.color.Color as color
use Rattle.shogi_board.specs.contracts.color.ColorOrd.TheImpl as colors
use Rattle.shogi_board.specs.contracts.kind.Kind as kind
use Rattle.shogi_board.specs.contracts.kind.KindOrd.TheImpl as kinds
use Rattle.shogi_board.specs.contracts.kind.PieceOrd.TheImpl as pieces
use Rattle.shogi_board.specs.declared.cell.Code.{Code}
use Rattle.shogi_board.specs.declared.color.Color.{Color}
use Rattle.shogi_board.specs.declared.color.Color.TheVariants.{Black, White}
use Rattle.shogi_board.specs.declared.kind.Kind.{Kind}
use Rattle.shogi_board.specs.declared.kind.Kind.TheVariants.{Pawn}
use Rattle.shogi_board.specs.declared.kind.Piece.{Piece}

-- the place of a variant among those of its enum
abbrev number : (Fss : List (List Field)) → Choice Fss → ℕ
number [] c = absurd c
number (Fs ∷ Fss) (inl x) = 0
number (Fs ∷ Fss) (inr y) = suc (number Fss y)

following : (m n : ℕ) → nat_cmp m n ≡ nat_cmp (suc m) (suc n)
following m n =
    elim (cases_lt m n) [
      | inl lt ↦ sym (nat_cmp_is m n Less lt) ∙ nat_cmp_is (suc m) (suc n) Less (omega (arith, lt))
      | inr ge ↦ elim (cases_lt n m) [
        | inl gt ↦ sym (nat_cmp_is m n Greater gt) ∙ nat_cmp_is (suc m) (suc n) Greater (omega (arith, gt))
        | inr le ↦ sym (nat_cmp_is m n Equal (omega (arith, ge, le))) ∙ nat_cmp_is (suc m) (suc n) Equal (omega (arith, ge, le))
      ]
    ]

-- variants without fields are ordered by their places
by-number : (Fss : List (List Field)) (c d : Choice Fss) → by Less Greater Fss (points Equal Fss) c d ≡ nat_cmp (number Fss c) (number Fss d)
by-number [] c d = absurd c
by-number (Fs ∷ Fss) (inl x) (inl y) = nat_cmp_is 0 0 Equal refl
by-number (Fs ∷ Fss) (inl x) (inr y) = nat_cmp_is 0 (suc (number Fss y)) Less (omega arith)
by-number (Fs ∷ Fss) (inr x) (inl y) = nat_cmp_is (suc (number Fss x)) 0 Greater (omega arith)
by-number (Fs ∷ Fss) (inr x) (inr y) = by-number Fss x y ∙ following (number Fss x) (number Fss y)

abbrev code_number : Code → ℕ
code_number x = number code.enum.parts (code.enum.as_values x)

abbrev color_number : Color → ℕ
color_number c = number color.enum.parts (color.enum.as_values c)

abbrev kind_number : Kind → ℕ
kind_number k = number kind.enum.parts (kind.enum.as_values k)

code-by : (x y : Code) → codes.cmp-value.it x y ≡ nat_cmp (code_number x) (code_number y)
code-by x y = by-number code.enum.parts (code.enum.as_values x) (code.enum.as_values y)

color-by : (c d : Color) → colors.cmp-value.it c d ≡ nat_cmp (color_number c) (color_number d)
color-by c d = by-number color.enum.parts (color.enum.as_values c) (color.enum.as_values d)

kind-by : (k l : Kind) → kinds.cmp-value.it k l ≡ nat_cmp (kind_number k) (kind_number l)
kind-by k l = by-number kind.enum.parts (kind.enum.as_values k) (kind.enum.as_values l)

-- a code's number, by colour and kind
code-number : (c : Color) (k : Kind) → code_number (code_of (piece c k)) ≡ 14 * color_number c + kind_number k + 1
code-number Black Pawn = refl
code-number White Pawn = refl
code-number _ _ = refl

kind-low : (k : Kind) → kind_number k < 14
kind-low Pawn = omega arith
kind-low _ = omega arith

within-side : (c d k l : ℕ) → c ≡ d → nat_cmp (14 * c + k + 1) (14 * d + l + 1) ≡ nat_cmp k l
within-side c d k l e =
    elim (cases_lt k l) [
      | inl lt ↦ sym (nat_cmp_is (14 * c + k + 1) (14 * d + l + 1) Less (omega (arith, e, lt))) ∙ nat_cmp_is k l Less lt
      | inr ge ↦ elim (cases_lt l k) [
        | inl gt ↦ sym (nat_cmp_is (14 * c + k + 1) (14 * d + l + 1) Greater (omega (arith, e, gt))) ∙ nat_cmp_is k l Greater gt
        | inr le ↦ sym (nat_cmp_is (14 * c + k + 1) (14 * d + l + 1) Equal (omega (arith, e, ge, le))) ∙ nat_cmp_is k l Equal (omega (arith, ge, le))
      ]
    ]

by-side-first : (c d k l : ℕ) → k < 14 → l < 14 → nat_cmp (14 * c + k + 1) (14 * d + l + 1) ≡ ordering_then (nat_cmp c d) (nat_cmp k l)
by-side-first c d k l low high =
    elim (cases_lt c d) [
      | inl lt ↦ sym (nat_cmp_is (14 * c + k + 1) (14 * d + l + 1) Less (omega (arith, lt, low, high))) ∙ ap (λ (o : Ordering). ordering_then o (nat_cmp k l)) (nat_cmp_is c d Less lt)
      | inr ge ↦ elim (cases_lt d c) [
        | inl gt ↦ sym (nat_cmp_is (14 * c + k + 1) (14 * d + l + 1) Greater (omega (arith, gt, low, high))) ∙ ap (λ (o : Ordering). ordering_then o (nat_cmp k l)) (nat_cmp_is c d Greater gt)
        | inr le ↦ within-side c d k l (omega (arith, ge, le)) ∙ ap (λ (o : Ordering). ordering_then o (nat_cmp k l)) (nat_cmp_is c d Equal (omega (arith, ge, le)))
      ]
    ]

cell-cmp : (x y : Option Piece) → cells.cmp-value.it x y ≡ option_cmp pieces.cmp-value.it x y
cell-cmp None None = refl
cell-cmp None (Some q) =
    let some = code-number q.color q.kind in
    code-by (code_of None) (code_of (Some q)) ∙ sym (nat_cmp_is 0 (code_number (code_of (Some q))) Less (omega (arith, some)))
cell-cmp (Some p) None =
    let some = code-number p.color p.kind in
    code-by (code_of (Some p)) (code_of None) ∙ sym (nat_cmp_is (code_number (code_of (Some p))) 0 Greater (omega (arith, some)))
cell-cmp (Some p) (Some q) =
    let c = color_number p.color in
    let d = color_number q.color in
    let k = kind_number p.kind in
    let l = kind_number q.kind in
    code-by (code_of (Some p)) (code_of (Some q))
    ∙ (ap (λ (n : ℕ). nat_cmp n (code_number (code_of (Some q)))) (code-number p.color p.kind)
    ∙ (ap (λ (n : ℕ). nat_cmp (14 * c + k + 1) n) (code-number q.color q.kind)
    ∙ (by-side-first c d k l (kind-low p.kind) (kind-low q.kind)
    ∙ sym (ap (λ (o : Ordering). ordering_then o (kinds.cmp-value.it p.kind q.kind)) (color-by p.color q.color) ∙ ap (λ (o : Ordering). ordering_then (nat_cmp c d) o) (kind-by p.kind q.kind)))))

pub cells-cmp : (xs ys : Cells) → slice_cmp cells.cmp-value.it xs ys ≡ slice_cmp (option_cmp pieces.cmp-value.it) xs ys
cells-cmp [] [] = refl
cells-cmp [] (y ∷ ys) = refl
cells-cmp (x ∷ xs) [] = refl
cells-cmp (x ∷ xs) (y ∷ ys) =
    ap (λ (o : Ordering). ordering_then o (slice_cmp cells.cmp-value.it xs ys)) (cell-cmp x y)
    ∙ ap (λ (o : Ordering). ordering_then (option_cmp pieces.cmp-value.it x y) o) (cells-cmp xs ys)

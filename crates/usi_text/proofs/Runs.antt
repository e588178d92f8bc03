-- A rank as the writer goes through it: a count of empty squares, and the cells that are left.
use Rattle.std.proofs.Common.{◌≡◌, ℕ, zero, suc, ◌+◌, List, [], ◌∷◌, ◌++◌, Option, Some, None, cond, inl, inr, arith, refl, sym, ap, ◌∙◌, subst}
use Rattle.std.specs.List.{flat_map}
use Rattle.std.proofs.lemmas.Bool.Decides.{eqb_tells}
use Rattle.shogi_board.specs.declared.kind.Piece.{Piece}
use Rattle.usi_text.specs.Boards.{Part, empty_squares, one_piece, part_text}
use Rattle.usi_text.specs.Letters.{piece_text}
use Rattle.usi_text.specs.SfenText.{with_empty, parts_of}
use Rattle.usi_text.specs.Scanning.{run_text}

-- n empty squares, and then these cells
abbrev pub text_after : ℕ → List (Option Piece) → List ℕ
text_after n [] = run_text n
text_after n (None ∷ cells) = text_after (n + 1) cells
text_after n (Some p ∷ cells) = run_text n ++ (piece_text p ++ text_after 0 cells)

-- so many empty squares in front of parts
abbrev pub with_run : ℕ → List Part → List Part
with_run zero parts = parts
with_run (suc n) parts = with_empty (with_run n parts)

run_pushed : (n : ℕ) (parts : List Part) → with_run (suc n) parts ≡ with_run n (with_empty parts)
run_pushed zero parts = refl
run_pushed (suc n) parts = ap with_empty (run_pushed n parts)

run_moved : (n : ℕ) (parts : List Part) → with_run (n + 1) parts ≡ with_run n (with_empty parts)
run_moved n parts =
    let e : suc n ≡ n + 1 = omega arith in
    subst (λ m. with_run m parts ≡ with_run n (with_empty parts)) e (run_pushed n parts)

run_alone : (n : ℕ) → with_run (suc n) [] ≡ empty_squares (suc n) ∷ []
run_alone zero = refl
run_alone (suc n) = ap with_empty (run_alone n)

run_piece : (n : ℕ) (p : Piece) (parts : List Part) → with_run (suc n) (one_piece p ∷ parts) ≡ empty_squares (suc n) ∷ one_piece p ∷ parts
run_piece zero p parts = refl
run_piece (suc n) p parts = ap with_empty (run_piece n p parts)

abbrev stated : List Part → List ℕ
stated parts = flat_map part_text parts

pub run_some : (n : ℕ) → run_text (suc n) ≡ (48 + suc n) ∷ []
run_some n =
    elim (eqb_tells (suc n) 0) [
      | inl same ↦ let e = same.1 in absurd (omega arith)
      | inr other ↦ ap (λ b. cond b [] ((48 + suc n) ∷ [])) other.0
    ]

pub after_is : (n : ℕ) (cells : List (Option Piece)) → text_after n cells ≡ stated (with_run n (parts_of cells))
after_is zero [] = refl
after_is (suc n) [] = run_some n ∙ ap stated (sym (run_alone n))
after_is n (None ∷ cells) = after_is (n + 1) cells ∙ ap stated (run_moved n (parts_of cells))
after_is zero (Some p ∷ cells) = ap (λ t. piece_text p ++ t) (after_is 0 cells)
after_is (suc n) (Some p ∷ cells) =
    ap (λ t. t ++ (piece_text p ++ text_after 0 cells)) (run_some n)
    ∙ (ap (λ t. (48 + suc n) ∷ (piece_text p ++ t)) (after_is 0 cells) ∙ ap stated (sym (run_piece n p (parts_of cells))))

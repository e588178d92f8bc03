-- Lemmas that the type of `Pairs` needs: no two kinds have the same code, and no two squares the
-- same digits, so the bytes of `Pairs` are one list of pairs. A reader of the grammar may skip this
-- file.
use Rattle.std.proofs.Common.{◌≡◌, ℕ, ◌+◌, arith, List, [], ◌∷◌, Option, Some, None, refl, sym, ap, ◌∙◌, length}
use Rattle.std.specs.Prelude.{nat_eq, if◌then◌else◌, codes}
use Rattle.std.specs.Cmp.Lexicographic.{pointwise}
use Rattle.shogi_board.specs.declared.kind.Kind.{Kind}
use Rattle.shogi_board.specs.declared.kind.Kind.TheVariants.{Pawn, Lance, Knight, Silver, Gold, Bishop, Rook, King, ProPawn, ProLance, ProKnight, ProSilver, Horse, Dragon}
use Rattle.shogi_board.specs.declared.square.Square.{Square}
use Rattle.shogi_board.specs.Squares.{file_of, rank_of}
use Rattle.shogi_board.proofs.Squares.{square-same}
use Rattle.csa_text.specs.Codes.{kind_code}

-- the first element of the list with this text
abbrev pub found_by : {X : Type 0} → (X → List ℕ) → List X → List ℕ → Option X
found_by text [] bytes = None
found_by text (x ∷ xs) bytes =
    if pointwise nat_eq (text x) bytes then Some x else found_by text xs bytes

-- if each element is found by its text, no two have the same text
pub text_once : {X : Type 0} (text : X → List ℕ) (xs : List X)
    → ((x : X) → found_by text xs (text x) ≡ Some x) → (a b : X) → text a ≡ text b → a ≡ b
text_once text xs all a b e =
    let same : Some a ≡ Some b = sym (all a) ∙ ap (found_by text xs) e ∙ all b in
    cc

abbrev pub all_kinds : List Kind
all_kinds =
    Pawn ∷ Lance ∷ Knight ∷ Silver ∷ Gold ∷ Bishop ∷ Rook ∷ King
    ∷ ProPawn ∷ ProLance ∷ ProKnight ∷ ProSilver ∷ Horse ∷ Dragon ∷ []

-- the code of a kind has two bytes, and the kind is found by it
kind_read : (k : Kind)
    → (found_by kind_code all_kinds (kind_code k) ≡ Some k) × (length (kind_code k) ≡ 2)
kind_read Pawn = (refl, refl)
kind_read Lance = (refl, refl)
kind_read Knight = (refl, refl)
kind_read Silver = (refl, refl)
kind_read Gold = (refl, refl)
kind_read Bishop = (refl, refl)
kind_read Rook = (refl, refl)
kind_read King = (refl, refl)
kind_read ProPawn = (refl, refl)
kind_read ProLance = (refl, refl)
kind_read ProKnight = (refl, refl)
kind_read ProSilver = (refl, refl)
kind_read Horse = (refl, refl)
kind_read Dragon = (refl, refl)

pub kind_found : (k : Kind) → found_by kind_code all_kinds (kind_code k) ≡ Some k
kind_found k = (kind_read k).0

pub kind_length : (k : Kind) → length (kind_code k) ≡ 2
kind_length k = (kind_read k).1

pub kind_once : (a b : Kind) → kind_code a ≡ kind_code b → a ≡ b
kind_once a b e = text_once kind_code all_kinds kind_found a b e

-- `AL` is no kind
pub no_rest_kind : (k : Kind) → kind_code k ≡ codes "AL" → ⊥
no_rest_kind k e =
    let none : Some k ≡ None = sym (kind_found k) ∙ ap (found_by kind_code all_kinds) e in
    cc

pub square_once : (a b : Square) → 48 + file_of a ≡ 48 + file_of b
    → 48 + rank_of a ≡ 48 + rank_of b → a ≡ b
square_once a b f r = square-same a b (omega (arith, f)) (omega (arith, r))

-- no square has the digit 0
pub no_zero_file : (s : Square) → 48 + file_of s ≡ 48 → ⊥
no_zero_file s e = let h = s.on_board in omega (arith, e)

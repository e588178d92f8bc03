-- Lemmas that the type of `Pairs` needs: bytes are the text of at most one list of pairs. A reader
-- of the grammar may skip this file.
use Rattle.std.proofs.Common.{◌≡◌, ℕ, ◌+◌, arith, List, [], ◌∷◌, ◌++◌, refl, sym, ap, ◌∙◌, length, take, drop, subst}
use Rattle.std.proofs.Math.Seq.{take-append_seam, drop-append_seam}
use Rattle.std.proofs.Props.{props}
use Rattle.shogi_board.specs.Squares.{file_of, rank_of}
use Rattle.std.specs.Prelude.{codes}
use Rattle.csa_text.specs.Codes.{kind_code}
use Rattle.csa_text.specs.declared.pair.Pair.{Pair}
use Rattle.csa_text.specs.declared.pair.Pair.TheVariants.{On, InHand, Rest}
use Rattle.csa_text.specs.PairTexts.{pair_text, pairs_text}
use Rattle.csa_text.specs.CodesOnce.{kind_once, kind_length, no_rest_kind, square_once, no_zero_file}

pub pair_length : (p : Pair) → length (pair_text p) ≡ 4
pair_length (On s k) = omega (arith, kind_length k)
pair_length (InHand k) = omega (arith, kind_length k)
pair_length Rest = refl

pub pair_once : (p q : Pair) → pair_text p ≡ pair_text q → p ≡ q
pair_once (On s k) (On t l) e =
    let files : 48 + file_of s ≡ 48 + file_of t = cc in
    let ranks : 48 + rank_of s ≡ 48 + rank_of t = cc in
    let square : s ≡ t = square_once s t files ranks in
    let codes_are : kind_code k ≡ kind_code l = cc in
    ap (λ u. On u k) square ∙ ap (On t) (kind_once k l codes_are)
pair_once (On s k) (InHand l) e =
    let zero_file : 48 + file_of s ≡ 48 = cc in
    absurd (no_zero_file s zero_file)
pair_once (On s k) Rest e =
    let zero_file : 48 + file_of s ≡ 48 = cc in
    absurd (no_zero_file s zero_file)
pair_once (InHand k) (On t l) e =
    let zero_file : 48 + file_of t ≡ 48 = cc in
    absurd (no_zero_file t zero_file)
pair_once (InHand k) (InHand l) e =
    let codes_are : kind_code k ≡ kind_code l = cc in
    ap InHand (kind_once k l codes_are)
pair_once (InHand k) Rest e =
    let code : kind_code k ≡ codes "AL" = cc in
    absurd (no_rest_kind k code)
pair_once Rest (On t l) e =
    let zero_file : 48 + file_of t ≡ 48 = cc in
    absurd (no_zero_file t zero_file)
pair_once Rest (InHand l) e =
    let code : kind_code l ≡ codes "AL" = cc in
    absurd (no_rest_kind l code)
pair_once Rest Rest e = refl

-- two fronts of the same length are equal, and so is what follows them
pub same_split : (a b x y : List ℕ) → length a ≡ length b → a ++ x ≡ b ++ y → (a ≡ b) × (x ≡ y)
same_split a b x y h e = (
  sym (take-append_seam a x) ∙ ap (take (length a)) e ∙ ap (λ n. take n (b ++ y)) h
      ∙ take-append_seam b y,
  sym (drop-append_seam a x) ∙ ap (drop (length a)) e ∙ ap (λ n. drop n (b ++ y)) h
      ∙ drop-append_seam b y,
)

pair_first : (p : Pair) (ps : List Pair) → pairs_text (p ∷ ps) ≡ [] → ⊥
pair_first p ps e =
    let n : length (pair_text p ++ pairs_text ps) ≡ 0 = ap length e in
    grind (arith, pair_length p)

pub pairs_once : (ps qs : List Pair) → pairs_text ps ≡ pairs_text qs → ps ≡ qs
pairs_once [] [] e = refl
pairs_once [] (q ∷ qs) e = absurd (pair_first q qs (sym e))
pairs_once (p ∷ ps) [] e = absurd (pair_first p ps e)
pairs_once (p ∷ ps) (q ∷ qs) e =
    let parts =
    same_split (pair_text p) (pair_text q) (pairs_text ps) (pairs_text qs)
    (pair_length p ∙ sym (pair_length q)) e in
    ap (λ r. r ∷ ps) (pair_once p q parts.0) ∙ ap (λ rs. q ∷ rs) (pairs_once ps qs parts.1)

texts-prop : (a b : List ℕ) (e f : a ≡ b) → e ≡ f
texts-prop a b = let p : IsProp (a ≡ b) = hlevel props in p

-- there is at most one such list
pub pairs-prop : (bytes : List ℕ) → IsProp ((pairs : List Pair) × (bytes ≡ pairs_text pairs))
pairs-prop bytes (ps, e) (qs, f) =
    let same : ps ≡ qs = pairs_once ps qs (sym e ∙ f) in
    let P : List Pair → Type 0 = λ rs. (g : bytes ≡ pairs_text rs) → (ps, e) ≡ (rs, g) in
    subst P same
    (λ g. ap (λ (h : bytes ≡ pairs_text ps). (ps, h)) (texts-prop bytes (pairs_text ps) e g)) f

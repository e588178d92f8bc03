-- The trailing blanks of a statement.
use Rattle.std.proofs.Common.{◌≡◌, ℕ, ◌+◌, ◌-◌, ◌<◌, ◌≤◌, Bool, true, false, List, [], ◌∷◌, ◌++◌, length, take, get_or, Option, Some, None, MatchOption, arith, refl, sym, ap, ◌∙◌, subst, if◌then◌else◌}
use Rattle.std.proofs.lemmas.List.{take_more}
use Rattle.std.proofs.lemmas.Option.{slice_get-get_or}
use Rattle.std.proofs.Math.Seq.{take-length}
use Rattle.std.specs.List.{slice_get}
use Rattle.csa_cutting.specs.Cut.{is_blank, without_last_blanks, before_kept}

pub blank_last : (xs : List ℕ) (b : ℕ) → is_blank b ≡ true → without_last_blanks (xs ++ b ∷ []) ≡ without_last_blanks xs
blank_last [] b h = rw h refl
blank_last (x ∷ xs) b h = ap (before_kept x) (blank_last xs b h)

kept_before : (x : ℕ) (xs : List ℕ) (b : ℕ) → before_kept x (xs ++ b ∷ []) ≡ x ∷ (xs ++ b ∷ [])
kept_before x [] b = refl
kept_before x (y ∷ ys) b = refl

pub kept_last : (xs : List ℕ) (b : ℕ) → is_blank b ≡ false → without_last_blanks (xs ++ b ∷ []) ≡ xs ++ b ∷ []
kept_last [] b h = rw h refl
kept_last (x ∷ xs) b h = ap (before_kept x) (kept_last xs b h) ∙ kept_before x xs b

split_last : (xs : List ℕ) (end : ℕ) → 0 < end → end ≤ length xs → take end xs ≡ take (end - 1) xs ++ get_or xs (end - 1) 0 ∷ []
split_last xs end some within =
    let back : end ≡ end - 1 + 1 = omega arith in
    ap (λ n. take n xs) back ∙ take_more xs (end - 1) 0 (omega arith)

pub one_less : (xs : List ℕ) (end : ℕ) → 0 < end → end ≤ length xs → is_blank (get_or xs (end - 1) 0) ≡ true → without_last_blanks (take end xs) ≡ without_last_blanks (take (end - 1) xs)
one_less xs end some within blank = ap without_last_blanks (split_last xs end some within) ∙ blank_last (take (end - 1) xs) (get_or xs (end - 1) 0) blank

pub all_kept : (xs : List ℕ) (end : ℕ) → 0 < end → end ≤ length xs → is_blank (get_or xs (end - 1) 0) ≡ false → without_last_blanks (take end xs) ≡ take end xs
all_kept xs end some within solid =
    let split = split_last xs end some within in
    ap without_last_blanks split ∙ kept_last (take (end - 1) xs) (get_or xs (end - 1) 0) solid ∙ sym split

last_kept : (xs : List ℕ) (b : ℕ) → Some b ≡ slice_get xs (length xs - 1) → is_blank b ≡ false → without_last_blanks xs ≡ xs
last_kept [] b e solid = refl
last_kept (x ∷ xs) b e solid =
    let ys : List ℕ = x ∷ xs in
    let last : Some b ≡ Some (get_or ys (length ys - 1) 0) = e ∙ slice_get-get_or ys (length ys - 1) 0 (omega arith) in
    let same : b ≡ get_or ys (length ys - 1) 0 = cc in
    subst (λ zs. without_last_blanks zs ≡ zs) (take-length ys) (all_kept ys (length ys) (omega arith) (omega arith) (rw (← same) solid))

-- bytes whose last one is not a blank are kept whole
pub kept_whole : (xs : List ℕ) (last : Option ℕ) (blank : Bool) → last ≡ slice_get xs (length xs - 1) → MatchOption last (blank ≡ false) (λ b. blank ≡ is_blank b) → blank ≡ false → without_last_blanks xs ≡ xs
kept_whole [] last blank e stated solid = refl
kept_whole (x ∷ xs) None blank e stated solid =
    let ys : List ℕ = x ∷ xs in
    let some : slice_get ys (length ys - 1) ≡ Some (get_or ys (length ys - 1) 0) = slice_get-get_or ys (length ys - 1) 0 (omega arith) in
    cc
kept_whole (x ∷ xs) (Some last) blank e stated solid = last_kept (x ∷ xs) last e (sym stated ∙ solid)

pub either_way : (b : Bool) (xs ys : List ℕ) → ys ≡ xs → xs ≡ (if b then xs else ys)
either_way true xs ys e = refl
either_way false xs ys e = sym e

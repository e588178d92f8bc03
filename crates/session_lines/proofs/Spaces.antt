-- The spaces at the end of a line.
use Rattle.std.proofs.Common.{◌≡◌, ℕ, ◌+◌, ◌-◌, ◌<◌, ◌≤◌, ◌==◌, true, false, List, [], ◌∷◌, ◌++◌, length, take, get_or, arith, refl, sym, ap, ◌∙◌}
use Rattle.std.proofs.lemmas.List.{take_more}
use Rattle.session_lines.specs.Texts.{without_last_spaces, before_unspaced}

space_last : (xs : List ℕ) (b : ℕ) → (b == 32) ≡ true → without_last_spaces (xs ++ b ∷ []) ≡ without_last_spaces xs
space_last [] b h = rw h refl
space_last (x ∷ xs) b h = ap (before_unspaced x) (space_last xs b h)

kept_before : (x : ℕ) (xs : List ℕ) (b : ℕ) → before_unspaced x (xs ++ b ∷ []) ≡ x ∷ (xs ++ b ∷ [])
kept_before x [] b = refl
kept_before x (y ∷ ys) b = refl

kept_last : (xs : List ℕ) (b : ℕ) → (b == 32) ≡ false → without_last_spaces (xs ++ b ∷ []) ≡ xs ++ b ∷ []
kept_last [] b h = rw h refl
kept_last (x ∷ xs) b h = ap (before_unspaced x) (kept_last xs b h) ∙ kept_before x xs b

split_last : (xs : List ℕ) (end : ℕ) → 0 < end → end ≤ length xs → take end xs ≡ take (end - 1) xs ++ get_or xs (end - 1) 0 ∷ []
split_last xs end some within =
    let back : end ≡ end - 1 + 1 = omega arith in
    ap (λ n. take n xs) back ∙ take_more xs (end - 1) 0 (omega arith)

pub one_less : (xs : List ℕ) (end : ℕ) → 0 < end → end ≤ length xs → (get_or xs (end - 1) 0 == 32) ≡ true → without_last_spaces (take end xs) ≡ without_last_spaces (take (end - 1) xs)
one_less xs end some within space = ap without_last_spaces (split_last xs end some within) ∙ space_last (take (end - 1) xs) (get_or xs (end - 1) 0) space

pub all_kept : (xs : List ℕ) (end : ℕ) → 0 < end → end ≤ length xs → (get_or xs (end - 1) 0 == 32) ≡ false → without_last_spaces (take end xs) ≡ take end xs
all_kept xs end some within solid =
    let split = split_last xs end some within in
    ap without_last_spaces split ∙ kept_last (take (end - 1) xs) (get_or xs (end - 1) 0) solid ∙ sym split

-- Lists written as texts of the same length: where each text is.
use Rattle.std.proofs.Common.{◌≡◌, ℕ, zero, suc, ◌+◌, ◌*◌, ◌-◌, ◌<◌, arith, List, [], ◌∷◌, ◌++◌, length, take, drop, get_or, refl, sym, ap, ◌∙◌, append_assoc}
use Rattle.std.specs.List.{flat_map, AllByRecursion}
use Rattle.std.proofs.lemmas.List.{append-nil}
use Rattle.std.proofs.lemmas.List.{length-append}
use Rattle.std.proofs.Math.Seq.{drop-append-add, take-append_seam, take-add}

-- each text has this length
abbrev pub HasWidth : {X : Type 0} → (X → List ℕ) → ℕ → Type 0
HasWidth {X} text width = (x : X) → length (text x) ≡ width

pub texts_length : {X : Type 0} (text : X → List ℕ) (width : ℕ) → HasWidth text width → (xs : List X) → length (flat_map text xs) ≡ width * length xs
texts_length text width h [] = omega arith
texts_length text width h (x ∷ xs) = omega (arith, length-append (text x) (flat_map text xs), h x, texts_length text width h xs)

-- the i-th text comes after i others
pub text_at : {X : Type 0} (text : X → List ℕ) (width : ℕ) → HasWidth text width → (xs : List X) (i : ℕ) (d : X) → i < length xs → take width (drop (width * i) (flat_map text xs)) ≡ text (get_or xs i d)
text_at text width h [] i d less = absurd (omega arith)
text_at text width h (x ∷ xs) zero d less =
    let none : width * 0 ≡ 0 = omega arith in
    rw (none, ← h x) (take-append_seam (text x) (flat_map text xs))
text_at text width h (x ∷ xs) (suc i) d less =
    let more : width * suc i ≡ length (text x) + width * i = omega (arith, h x) in
    rw (more, drop-append-add (text x) (flat_map text xs) (width * i)) (text_at text width h xs i d (omega arith))

-- with one more text
pub texts_more : {X : Type 0} (text : X → List ℕ) (xs : List X) (x : X) → flat_map text (xs ++ x ∷ []) ≡ flat_map text xs ++ text x
texts_more text [] x = append-nil (text x)
texts_more text (y ∷ ys) x = ap (λ bs. text y ++ bs) (texts_more text ys x) ∙ sym (append_assoc (text y) (flat_map text ys) (text x))

-- the front of width * (i + 1) bytes is that of width * i bytes and the next width
pub front_more : (bytes : List ℕ) (width i : ℕ) → take (width * (i + 1)) bytes ≡ take (width * i) bytes ++ take width (drop (width * i) bytes)
front_more bytes width i = let more : width * (i + 1) ≡ width * i + width = omega arith in rw more (take-add (width * i) width bytes)

pub each_of_all : {X : Type 0} (P : X → Type 0) (xs : List X) → AllByRecursion P xs → (i : ℕ) (d : X) → i < length xs → P (get_or xs i d)
each_of_all P [] h i d less = absurd (omega arith)
each_of_all P (x ∷ xs) h zero d less = h.0
each_of_all P (x ∷ xs) h (suc i) d less = each_of_all P xs h.1 i d (omega arith)

pub all_from_each : {X : Type 0} (P : X → Type 0) (xs : List X) (d : X) → ((i : ℕ) → i < length xs → P (get_or xs i d)) → AllByRecursion P xs
all_from_each P [] d h = tt
all_from_each P (x ∷ xs) d h = (h 0 (omega arith), all_from_each P xs d (λ i less. h (suc i) (omega arith)))

-- the i-th width, as the code cuts it out
pub cut_out : (bytes : List ℕ) (width i : ℕ) → take (width * i + width - width * i) (drop (width * i) bytes) ≡ take width (drop (width * i) bytes)
cut_out bytes width i = let one : width * i + width - width * i ≡ width = omega arith in rw one refl

pub head_same : (a b : ℕ) (x y : List ℕ) → a ∷ x ≡ b ∷ y → a ≡ b
head_same a b x y e = cc

pub tail_same : (a b : ℕ) (x y : List ℕ) → a ∷ x ≡ b ∷ y → x ≡ y
tail_same a b x y e = cc

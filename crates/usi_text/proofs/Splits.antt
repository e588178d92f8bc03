-- Words split at the first word moves.
use Rattle.std.proofs.Common.{◌≡◌, ◌≢◌, ℕ, ◌<◌, ◌-◌, ◌==◌, Bool, true, false, cond, List, [], ◌∷◌, ◌++◌, length, length-append, take, arith, refl, sym, ap, ◌∙◌, append_assoc, codes}
use Rattle.std.specs.List.{AllByRecursion, filter, slice_split, onto_first}
use Rattle.std.proofs.lemmas.List.{append-nil, append_cancel_right, take_at}
use Rattle.usi_text.specs.Words.{EndsWord, IsAfter, words, has_bytes}
use Rattle.usi_text.specs.Scanning.{Split}

abbrev split : List ℕ → List (List ℕ)
split text = slice_split (λ b. b == 32) text

onto-append : (x : ℕ) (xs ys : List (List ℕ)) → 0 < length xs → onto_first x (xs ++ ys) ≡ onto_first x xs ++ ys
onto-append x [] ys h = absurd (omega arith)
onto-append x (w ∷ ws) ys h = refl

split_stated : (b : Bool) (x : ℕ) (parts : List (List ℕ)) → 0 < length (cond b ([] ∷ parts) (onto_first x parts))
split_stated true x parts = omega arith
split_stated false x [] = omega arith
split_stated false x (p ∷ ps) = omega arith

split_some : (text : List ℕ) → 0 < length (split text)
split_some [] = omega arith
split_some (x ∷ xs) = split_stated (x == 32) x (split xs)

joined_stated : (b : Bool) (x : ℕ) (xs ys all : List (List ℕ)) → 0 < length xs → all ≡ xs ++ ys → cond b ([] ∷ all) (onto_first x all) ≡ cond b ([] ∷ xs) (onto_first x xs) ++ ys
joined_stated true x xs ys all h e = ap (λ z. [] ∷ z) e
joined_stated false x xs ys all h e = ap (onto_first x) e ∙ onto-append x xs ys h

-- a text is split at a space into what its two sides are split into
split_joined : (front following : List ℕ) → split (front ++ 32 ∷ following) ≡ split front ++ split following
split_joined [] following = refl
split_joined (x ∷ xs) following = joined_stated (x == 32) x (split xs) (split following) (split (xs ++ 32 ∷ following)) (split_some xs) (split_joined xs following)

filter_stated : (b : Bool) (w : List ℕ) (xs ys all : List (List ℕ)) → all ≡ xs ++ ys → cond b (w ∷ all) all ≡ cond b (w ∷ xs) xs ++ ys
filter_stated true w xs ys all e = ap (λ z. w ∷ z) e
filter_stated false w xs ys all e = e

filter_joined : (xs ys : List (List ℕ)) → filter has_bytes (xs ++ ys) ≡ filter has_bytes xs ++ filter has_bytes ys
filter_joined [] ys = refl
filter_joined (w ∷ xs) ys = filter_stated (has_bytes w) w (filter has_bytes xs) (filter has_bytes ys) (filter has_bytes (xs ++ ys)) (filter_joined xs ys)

-- words end if a text is cut at a word's end
pub words_joined : (front following : List ℕ) → EndsWord following → words (front ++ following) ≡ words front ++ words following
words_joined front [] h = ap words (append-nil front) ∙ sym (append-nil (words front))
words_joined front (b ∷ bs) h =
    let e : front ++ b ∷ bs ≡ front ++ 32 ∷ bs = ap (λ x. front ++ x ∷ bs) h in
    let w : words (b ∷ bs) ≡ words bs = ap (λ x. words (x ∷ bs)) h in
    ap words e ∙ (ap (filter has_bytes) (split_joined front bs) ∙ (filter_joined (split front) (split bs) ∙ ap (λ z. words front ++ z) (sym w)))

abbrev NotMoves : List ℕ → Type 0
NotMoves w = w ≢ codes "moves"

all_more : (ws : List (List ℕ)) (w : List ℕ) → AllByRecursion NotMoves ws → NotMoves w → AllByRecursion NotMoves (ws ++ w ∷ [])
all_more [] w h k = (k, tt)
all_more (v ∷ vs) w h k = (h.0, all_more vs w h.1 k)

-- the text is read up to a rest, and no word before it is moves
pub record Reading (text rest : List ℕ) : Type 0 where
  pub front : List ℕ
  pub whole : text ≡ front ++ rest
  pub stated : words text ≡ words front ++ words rest
  pub before : AllByRecursion NotMoves (words front)

pub reading_start : (text : List ℕ) → Reading text text
reading_start text = record { front = []; whole = refl; stated = refl; before = tt }

pub reading_more : (text rest following : List ℕ) (w : List ℕ) → Reading text rest → IsAfter rest following → words rest ≡ w ∷ words following → NotMoves w → Reading text following
reading_more text rest following w r cut e other =
    let front = r.front ++ cut.0 in
    let whole : text ≡ front ++ following = r.whole ∙ (ap (λ z. r.front ++ z) cut.1 ∙ sym (append_assoc r.front cut.0 following)) in
    let stated : words text ≡ words front ++ words following = ap words whole ∙ words_joined front following cut.2 in
    let same : words front ++ words following ≡ (words r.front ++ w ∷ []) ++ words following = sym stated ∙ (r.stated ∙ (ap (λ z. words r.front ++ z) e ∙ sym (append_assoc (words r.front) (w ∷ []) (words following)))) in
    let front_is : words front ≡ words r.front ++ w ∷ [] = append_cancel_right (words front) (words r.front ++ w ∷ []) (words following) same in
    record { front = front; whole = whole; stated = stated; before = rw front_is (all_more (words r.front) w r.before other) }

pub front_taken : (text rest : List ℕ) → (r : Reading text rest) → take (length text - length rest) text ≡ r.front
front_taken text rest r =
    let l = ap length r.whole in
    let n : length r.front ≡ length text - length rest = omega (arith, l, length-append r.front rest) in
    ap (take (length text - length rest)) r.whole ∙ take_at r.front rest (length text - length rest) n

pub split_here : (text rest following front w : List ℕ) → (r : Reading text rest) → words rest ≡ w ∷ words following → w ≡ codes "moves" → front ≡ take (length text - length rest) text → Split (words text) (words front) (words following)
split_here text rest following front w r e m f =
    let same : front ≡ r.front = f ∙ front_taken text rest r in
    (w ∷ words following, r.stated ∙ (ap (λ z. words r.front ++ z) e ∙ ap (λ z. words z ++ w ∷ words following) (sym same)), rw same r.before, (m, refl))

pub split_nowhere : (text rest : List ℕ) → Reading text rest → words rest ≡ [] → Split (words text) (words text) (words rest)
split_nowhere text rest r none =
    let e : words text ≡ words r.front = r.stated ∙ (ap (λ z. words r.front ++ z) none ∙ append-nil (words r.front)) in
    ([], sym (append-nil (words text)), rw e r.before, none)

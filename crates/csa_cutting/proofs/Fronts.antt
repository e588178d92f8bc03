-- The gap and the unit at the front of a text.
use Rattle.std.proofs.Common.{◌≡◌, ℕ, suc, ◌+◌, ◌-◌, ◌==◌, slice_range, length-drop, ◌<◌, ◌≤◌, Bool, true, false, not, List, [], ◌∷◌, ◌++◌, length, take, drop, get_or, arith, refl, sym, ap, ◌∙◌, subst, inl, inr}
use Rattle.std.proofs.lemmas.Bool.{cases_lt}
use Rattle.std.proofs.lemmas.List.{get_or-take, get_or-drop, length-take-le, take-append-drop, drop-drop}
use Rattle.std.proofs.lemmas.List.Elements.{recursion_from_All, All-from_get_or}
use Rattle.std.proofs.lemmas.List.Sums.{prefix_len_passes, prefix_len_stops, prefix_len-le-length}
use Rattle.std.proofs.lemmas.List.Folds.{length-prefix_len, drop_split}
use Rattle.std.proofs.Math.Seq.{drop-cons, drop-length, take-length}
use Rattle.std.specs.List.{AllByRecursion, prefix_len, position_or_len}
use Rattle.csa_cutting.specs.Cut.{IsNext, IsGap, IsUnit, EndsBefore, is_separator, is_end, begins_with}

-- what passes a test at the front
pub passes : (p : ℕ → Bool) (xs : List ℕ) → AllByRecursion (λ b. p b ≡ true) (take (prefix_len p xs) xs)
passes p xs =
    recursion_from_All (λ b. p b ≡ true) (take (prefix_len p xs) xs)
    (All-from_get_or (λ b. p b ≡ true) (take (prefix_len p xs) xs) 0
    (λ i h. let lt : i < prefix_len p xs = omega (arith, length-prefix_len p xs) in rw get_or-take (prefix_len_passes p xs i 0 lt)))

-- a fact for another fact of each element
pub weaker : (P Q : ℕ → Type 0) → ((b : ℕ) → P b → Q b) → (xs : List ℕ) → AllByRecursion P xs → AllByRecursion Q xs
weaker P Q f [] h = tt
weaker P Q f (x ∷ xs) h = (f x h.0, weaker P Q f xs h.1)

pub turned_true : (b : Bool) → not b ≡ true → b ≡ false
turned_true true h = cc
turned_true false h = refl

pub turned_false : (b : Bool) → not b ≡ false → b ≡ true
turned_false true h = refl
turned_false false h = cc

pub gap_front : (text : List ℕ) → IsGap (take (prefix_len is_separator text) text)
gap_front text = passes is_separator text

ends_at : (first : ℕ) (xs : List ℕ) (b : ℕ) (bs : List ℕ) → xs ≡ b ∷ bs → is_end first b ≡ true → EndsBefore first xs
ends_at first xs b bs e h = rw e h

ends_nowhere : (first : ℕ) (xs : List ℕ) → xs ≡ [] → EndsBefore first xs
ends_nowhere first xs e = rw e tt

pub ends_before : (first : ℕ) (rest : List ℕ) → EndsBefore first (drop (position_or_len (is_end first) rest) rest)
ends_before first rest =
    let n = position_or_len (is_end first) rest in
    let within : n ≤ length rest = prefix_len-le-length (λ b. not (is_end first b)) rest in
    elim (cases_lt n (length rest)) [
      | inl h ↦ ends_at first _ (get_or rest n 0) _ (drop-cons rest n 0 h) (turned_false _ (prefix_len_stops (λ b. not (is_end first b)) rest 0 h))
      | inr h ↦ let all : n ≡ length rest = omega arith in ends_nowhere first _ (rw all (drop-length rest))
    ]

pub unit_front : (first : ℕ) (rest : List ℕ) → is_separator first ≡ false → IsUnit (first ∷ take (position_or_len (is_end first) rest) rest) (drop (position_or_len (is_end first) rest) rest)
unit_front first rest h =
    (h, weaker (λ b. not (is_end first b) ≡ true) (λ b. is_end first b ≡ false) (λ b. turned_true (is_end first b)) _ (passes (λ b. not (is_end first b)) rest), ends_before first rest)

-- the next unit of a source comes after its gap
pub next_place : (offset : ℕ) (source : List ℕ) (from g m : ℕ) → g ≡ prefix_len is_separator (drop from source) → from + g < length source → m ≡ position_or_len (is_end (get_or source (from + g) 0)) (drop (from + g + 1) source) → IsNext offset (drop from source) (record { offset = offset + g; bytes = slice_range source (from + g) (from + g + 1 + m) }) (drop (from + g + 1 + m) source)
next_place offset source from g m is_gap some is_unit =
    let start = from + g in
    let first = get_or source start 0 in
    let rest = drop (start + 1) source in
    let shorter : g < length (drop from source) = omega (arith, length-drop from source) in
    let begins : is_separator first ≡ false =
    rw (← get_or-drop from source g 0, is_gap) (prefix_len_stops is_separator (drop from source) 0 (rw (← is_gap) shorter)) in
    let more : suc start ≡ start + 1 = omega arith in
    let opened : drop start source ≡ first ∷ rest = drop-cons source start 0 some ∙ ap (λ k. first ∷ drop k source) more in
    let count : start + 1 + m - start ≡ suc m = omega arith in
    let bytes : slice_range source start (start + 1 + m) ≡ first ∷ take m rest =
    ap (λ k. take k (drop start source)) count ∙ ap (take (suc m)) opened in
    let following : drop (start + 1 + m) source ≡ drop m rest = sym (drop-drop m (start + 1) source) in
    let front : IsUnit (first ∷ take m rest) (drop m rest) = rw is_unit (unit_front first rest begins) in
    record {
      gap = take g (drop from source);
      whole = sym (take-append-drop g (drop from source)) ∙ ap (λ xs. take g (drop from source) ++ xs) (drop-drop g from source ∙ drop_split source start (start + 1 + m) (omega arith));
      separators = rw is_gap (gap_front (drop from source));
      place = omega (arith, length-take-le g (drop from source));
      unit = rw (bytes, following) front;
    }

-- what `&s[n..]` is
pub rest_of : (xs : List ℕ) (n : ℕ) → take (length xs - n) (drop n xs) ≡ drop n xs
rest_of xs n = ap (λ k. take k (drop n xs)) (sym (length-drop n xs)) ∙ take-length (drop n xs)

pub length_between : (source : List ℕ) (start end : ℕ) → start ≤ end → end ≤ length source → start + length (slice_range source start end) ≡ end
length_between source start end order within =
    let few : end - start ≤ length (drop start source) = omega (arith, length-drop start source) in
    omega (arith, length-take-le (end - start) (drop start source) few)

-- the first byte of a unit
pub first_between : (source : List ℕ) (start end : ℕ) (c : ℕ) → start < end → end ≤ length source → begins_with c (slice_range source start end) ≡ (get_or source start 0 == c)
first_between source start end c order within =
    let opened : drop start source ≡ get_or source start 0 ∷ drop (suc start) source = drop-cons source start 0 (omega arith) in
    let count : end - start ≡ suc (end - start - 1) = omega arith in
    ap (λ k. begins_with c (take k (drop start source))) count ∙ ap (λ xs. begins_with c (take (suc (end - start - 1)) xs)) opened

-- if the separators extend to the end, only separators are left
pub gap_only : (source : List ℕ) (from g : ℕ) → from ≤ length source → g ≡ prefix_len is_separator (drop from source) → from + g ≡ length source → IsGap (drop from source)
gap_only source from g order is_gap all =
    let whole : prefix_len is_separator (drop from source) ≡ length (drop from source) = omega (arith, length-drop from source, is_gap) in
    subst IsGap (ap (λ n. take n (drop from source)) whole ∙ take-length (drop from source)) (gap_front (drop from source))

-- Which '#' begins a line.
use Rattle.std.proofs.Common.{◌≡◌, ℕ, zero, suc, ◌+◌, ◌-◌, ◌<◌, List, [], ◌∷◌, ◌++◌, Bool, true, false, inl, inr, ◌⊎◌, refl, sym, ap, ◌∙◌, arith, length, take, subst}
use Rattle.std.specs.Prelude.{slice_index}
use Rattle.std.proofs.lemmas.List.{take_more}
use Rattle.std.proofs.lemmas.Grind.{common_steps}
use Rattle.hash_comments.specs.declared.place.Place.{Place}
use Rattle.hash_comments.specs.declared.place.Place.TheVariants.{Front, AfterOneOfMark, AfterTwoOfMark, LineStart, Within}
use Rattle.hash_comments.specs.Hashes.{hashes_read, place_after, byte_read}
use Rattle.hash_comments.specs.PieceSteps.{place_after_bytes}
use Rattle.hash_comments.specs.Places.{BeginsLine, EndsLine, IsReadAs}

pub length-hashes : (here : Place) (xs : List ℕ) → length (hashes_read here xs) ≡ length xs
length-hashes here [] = refl
length-hashes here (x ∷ xs) = omega (arith, length-hashes (place_after here x) xs)

-- the byte at k, as it is read after the bytes before it
pub read_at : (here : Place) (xs : List ℕ) (k : ℕ) → k < length xs → slice_index (hashes_read here xs) k ≡ byte_read (place_after_bytes here (take k xs)) (slice_index xs k)
read_at here [] k h = omega (arith, h)
read_at here (x ∷ xs) zero h = refl
read_at here (x ∷ xs) (suc k) h = read_at (place_after here x) xs k (omega (arith, h))

after_more : (here : Place) (xs : List ℕ) (b : ℕ) → place_after_bytes here (xs ++ b ∷ []) ≡ place_after (place_after_bytes here xs) b
after_more here [] b = refl
after_more here (x ∷ xs) b = after_more (place_after here x) xs b

abbrev begins : Place → Bool
begins Front = true
begins AfterOneOfMark = false
begins AfterTwoOfMark = false
begins LineStart = true
begins Within = false

read_yes : (here : Place) (b : ℕ) → b ≡ 35 → begins here ≡ true → byte_read here b ≡ 39
read_yes Front b e h = rw e refl
read_yes AfterOneOfMark b e h = absurd cc
read_yes AfterTwoOfMark b e h = absurd cc
read_yes LineStart b e h = rw e refl
read_yes Within b e h = absurd cc

read_not_hash : (here : Place) (b : ℕ) → (b ≡ 35 → ⊥) → byte_read here b ≡ b
read_not_hash Front b h = grind (arith, common_steps)
read_not_hash AfterOneOfMark b h = refl
read_not_hash AfterTwoOfMark b h = refl
read_not_hash LineStart b h = grind (arith, common_steps)
read_not_hash Within b h = refl

read_within : (here : Place) (b : ℕ) → begins here ≡ false → byte_read here b ≡ b
read_within Front b h = absurd cc
read_within AfterOneOfMark b h = refl
read_within AfterTwoOfMark b h = refl
read_within LineStart b h = absurd cc
read_within Within b h = refl

after_end : (here : Place) (b : ℕ) → EndsLine b → place_after here b ≡ LineStart
after_end here b (inl e) = rw e refl
after_end here b (inr e) = rw e refl

-- which byte leads to a place
to_line : (here : Place) (b : ℕ) → begins (place_after here b) ≡ true → EndsLine b ⊎ ((here ≡ AfterTwoOfMark) × (b ≡ 0xBF))
to_line Front b h = grind (arith, common_steps)
to_line AfterOneOfMark b h = grind (arith, common_steps)
to_line AfterTwoOfMark b h = grind (arith, common_steps)
to_line LineStart b h = grind (arith, common_steps)
to_line Within b h = grind (arith, common_steps)

to_two : (here : Place) (b : ℕ) → place_after here b ≡ AfterTwoOfMark → (here ≡ AfterOneOfMark) × (b ≡ 0xBB)
to_two Front b h = grind (arith, common_steps)
to_two AfterOneOfMark b h = grind (arith, common_steps)
to_two AfterTwoOfMark b h = grind (arith, common_steps)
to_two LineStart b h = grind (arith, common_steps)
to_two Within b h = grind (arith, common_steps)

to_one : (here : Place) (b : ℕ) → place_after here b ≡ AfterOneOfMark → (here ≡ Front) × (b ≡ 0xEF)
to_one Front b h = grind (arith, common_steps)
to_one AfterOneOfMark b h = grind (arith, common_steps)
to_one AfterTwoOfMark b h = grind (arith, common_steps)
to_one LineStart b h = grind (arith, common_steps)
to_one Within b h = grind (arith, common_steps)

never_front : (here : Place) (b : ℕ) → place_after here b ≡ Front → ⊥
never_front Front b h = grind (arith, common_steps)
never_front AfterOneOfMark b h = grind (arith, common_steps)
never_front AfterTwoOfMark b h = grind (arith, common_steps)
never_front LineStart b h = grind (arith, common_steps)
never_front Within b h = grind (arith, common_steps)

more_at : (xs : List ℕ) (j : ℕ) → j < length xs → take (suc j) xs ≡ take j xs ++ slice_index xs j ∷ []
more_at xs j h = let e : suc j ≡ j + 1 = omega arith in ap (λ k. take k xs) e ∙ take_more xs j 0 h

step_at : (xs : List ℕ) (j : ℕ) → j < length xs → place_after_bytes Front (take (suc j) xs) ≡ place_after (place_after_bytes Front (take j xs)) (slice_index xs j)
step_at xs j h = ap (place_after_bytes Front) (more_at xs j h) ∙ after_more Front (take j xs) (slice_index xs j)

front_at : (xs : List ℕ) (k : ℕ) → k < length xs → place_after_bytes Front (take k xs) ≡ Front → take k xs ≡ []
front_at xs zero h e = refl
front_at xs (suc j) h e = absurd (never_front (place_after_bytes Front (take j xs)) (slice_index xs j) (sym (step_at xs j (omega (arith, h))) ∙ e))

one_at : (xs : List ℕ) (k : ℕ) → k < length xs → place_after_bytes Front (take k xs) ≡ AfterOneOfMark → take k xs ≡ 0xEF ∷ []
one_at xs zero h e = absurd cc
one_at xs (suc j) h e =
    let within : j < length xs = omega (arith, h) in
    let was = to_one (place_after_bytes Front (take j xs)) (slice_index xs j) (sym (step_at xs j within) ∙ e) in
    more_at xs j within ∙ rw (front_at xs j within was.0, was.1) refl

two_at : (xs : List ℕ) (k : ℕ) → k < length xs → place_after_bytes Front (take k xs) ≡ AfterTwoOfMark → take k xs ≡ 0xEF ∷ 0xBB ∷ []
two_at xs zero h e = absurd cc
two_at xs (suc j) h e =
    let within : j < length xs = omega (arith, h) in
    let was = to_two (place_after_bytes Front (take j xs)) (slice_index xs j) (sym (step_at xs j within) ∙ e) in
    more_at xs j within ∙ rw (one_at xs j within was.0, was.1) refl

begins_line : (xs : List ℕ) (k : ℕ) → k < length xs → begins (place_after_bytes Front (take k xs)) ≡ true → BeginsLine xs k
begins_line xs zero h e = inl refl
begins_line xs (suc j) h e =
    let within : j < length xs = omega (arith, h) in
    let back : j ≡ suc j - 1 = omega arith in
    elim (to_line (place_after_bytes Front (take j xs)) (slice_index xs j) (ap begins (sym (step_at xs j within)) ∙ e)) [
      | inl ends ↦ inr (inr (omega arith, subst (λ i. EndsLine (slice_index xs i)) back ends))
      | inr p ↦ inr (inl (more_at xs j within ∙ rw (two_at xs j within p.0, p.1) refl))
    ]

line_begins : (xs : List ℕ) (k : ℕ) → k < length xs → BeginsLine xs k → begins (place_after_bytes Front (take k xs)) ≡ true
line_begins xs k h (inl e) = rw e refl
line_begins xs k h (inr (inl e)) = rw e refl
line_begins xs zero h (inr (inr p)) = refl
line_begins xs (suc j) h (inr (inr p)) =
    let within : j < length xs = omega (arith, h) in
    let back : suc j - 1 ≡ j = omega arith in
    ap begins (step_at xs j within ∙ after_end (place_after_bytes Front (take j xs)) (slice_index xs j) (subst (λ i. EndsLine (slice_index xs i)) back p.1))

not_true : (b : Bool) → (b ≡ true → ⊥) → b ≡ false
not_true true h = absurd (h refl)
not_true false h = refl

pub read_as : (xs : List ℕ) (k : ℕ) → k < length xs → IsReadAs xs k (slice_index (hashes_read Front xs) k)
read_as xs k h = record {
  hash = λ is line. read_at Front xs k h ∙ read_yes _ _ is (line_begins xs k h line);
  other = λ o. read_at Front xs k h ∙ elim o [
    | inl differs ↦ read_not_hash _ _ differs
    | inr inside ↦ read_within _ _ (not_true _ (λ e. inside (begins_line xs k h e)))
  ];
}

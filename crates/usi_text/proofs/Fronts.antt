-- The first word of a text, and the words after it.
use Rattle.std.proofs.Common.{◌≡◌, ◌≢◌, ℕ, zero, suc, ◌<◌, ◌≤◌, ◌==◌, cond, List, [], ◌∷◌, ◌++◌, Bool, append_assoc, length, get_or, take, drop, arith, refl, sym, ap, subst, ◌∙◌, inl, inr, true, false}
use Rattle.std.specs.List.{filter, slice_split, onto_first}
use Rattle.std.proofs.lemmas.List.{take-append-drop}
use Rattle.std.proofs.lemmas.Bool.Decides.{eqb_tells, Decides-eqb}
use Rattle.usi_text.specs.Words.{EndsWord, IsAfter, words, has_bytes}

abbrev split : List ℕ → List (List ℕ)
split text = slice_split (λ b. b == 32) text

-- a run up to a space or the end, and what else the text is split into
pub record Front (text : List ℕ) (n : ℕ) : Type 0 where
  pub others : List (List ℕ)
  pub whole : split text ≡ take n text ∷ others
  pub following : filter has_bytes others ≡ words (drop n text)

space_first : (x : ℕ) (xs : List ℕ) → x ≡ 32 → split (x ∷ xs) ≡ [] ∷ split xs
space_first x xs h = rw h refl

other_first : (x : ℕ) (xs : List ℕ) → x ≢ 32 → split (x ∷ xs) ≡ onto_first x (split xs)
other_first x xs h =
    elim (eqb_tells x 32) [
      | inl same ↦ absurd (h same.1)
      | inr other ↦ ap (λ b. cond b ([] ∷ split xs) (onto_first x (split xs))) other.0
    ]

pub front : (text : List ℕ) (n : ℕ) → n ≤ length text → ((k : ℕ) → k < n → get_or text k 0 ≡ 32 → ⊥) → (n < length text → get_or text n 0 ≡ 32) → Front text n
front [] zero within run ends = record { others = []; whole = refl; following = refl }
front [] (suc n) within run ends = absurd (omega arith)
front (x ∷ xs) zero within run ends =
    let space : x ≡ 32 = ends (omega arith) in
    let s = space_first x xs space in
    record { others = split xs; whole = s; following = sym (ap (filter has_bytes) s) }
front (x ∷ xs) (suc n) within run ends =
    let rest = front xs n (omega arith) (λ k low. run (suc k) (omega arith)) (λ low. ends (omega arith)) in
    record {
      others = rest.others;
      whole = other_first x xs (run 0 (omega arith)) ∙ ap (onto_first x) rest.whole;
      following = rest.following;
    }

pub no_words : words [] ≡ []
no_words = refl

taken : (run : List ℕ) (others : List (List ℕ)) → 0 < length run → filter has_bytes (run ∷ others) ≡ run ∷ filter has_bytes others
taken [] others some = absurd (omega arith)
taken (b ∷ bs) others some = refl

pub first_word : (text : List ℕ) (n : ℕ) → 0 < length (take n text) → Front text n → words text ≡ take n text ∷ words (drop n text)
first_word text n some f =
    ap (filter has_bytes) f.whole ∙ taken (take n text) f.others some ∙ ap (λ ws. take n text ∷ ws) f.following

some_taken : (x : ℕ) (xs : List ℕ) (n : ℕ) → 0 < n → 0 < length (take n (x ∷ xs))
some_taken x xs zero h = absurd (omega arith)
some_taken x xs (suc n) h = omega arith

no_bytes : (xs : List ℕ) → length xs ≡ 0 → xs ≡ []
no_bytes [] h = refl
no_bytes (x ∷ xs) h = absurd (omega arith)

first_of : (all text : List ℕ) (n : ℕ) → words text ≡ words all → 0 < length text → (0 < length text → get_or text 0 0 ≡ 32 → ⊥) → n ≤ length text → ((k : ℕ) → k < n → get_or text k 0 ≡ 32 → ⊥) → (n < length text → get_or text n 0 ≡ 32) → words all ≡ take n text ∷ words (drop n text)
first_of all [] n same some first within run ends = absurd (omega arith)
first_of all (x ∷ xs) zero same some first within run ends = absurd (first (omega arith) (ends (omega arith)))
first_of all (x ∷ xs) (suc n) same some first within run ends =
    sym same ∙ first_word (x ∷ xs) (suc n) (some_taken x xs (suc n) (omega arith)) (front (x ∷ xs) (suc n) within run ends)

end_here : (rest : List ℕ) → (0 < length rest → get_or rest 0 0 ≡ 32) → EndsWord rest
end_here [] h = tt
end_here (b ∷ bs) h = h (omega arith)

end_there : (rest : List ℕ) (n : ℕ) → (n < length rest → get_or rest n 0 ≡ 32) → EndsWord (drop n rest)
end_there rest zero h = end_here rest h
end_there [] (suc n) h = tt
end_there (b ∷ bs) (suc n) h = end_there bs n (λ low. h (omega arith))

pub after_word : (text rest front : List ℕ) (n : ℕ) → text ≡ front ++ rest → (n < length rest → get_or rest n 0 ≡ 32) → IsAfter text (drop n rest)
after_word text rest front n e ends =
    (front ++ take n rest, e ∙ (ap (λ r. front ++ r) (sym (take-append-drop n rest)) ∙ sym (append_assoc front (take n rest) (drop n rest))), end_there rest n ends)

pub words_after : (text : List ℕ) (n : ℕ) → n ≤ length text → ((k : ℕ) → k < n → get_or text k 0 ≡ 32) → words (drop n text) ≡ words text
words_after text zero within spaces = refl
words_after [] (suc n) within spaces = refl
words_after (x ∷ xs) (suc n) within spaces =
    words_after xs n (omega arith) (λ k h. spaces (suc k) (omega arith)) ∙ sym (ap (filter has_bytes) (space_first x xs (spaces 0 (omega arith))))

pub after_spaces : (text : List ℕ) (n : ℕ) → (n < length text → get_or text n 0 ≡ 32 → ⊥) → 0 < length (drop n text) → get_or (drop n text) 0 0 ≡ 32 → ⊥
after_spaces text zero other some = other some
after_spaces [] (suc n) other some = λ e. absurd (omega arith)
after_spaces (x ∷ xs) (suc n) other some = after_spaces xs n (λ h. other (omega arith)) some

is_space : (b : ℕ) → (b == 32) ≡ true → b ≡ 32
is_space b h = (Decides-eqb b 32).0 h

no_space : (b : ℕ) → (b == 32) ≡ false → b ≡ 32 → ⊥
no_space b h e = let t = (Decides-eqb b 32).1 e in cc

space_or : (b : ℕ) → ((b == 32) ≡ false → ⊥) → b ≡ 32
space_or b h =
    elim (eqb_tells b 32) [
      | inl same ↦ same.1
      | inr other ↦ absurd (h other.0)
    ]

-- so many spaces at the front of a text, and what follows them
pub record Spaces (all text : List ℕ) (n : ℕ) : Type 0 where
  pub cut : text ≡ drop n all
  pub within : n ≤ length all
  pub run : (k : ℕ) → k < n → (get_or all k 0 == 32) ≡ true
  pub ends : n < length all → (get_or all n 0 == 32) ≡ true → ⊥

-- so many bytes up to the next space or the end
pub record Letters (text : List ℕ) (n : ℕ) : Type 0 where
  pub within : n ≤ length text
  pub run : (k : ℕ) → k < n → (get_or text k 0 == 32) ≡ false
  pub ends : n < length text → (get_or text n 0 == 32) ≡ false → ⊥

same_words : (all text : List ℕ) (s : ℕ) → Spaces all text s → words text ≡ words all
same_words all text s h = ap words h.cut ∙ words_after all s h.within (λ k low. is_space _ (h.run k low))

pub no_word : (all text : List ℕ) (s : ℕ) → Spaces all text s → length text ≡ 0 → words all ≡ []
no_word all text s h none = sym (same_words all text s h) ∙ ap words (no_bytes text none)

pub one_word : (all text : List ℕ) (s n : ℕ) → Spaces all text s → Letters text n → 0 < length text → words all ≡ take n text ∷ words (drop n text)
one_word all text s n h l some =
    let P : List ℕ → Type 0 = λ t. 0 < length t → get_or t 0 0 ≡ 32 → ⊥ in
    let first : P text = subst P (sym h.cut) (after_spaces all s (λ low e. h.ends low ((Decides-eqb _ 32).1 e))) in
    first_of all text n (same_words all text s h) some first l.within (λ k low. no_space _ (l.run k low)) (λ low. space_or _ (l.ends low))

pub rest_following : (all text : List ℕ) (s n : ℕ) → Spaces all text s → Letters text n → IsAfter all (drop n text)
rest_following all text s n h l =
    let whole : all ≡ take s all ++ text = sym (take-append-drop s all) ∙ ap (λ t. take s all ++ t) (sym h.cut) in
    after_word all text (take s all) n whole (λ low. space_or _ (l.ends low))

pub none_left : (n : ℕ) (b : Bool) → b ≡ (n == 0) → b ≡ true → n ≡ 0
none_left n b e t = (Decides-eqb n 0).0 (sym e ∙ t)

pub some_left : (n : ℕ) (b : Bool) → b ≡ (n == 0) → b ≡ false → 0 < n
some_left zero b e t = let f : true ≡ b = sym e in cc
some_left (suc n) b e t = omega arith

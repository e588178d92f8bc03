-- Lines one after another.
use Rattle.std.proofs.Common.{◌≡◌, ℕ, ◌++◌, List, [], ◌∷◌, Result, Ok, Err, IfOk, OnOk, refl, sym, ap, ◌∙◌, append_assoc}
use Rattle.std.proofs.lemmas.List.{append-nil}
use Rattle.session_lines.specs.Texts.{text_of, ended_line}

pub on_ok : {E : Type 0} (r : Result (Unit {0}) E) (new a b : List ℕ) → OnOk r (new ≡ a) → a ≡ b → OnOk r (new ≡ b)
on_ok (Ok u) new a b h e = h ∙ e
on_ok (Err x) new a b h e = tt

pub if_ok : {X E : Type 0} (r : Result X E) (P Q : X → Type 0) → IfOk r P → ((x : X) → P x → Q x) → IfOk r Q
if_ok (Ok x) P Q h f = f x h
if_ok (Err e) P Q h f = tt

pub text_append : (xs ys : List (List ℕ)) → text_of (xs ++ ys) ≡ text_of xs ++ text_of ys
text_append [] ys = refl
text_append (x ∷ xs) ys = ap (λ t. ended_line x ++ t) (text_append xs ys) ∙ sym (append_assoc (ended_line x) (text_of xs) (text_of ys))

pub two_lines : (old a b : List ℕ) → (old ++ ended_line a) ++ ended_line b ≡ old ++ text_of (a ∷ b ∷ [])
two_lines old a b =
    append_assoc old (ended_line a) (ended_line b) ∙ ap (λ t. old ++ (ended_line a ++ t)) (sym (append-nil (ended_line b)))

pub three_lines : (old a b c : List ℕ) → ((old ++ ended_line a) ++ ended_line b) ++ ended_line c ≡ old ++ text_of (a ∷ b ∷ c ∷ [])
three_lines old a b c =
    two_lines (old ++ ended_line a) b c ∙ append_assoc old (ended_line a) (text_of (b ∷ c ∷ []))

pub two_texts : (old : List ℕ) (a b : List (List ℕ)) → (old ++ text_of a) ++ text_of b ≡ old ++ text_of (a ++ b)
two_texts old a b = append_assoc old (text_of a) (text_of b) ∙ ap (λ t. old ++ t) (sym (text_append a b))

pub four_texts : (old : List ℕ) (a b c d : List (List ℕ))
    → (((old ++ text_of a) ++ text_of b) ++ text_of c) ++ text_of d ≡ old ++ text_of (a ++ (b ++ (c ++ d)))
four_texts old a b c d =
    two_texts ((old ++ text_of a) ++ text_of b) c d ∙ two_texts (old ++ text_of a) b (c ++ d) ∙ two_texts old a (b ++ (c ++ d))

pub five_lines : (old a b c d e : List ℕ)
    → ((old ++ text_of (a ∷ b ∷ [])) ++ text_of (c ∷ d ∷ [])) ++ ended_line e ≡ old ++ text_of (a ∷ b ∷ c ∷ d ∷ e ∷ [])
five_lines old a b c d e =
    let front = old ++ text_of (a ∷ b ∷ []) in
    ap (λ t. (front ++ text_of (c ∷ d ∷ [])) ++ t) (sym (append-nil (ended_line e)))
    ∙ (two_texts front (c ∷ d ∷ []) (e ∷ []) ∙ two_texts old (a ∷ b ∷ []) (c ∷ d ∷ e ∷ []))

-- The first of the places that a library search yields, or the length if it yields none, is how
-- many bytes come before the first that passes.
use Rattle.std.proofs.Common.{◌≡◌, ℕ, ◌+◌, ◌<◌, ◌≤◌, ◌∷◌, [], Bool, true, false, List, length, Option, Some, None, sym, ◌∙◌, arith, inl, inr}
use Rattle.std.proofs.lemmas.Bool.{cases_lt}
use Rattle.std.proofs.lemmas.List.Sums.{fails_before_first, passes_at_first, prefix_len-le-length}
use Rattle.std.specs.Prelude.{not}
use Rattle.std.specs.List.{position_or_len, slice_index}
use Rattle.std.specs.Option.{unwrap_or}
use Rattle.memchr.specs.Find.{places, places_between, TakesFirst}
use Rattle.memchr.proofs.lemmas.PlaceLemmas.{places_between-first, places_between-none}

not_both : (b : Bool) → b ≡ false → b ≡ true → ⊥
not_both b f t = cc

none_before : (passes : ℕ → Bool) (text : List ℕ) (k : ℕ) → k < position_or_len passes text → passes (slice_index text k) ≡ true → ⊥
none_before passes text k h = not_both (passes (slice_index text k)) (fails_before_first passes text k 0 h)

places_first : (passes : ℕ → Bool) (text : List ℕ) → position_or_len passes text < length text
    → places passes text ≡ position_or_len passes text ∷ places_between passes text (position_or_len passes text + 1) (length text)
places_first passes text h =
    places_between-first passes text 0 (length text) (position_or_len passes text)
    (record { low = omega arith; high = h; before = λ k low less. none_before passes text k less })
    (passes_at_first passes text 0 h)

places_none : (passes : ℕ → Bool) (text : List ℕ) → length text ≤ position_or_len passes text → places passes text ≡ []
places_none passes text h = places_between-none passes text 0 (length text) (omega arith) (λ k low less. none_before passes text k (omega (arith, h, less)))

first_is : (passes : ℕ → Bool) (text : List ℕ) (k : ℕ) (rest : List ℕ) → places passes text ≡ k ∷ rest → k ≡ position_or_len passes text
first_is passes text k rest e =
    elim (cases_lt (position_or_len passes text) (length text)) [
      | inl h ↦ let first = places_first passes text h in cc
      | inr h ↦ let none = places_none passes text h in cc
    ]

none_is : (passes : ℕ → Bool) (text : List ℕ) → places passes text ≡ [] → length text ≡ position_or_len passes text
none_is passes text e =
    elim (cases_lt (position_or_len passes text) (length text)) [
      | inl h ↦ let first = places_first passes text h in cc
      | inr h ↦ omega (arith, h, prefix_len-le-length (λ b. not (passes b)) text)
    ]

pub first_or_all : (passes : ℕ → Bool) (text all rest : List ℕ) (first : Option ℕ) → all ≡ places passes text → TakesFirst all first rest
    → unwrap_or first (length text) ≡ position_or_len passes text
first_or_all passes text all rest None whole t = none_is passes text (sym whole ∙ t.0)
first_or_all passes text all rest (Some end) whole t = first_is passes text end rest (sym whole ∙ t)

-- no more than the text has
pub within_text : (passes : ℕ → Bool) (text all rest : List ℕ) (first : Option ℕ) → all ≡ places passes text → TakesFirst all first rest
    → unwrap_or first (length text) ≤ length text
within_text passes text all rest first whole t =
    omega (arith, first_or_all passes text all rest first whole t, prefix_len-le-length (λ b. not (passes b)) text)

-- What reading pairs of four bytes finds.
use Rattle.std.proofs.Common.{◌≡◌, ◌≢◌, ℕ, ◌+◌, ◌*◌, ◌/◌, ◌%◌, ◌<◌, ◌≤◌, arith, List, [], ◌∷◌, ◌++◌, length, take, drop, get_or, Option, Some, None, MatchOption, sym, ap, ◌∙◌}
use Rattle.std.proofs.lemmas.List.{length_push}
use Rattle.std.specs.List.{slice_get}
use Rattle.std.proofs.lemmas.Option.{slice_get-get_or, slice_get_past}
use Rattle.csa_text.specs.declared.pair.Pair.{Pair}
use Rattle.csa_text.specs.declared.pair.Pair.TheVariants.{Rest}
use Rattle.csa_text.specs.PairTexts.{pair_text, pairs_text}
use Rattle.csa_text.specs.PairsOnce.{pair_length, pair_once}
use Rattle.csa_text.proofs.Texts.{texts_length, text_at, texts_more, front_more}

pub pairs_length : (bytes : List ℕ) (ps : List Pair) → bytes ≡ pairs_text ps → length bytes ≡ 4 * length ps
pairs_length bytes ps e = let whole : length bytes ≡ length (pairs_text ps) = ap length e in omega (arith, whole, texts_length pair_text 4 pair_length ps)

pub pair_at : (bytes : List ℕ) (ps : List Pair) (i : ℕ) → bytes ≡ pairs_text ps → i < length ps → take 4 (drop (4 * i) bytes) ≡ pair_text (get_or ps i Rest)
pair_at bytes ps i e less = rw e (text_at pair_text 4 pair_length ps i Rest less)

pub none_past : (bytes : List ℕ) (ps : List Pair) (i : ℕ) → bytes ≡ pairs_text ps → length bytes / 4 ≤ i → slice_get ps i ≡ None
none_past bytes ps i e past = slice_get_past ps i (omega (arith, pairs_length bytes ps e, past))

pub pair_got : (bytes four : List ℕ) (ps : List Pair) (i : ℕ) (o : Option Pair) → bytes ≡ pairs_text ps → i < length bytes / 4 → four ≡ take 4 (drop (4 * i) bytes) → MatchOption o ((pair : Pair) → four ≡ pair_text pair → ⊥) (λ pair. four ≡ pair_text pair) → o ≡ slice_get ps i
pair_got bytes four ps i None e less is h =
    let inside : i < length ps = omega (arith, pairs_length bytes ps e) in
    absurd (h (get_or ps i Rest) (is ∙ pair_at bytes ps i e inside))
pair_got bytes four ps i (Some p) e less is h =
    let inside : i < length ps = omega (arith, pairs_length bytes ps e) in
    let same : p ≡ get_or ps i Rest = pair_once p (get_or ps i Rest) (sym h ∙ is ∙ pair_at bytes ps i e inside) in
    ap Some same ∙ sym (slice_get-get_or ps i Rest inside)

-- the first i pairs were read
abbrev pub Front : List ℕ → ℕ → Type 0
Front bytes i = (ps : List Pair) × (length ps ≡ i) × (take (4 * i) bytes ≡ pairs_text ps)

pub front_next : (bytes four : List ℕ) (i : ℕ) (p : Pair) → Front bytes i → four ≡ take 4 (drop (4 * i) bytes) → four ≡ pair_text p → Front bytes (i + 1)
front_next bytes four i p (ps, count, front) is e = (
  ps ++ p ∷ [],
  omega (arith, count, length_push ps p),
  front_more bytes 4 i ∙ ap (λ bs. bs ++ take 4 (drop (4 * i) bytes)) front ∙ ap (λ bs. pairs_text ps ++ bs) (sym is ∙ e) ∙ sym (texts_more pair_text ps p),
)

pub no_pairs : (bytes four : List ℕ) (i : ℕ) → i < length bytes / 4 → four ≡ take 4 (drop (4 * i) bytes) → ((pair : Pair) → four ≡ pair_text pair → ⊥) → (ps : List Pair) → bytes ≡ pairs_text ps → ⊥
no_pairs bytes four i less is none ps e =
    none (get_or ps i Rest) (is ∙ pair_at bytes ps i e (omega (arith, pairs_length bytes ps e)))

pub no_fourths : (bytes : List ℕ) → length bytes % 4 ≢ 0 → (ps : List Pair) → bytes ≡ pairs_text ps → ⊥
no_fourths bytes odd ps e = odd (omega (arith, pairs_length bytes ps e))

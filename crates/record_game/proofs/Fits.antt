-- What the bytes of a statement spell is within the limits.
use Rattle.std.proofs.Common.{◌≡◌, ◌≢◌, ℕ, ◌+◌, ◌*◌, ◌<◌, ◌≤◌, ◌||◌, ◌⊎◌, true, false, List, [], ◌∷◌, ◌++◌, length, refl, sym, ◌∙◌, ap, arith, inl, inr}
use Rattle.std.specs.List.{AllByRecursion}
use Rattle.std.specs.Str.Parse.{digits_value}
use Rattle.std.proofs.lemmas.Bool.{cases_Bool}
use Rattle.shogi_board.specs.declared.color.Color.{Color}
use Rattle.csa_cutting.specs.Cut.{IsUnit, is_end, begins_with, statement_bytes, without_last_blanks, before_kept, is_blank}
use Rattle.csa_text.specs.Codes.{sign}
use Rattle.csa_text.specs.TimeTexts.{IsTime, IsFraction}
use Rattle.csa_text.specs.Saying.{Saying, version, name, header, even, rank, pieces, turn, walked, time, ending}
use Rattle.csa_text.specs.Spelling.{Spells, IsHeader}
use Rattle.csa_text.proofs.Moments.{below_power}
use Rattle.record_game.specs.Fits.{Fits, IsOfStatement, IsHeaderLine}
use Rattle.record_game.specs.Limits.{IsOneLine}

kept_head : (b : ℕ) (bs : List ℕ) (c : ℕ) (cs : List ℕ) → before_kept b bs ≡ c ∷ cs → b ≡ c
kept_head b [] c cs h =
    elim (cases_Bool (is_blank b)) [
      | inl blank ↦ let none : [] ≡ c ∷ cs = rw blank at h in cc
      | inr solid ↦ let some : b ∷ [] ≡ c ∷ cs = rw solid at h in cc
    ]
kept_head b (d ∷ ds) c cs h = cc

-- a statement from `N` or `$` is its whole unit
line_whole : (first : ℕ) → (first ≡ 78) ⊎ (first ≡ 36) → (bytes rest : List ℕ) → statement_bytes bytes ≡ first ∷ rest → bytes ≡ first ∷ rest
line_whole first is [] rest h = cc
line_whole first is (b ∷ bs) rest h =
    elim (cases_Bool (begins_with 78 (b ∷ bs) || begins_with 36 (b ∷ bs))) [
      | inl whole ↦ rw whole at h
      | inr plain ↦
          let less : without_last_blanks (b ∷ bs) ≡ first ∷ rest = rw plain at h in
          let head : b ≡ first = kept_head b (without_last_blanks bs) first rest less in
          elim is [
            | inl as_name ↦
                let starts : (begins_with 78 (b ∷ bs) || begins_with 36 (b ∷ bs)) ≡ true = rw (head ∙ as_name) refl in
                cc
            | inr as_key ↦
                let starts : (begins_with 78 (b ∷ bs) || begins_with 36 (b ∷ bs)) ≡ true = rw (head ∙ as_key) refl in
                cc
          ]
    ]

no_end : (first b : ℕ) → is_end first b ≡ false → (b ≢ 13) × (b ≢ 10)
no_end first b h = (λ e. let end : is_end first b ≡ true = rw e refl in cc, λ e. let end : is_end first b ≡ true = rw e refl in cc)

one_line : (first : ℕ) (text : List ℕ) → AllByRecursion (λ b. is_end first b ≡ false) text → IsOneLine text
one_line first [] h = tt
one_line first (b ∷ bs) h = (no_end first b h.0, one_line first bs h.1)

parts : (P : ℕ → Type 0) (xs ys : List ℕ) → AllByRecursion P (xs ++ ys) → AllByRecursion P xs × AllByRecursion P ys
parts P [] ys h = (tt, h)
parts P (x ∷ xs) ys h = let rest = parts P xs ys h.1 in ((h.0, rest.0), rest.1)

split_length : (xs ys : List ℕ) (y : ℕ) → length (xs ++ y ∷ ys) ≡ length xs + length ys + 1
split_length [] ys y = omega arith
split_length (x ∷ xs) ys y = omega (arith, split_length xs ys y)

name_fits : (bytes : List ℕ) (color : Color) (text : List ℕ) → IsOfStatement bytes → Spells bytes (name color text) → IsOneLine text × (2 + length text ≤ 4096)
name_fits bytes color text s h =
    let whole : s.unit ≡ 78 ∷ sign color ∷ text = line_whole 78 (inl refl) s.unit (sign color ∷ text) (sym s.whole ∙ h) in
    let unit : IsUnit (78 ∷ sign color ∷ text) s.following = rw whole at s.is_unit in
    let few : length (78 ∷ sign color ∷ text) ≤ 4096 = rw whole at s.short in
    (one_line 78 text unit.1.1, omega (arith, few))

header_fits : (bytes key text : List ℕ) → IsOfStatement bytes → IsHeader bytes key text → IsHeaderLine key text
header_fits bytes key text s h =
    let split : bytes ≡ 36 ∷ (key ++ 58 ∷ text) = h.whole ∙ ap (λ xs. 36 ∷ xs) h.split.0 in
    let whole : s.unit ≡ 36 ∷ (key ++ 58 ∷ text) = line_whole 36 (inr refl) s.unit (key ++ 58 ∷ text) (sym s.whole ∙ split) in
    let unit : IsUnit (36 ∷ (key ++ 58 ∷ text)) s.following = rw whole at s.is_unit in
    let few : length (36 ∷ (key ++ 58 ∷ text)) ≤ 4096 = rw whole at s.short in
    let both = parts (λ b. is_end 36 b ≡ false) key (58 ∷ text) unit.1 in
    let long = split_length key text 58 in
    record {
      some = h.some;
      key_line = one_line 36 key both.0;
      text_line = one_line 36 text both.1.1;
      no_colon = h.split.1;
      fits = omega (arith, few, long);
    }

fraction_small : (digits : List ℕ) (n : ℕ) → IsFraction digits n → n ≤ 999
fraction_small [] n (value, number, is) = let few = number.few in absurd (omega (arith, few))
fraction_small (a ∷ []) n (value, number, is) =
    let low : digits_value 10 (a ∷ []) < 10 = below_power (a ∷ []) 1 number.digits_only (omega arith) in
    let at = number.value_is in
    let now : n ≡ value * 100 = is in
    omega (arith, low, at, now)
fraction_small (a ∷ b ∷ []) n (value, number, is) =
    let low : digits_value 10 (a ∷ b ∷ []) < 100 = below_power (a ∷ b ∷ []) 2 number.digits_only (omega arith) in
    let at = number.value_is in
    let now : n ≡ value * 10 = is in
    omega (arith, low, at, now)
fraction_small (a ∷ b ∷ c ∷ []) n (value, number, is) =
    let low : digits_value 10 (a ∷ b ∷ c ∷ []) < 1000 = below_power (a ∷ b ∷ c ∷ []) 3 number.digits_only (omega arith) in
    let at = number.value_is in
    let now : n ≡ value * 1 = is in
    omega (arith, low, at, now)
fraction_small (a ∷ b ∷ c ∷ d ∷ ds) n (value, number, is) = let many = number.many in absurd (omega (arith, many))

pub time_fits : (text : List ℕ) (n : ℕ) → IsTime text n → n ≤ 4294967295999
time_fits text n (inl (seconds, is, value)) = let low = is.1 in omega (arith, low, value)
time_fits text n (inr h) =
    let low = h.seconds_are.1 in
    let small = fraction_small h.following h.fraction h.fraction_is in
    let value = h.value_is in
    omega (arith, low, small, value)

pub fits_of : (bytes : List ℕ) (s : Saying) → IsOfStatement bytes → Spells bytes s → Fits s
fits_of bytes version s h = tt
fits_of bytes (name color text) s h = name_fits bytes color text s h
fits_of bytes (header key text) s h = header_fits bytes key text s h
fits_of bytes (even pairs) s h = tt
fits_of bytes (rank number cells) s h = (h.low, h.high)
fits_of bytes (pieces color pairs) s h = tt
fits_of bytes (turn color) s h = tt
fits_of bytes (walked color m) s h = tt
fits_of bytes (time t) s (text, whole, is) = time_fits text t is
fits_of bytes (ending e) s h = tt

-- How a time is read, and that bytes spell at most one time.
use Rattle.std.proofs.Common.{◌≡◌, ℕ, ◌+◌, ◌*◌, ◌-◌, ◌^◌, ◌<◌, ◌≤◌, arith, List, length, take, get_or, sym, ap, ◌∙◌, inl, inr}
use Rattle.std.proofs.lemmas.Int.Digits.{digits_value_more}
use Rattle.std.proofs.lemmas.Str.Parse.{digits_value-take-le}
use Rattle.std.specs.Char.{digit_value}
use Rattle.std.specs.Str.Parse.{digits_value}
use Rattle.csa_text.specs.Fields.{HasNone, IsSplit}
use Rattle.csa_text.specs.TimeTexts.{IsSeconds, IsFraction, HasFraction, IsTime}
use Rattle.csa_text.proofs.Moments.{none_of, no_split, split_same}

-- the digits so far with the next one have no larger value than all of them
pub so_far : (bytes : List ℕ) (i : ℕ) → i < length bytes → digits_value 10 (take i bytes) * 10 + digit_value (get_or bytes i 0) ≤ digits_value 10 bytes
so_far bytes i less = omega (arith, digits_value_more 10 bytes i less, digits_value-take-le 10 bytes (i + 1) (omega arith))

point : digit_value 46 < 10 → ⊥
point h = omega arith

no_point : (digits : List ℕ) (seconds : ℕ) → IsSeconds digits seconds → HasNone 46 digits
no_point digits seconds n = none_of 46 point digits n.0.digits_only

pub no_whole : (text : List ℕ) → HasNone 46 text → ((seconds : ℕ) → IsSeconds text seconds → ⊥) → (n : ℕ) → IsTime text n → ⊥
no_whole text none never n t =
    elim t [
      | inl whole ↦ never whole.0 whole.1
      | inr f ↦ no_split 46 text f.digits f.following none f.whole
    ]

pub no_front : (text digits following : List ℕ) → IsSplit 46 text digits following → ((seconds : ℕ) → IsSeconds digits seconds → ⊥) → (n : ℕ) → IsTime text n → ⊥
no_front text digits following split never n t =
    elim t [
      | inl whole ↦ no_split 46 text digits following (no_point text whole.0 whole.1) split.0
      | inr f ↦ let same = split_same 46 text digits following f.digits f.following split f.whole (no_point f.digits f.seconds f.seconds_are) in never f.seconds (rw same.0 f.seconds_are)
    ]

pub no_fraction : (text digits following : List ℕ) → IsSplit 46 text digits following → ((part : ℕ) → IsFraction following part → ⊥) → (n : ℕ) → IsTime text n → ⊥
no_fraction text digits following split never n t =
    elim t [
      | inl whole ↦ no_split 46 text digits following (no_point text whole.0 whole.1) split.0
      | inr f ↦ let same = split_same 46 text digits following f.digits f.following split f.whole (no_point f.digits f.seconds f.seconds_are) in never f.fraction (rw same.1 f.fraction_is)
    ]

fraction_once : (digits : List ℕ) (a b : ℕ) → IsFraction digits a → IsFraction digits b → a ≡ b
fraction_once digits a b (v, n, e) (w, m, f) = e ∙ ap (λ x. x * 10 ^ (3 - length digits)) (n.value_is ∙ sym m.value_is) ∙ sym f

seconds_once : (digits : List ℕ) (a b : ℕ) → IsSeconds digits a → IsSeconds digits b → a ≡ b
seconds_once digits a b n m = n.0.value_is ∙ sym m.0.value_is

fractions_once : (text : List ℕ) (m n : ℕ) → HasFraction text m → HasFraction text n → m ≡ n
fractions_once text m n f g =
    let same = split_same 46 text f.digits f.following g.digits g.following (f.whole, no_point f.digits f.seconds f.seconds_are) g.whole (no_point g.digits g.seconds g.seconds_are) in
    let seconds : f.seconds ≡ g.seconds = seconds_once f.digits f.seconds g.seconds f.seconds_are (rw same.0 g.seconds_are) in
    let parts : f.fraction ≡ g.fraction = fraction_once f.following f.fraction g.fraction f.fraction_is (rw same.1 g.fraction_is) in
    omega (arith, f.value_is, g.value_is, seconds, parts)

pub time_once : (text : List ℕ) (m n : ℕ) → IsTime text m → IsTime text n → m ≡ n
time_once text m n (inl w) (inl v) = let same = seconds_once text w.0 v.0 w.1 v.1 in omega (arith, w.2, v.2, same)
time_once text m n (inl w) (inr g) = absurd (no_split 46 text g.digits g.following (no_point text w.0 w.1) g.whole)
time_once text m n (inr f) (inl v) = absurd (no_split 46 text f.digits f.following (no_point text v.0 v.1) f.whole)
time_once text m n (inr f) (inr g) = fractions_once text m n f g

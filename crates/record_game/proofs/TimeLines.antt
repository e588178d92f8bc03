-- The line of a time.
use Rattle.std.proofs.Common.{◌≡◌, ◌≢◌, ℕ, ◌+◌, ◌<◌, ◌≤◌, ◌==◌, ◌/◌, ◌%◌, true, false, List, [], ◌∷◌, ◌++◌, length, refl, sym, ap, ◌∙◌, subst, arith, inl, inr, decimal}
use Rattle.std.specs.Char.{digit_value}
use Rattle.std.specs.List.{AllByRecursion}
use Rattle.std.specs.Str.Parse.{AllDigits}
use Rattle.std.proofs.lemmas.Bool.{cases_Bool, eqb-true}
use Rattle.std.proofs.lemmas.Fmt.{decimal_is_IsNumeral_wide, length-decimal-le_wide}
use Rattle.std.proofs.lemmas.List.{append-nil, length-append}
use Rattle.csa_text.specs.Fields.{IsNumber, two_digits}
use Rattle.csa_text.specs.Saying.{time}
use Rattle.csa_text.specs.TimeTexts.{IsSeconds, IsFraction, IsTime, time_text, fraction_text}
use Rattle.csa_text.proofs.Moments.{digit_of, two_number}
use Rattle.record_game.proofs.Bytes.{EndsNothing, IsSolid, all_joined, all_weaker, solid, solid_digit, no_ends, solid_whole}
use Rattle.record_game.proofs.Lined.{IsItemLine}

not_from : (c b : ℕ) → (digit_value c < 10 → ⊥) → digit_value b < 10 → b ≢ c
not_from c b never h e = never (subst (λ x. digit_value x < 10) e h)

solid_numeral : (b : ℕ) → digit_value b < 10 → IsSolid b
solid_numeral b h = (
  (not_from 13 b (λ k. omega (arith, k)) h, not_from 10 b (λ k. omega (arith, k)) h, not_from 44 b (λ k. omega (arith, k)) h),
  not_from 32 b (λ k. omega (arith, k)) h,
  not_from 9 b (λ k. omega (arith, k)) h,
)

solid_numerals : (ds : List ℕ) → AllDigits 10 ds → AllByRecursion IsSolid ds
solid_numerals [] h = tt
solid_numerals (d ∷ ds) h = (solid_numeral d h.0, solid_numerals ds h.1)

-- the digits after the point
record IsThousandths (r : ℕ) : Type 0 where
  following : List ℕ
  text : fraction_text r ≡ 46 ∷ following
  fraction : IsFraction following r
  solid_all : AllByRecursion IsSolid following
  few : length following ≤ 3

one_number : (n : ℕ) → n < 10 → IsNumber 1 3 ((48 + n) ∷ []) n
one_number n small = let d = digit_of n small in record { few = omega arith; many = omega arith; digits_only = (omega arith, tt); value_is = omega arith }

wider : (ds : List ℕ) (n : ℕ) → IsNumber 1 2 ds n → IsNumber 1 3 ds n
wider ds n h = record { few = h.few; many = omega (arith, h.many); digits_only = h.digits_only; value_is = h.value_is }

three_number : (n : ℕ) → n < 1000 → IsNumber 1 3 ((48 + n / 100) ∷ two_digits (n % 100)) n
three_number n small =
    let a = digit_of (n / 100) (omega arith) in
    let b = digit_of (n % 100 / 10) (omega arith) in
    let c = digit_of (n % 100 % 10) (omega arith) in
    record { few = omega arith; many = omega arith; digits_only = (omega arith, (omega arith, (omega arith, tt))); value_is = omega arith }

thousandths : (r : ℕ) → 0 < r → r < 1000 → IsThousandths r
thousandths r some few =
    let zero_no : (r == 0) ≡ false = first_no r some in
    elim (cases_Bool (r % 100 == 0)) [
      | inl tens ↦
          let round : r % 100 ≡ 0 = eqb-true (r % 100) 0 tens in
          record {
            following = (48 + r / 100) ∷ [];
            text = rw (zero_no, tens) refl;
            fraction = (r / 100, one_number (r / 100) (omega arith), omega (arith, round));
            solid_all = (solid_digit (r / 100), tt);
            few = omega arith;
          }
      | inr broken ↦ elim (cases_Bool (r % 10 == 0)) [
        | inl ones ↦
            let round : r % 10 ≡ 0 = eqb-true (r % 10) 0 ones in
            record {
              following = two_digits (r / 10);
              text = rw (zero_no, broken, ones) refl;
              fraction = (r / 10, wider (two_digits (r / 10)) (r / 10) (two_number 1 (r / 10) (omega arith) (omega arith)), omega (arith, round));
              solid_all = (solid_digit (r / 10 / 10), (solid_digit (r / 10 % 10), tt));
              few = omega arith;
            }
        | inr more ↦ record {
          following = (48 + r / 100) ∷ two_digits (r % 100);
          text = rw (zero_no, broken, more) refl;
          fraction = (r, three_number r few, omega arith);
          solid_all = (solid_digit (r / 100), (solid_digit (r % 100 / 10), (solid_digit (r % 100 % 10), tt)));
          few = omega arith;
        }
      ]
    ]
  where
    first_no : (n : ℕ) → 0 < n → (n == 0) ≡ false
    first_no n h = grind (arith, h)

seconds_are : (s : ℕ) → s ≤ 4294967295 → IsSeconds (decimal s) s
seconds_are s h =
    let n = decimal_is_IsNumeral_wide s (omega (arith, h)) in
    (record { few = omega (arith, n.0.0); many = omega arith; digits_only = n.0.1; value_is = sym n.1 }, h)

-- a time, divided into its seconds and the thousandths
record IsClock (t : ℕ) : Type 0 where
  spelt : IsTime (time_text t) t
  solid_all : AllByRecursion IsSolid (time_text t)
  few : length (time_text t) ≤ 4000

clock : (t s r : ℕ) → t / 1000 ≡ s → t % 1000 ≡ r → t ≤ 4294967295999 → IsClock t
clock t s r cut rest small =
    let limit : s ≤ 4294967295 = omega (arith, cut, small) in
    let digits = decimal_is_IsNumeral_wide s (omega (arith, limit)) in
    let solid_digits = solid_numerals (decimal s) digits.0.1 in
    let few_digits : length (decimal s) ≤ 64 = length-decimal-le_wide 64 s (omega arith) (omega (arith, limit)) (omega (arith, limit)) in
    elim (cases_Bool (r == 0)) [
      | inl none ↦
          let is : time_text t ≡ decimal s = parts (fraction_text r) refl ∙ ap (λ ds. decimal s ++ ds) (no_fraction none) ∙ append-nil (decimal s) in
          let round : r ≡ 0 = eqb-true r 0 none in
          record {
            spelt = rw is (inl (s, seconds_are s limit, omega (arith, cut, rest, round)));
            solid_all = rw is solid_digits;
            few = rw is (omega (arith, few_digits));
          }
      | inr some ↦
          let part = thousandths r (above r some) (omega (arith, rest)) in
          let is : time_text t ≡ decimal s ++ 46 ∷ part.following = parts (fraction_text r) refl ∙ ap (λ ds. decimal s ++ ds) part.text in
          record {
            spelt = rw is (inr (record {
              digits = decimal s;
              following = part.following;
              seconds = s;
              fraction = r;
              whole = refl;
              seconds_are = seconds_are s limit;
              fraction_is = part.fraction;
              value_is = omega (arith, cut, rest);
            }));
            solid_all = rw is (all_joined IsSolid (decimal s) (46 ∷ part.following) solid_digits (solid 46 (omega arith), part.solid_all));
            few = rw is (omega (arith, few_digits, part.few, length-append (decimal s) (46 ∷ part.following)));
          }
    ]
  where
    parts : (ds : List ℕ) → fraction_text r ≡ ds → time_text t ≡ decimal s ++ ds
    parts ds e = ap (λ x. decimal x ++ fraction_text (t % 1000)) cut ∙ (ap (λ y. decimal s ++ fraction_text y) rest ∙ ap (λ bs. decimal s ++ bs) e)

    no_fraction : (r == 0) ≡ true → fraction_text r ≡ []
    no_fraction e = rw e refl

    above : (n : ℕ) → (n == 0) ≡ false → 0 < n
    above n h = grind (arith, h)

pub time_line : (t : ℕ) → t ≤ 4294967295999 → IsItemLine (time t)
time_line t h =
    let c = clock t (t / 1000) (t % 1000) refl refl h in
    let same = solid_whole (84 ∷ time_text t) (solid 84 (omega arith), c.solid_all) in
    record {
      unit = (refl, no_ends (time_text t) (all_weaker IsSolid EndsNothing (λ b h. h.0) (time_text t) c.solid_all), refl);
      spoken = refl;
      fits = omega (arith, c.few);
      spells = (time_text t, same, c.spelt);
    }

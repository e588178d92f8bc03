-- How a moment is read, and that its canonical text is read back.
use Rattle.std.proofs.Common.{◌≡◌, ℕ, zero, suc, ◌+◌, ◌/◌, ◌%◌, ◌^◌, ◌<◌, ◌≤◌, ◌==◌, ◌↔◌, Bool, true, false, cond, List, [], ◌∷◌, ◌++◌, length, get_or, Option, Some, None, MatchOption, IfSome, IsSome, ℤ, pos, negsuc, ◌≤ℤ◌, unsigned_abs, arith, refl, sym, ap, ◌∙◌, subst, inl, inr, ◌||◌}
use Rattle.std.proofs.lemmas.Bool.{cases_Bool, eqb-true, false≢true}
use Rattle.std.proofs.lemmas.Bool.Decides.{nat_tests}
use Rattle.std.proofs.lemmas.Int.Digits.{digits_value-lt}
use Rattle.std.proofs.Math.Nat.{pow-le-pow_right}
use Rattle.std.specs.Char.{digit_value}
use Rattle.std.specs.Str.Parse.{AllDigits, digits_value}
use Rattle.std.proofs.lemmas.Int.{ints}
use Rattle.std.proofs.lemmas.Str.{digit_value_digit}
use Rattle.jiff_core.specs.Calendar.{IsCivilDate, days_in_month, is_leap_year}
use Rattle.jiff_core.specs.declared.civil.date.Date.{Date}
use Rattle.jiff_core.specs.declared.civil.time.Time.{Time}
use Rattle.csa_cutting.proofs.LineCutting.{all_joined}
use Rattle.csa_text.specs.Fields.{IsNumber, two_digits, HasNone, IsSplit}
use Rattle.csa_text.specs.Moment.{TimeOfDay, CalendarMoment, AreNumbers, SpellsDate, SpellsTime, SpellsDateAnd, SpellsMoment, four_digits, date_text, clock_text, after_date, time_of}
use Rattle.csa_cutting.proofs.Once.{same_front}

pub digit_below : (ds : List ℕ) (i : ℕ) → AllDigits 10 ds → i < length ds → digit_value (get_or ds i 0) < 10
digit_below [] i h less = absurd (omega arith)
digit_below (c ∷ cs) zero h less = h.0
digit_below (c ∷ cs) (suc i) h less = digit_below cs i h.1 (omega arith)

pub below_power : (ds : List ℕ) (most : ℕ) → AllDigits 10 ds → length ds ≤ most → digits_value 10 ds < 10 ^ most
below_power ds most h few = omega (arith, digits_value-lt 10 ds h, pow-le-pow_right {n = 10} (omega arith) {i = length ds} {j = most} few)

pub differs : (c mark : ℕ) → digit_value c < 10 → (digit_value mark < 10 → ⊥) → (c == mark) ≡ false
differs c mark digit none =
    elim (cases_Bool (c == mark)) [
      | inl t ↦ let same : c ≡ mark = eqb-true c mark t in absurd (none (subst (λ n. digit_value n < 10) same digit))
      | inr f ↦ f
    ]

pub none_of : (mark : ℕ) → (digit_value mark < 10 → ⊥) → (ds : List ℕ) → AllDigits 10 ds → HasNone mark ds
none_of mark none [] h = tt
none_of mark none (c ∷ cs) h = (differs c mark h.0 none, none_of mark none cs h.1)

self_equal : (n : ℕ) → (n == n) ≡ false → ⊥
self_equal n h = grind (arith, nat_tests)

pub split_same : (mark : ℕ) (bytes a b x y : List ℕ) → IsSplit mark bytes a b → bytes ≡ x ++ mark ∷ y → HasNone mark x → (a ≡ x) × (b ≡ y)
split_same mark bytes a b x y s whole none =
    let stop : (mark == mark) ≡ false → ⊥ = self_equal mark in
    let same = same_front (λ n. n == mark) false a x (mark ∷ b) (mark ∷ y) s.1 none stop stop (sym s.0 ∙ whole) in
    let rest : mark ∷ b ≡ mark ∷ y = same.1 in
    (same.0, cc)

has_one : (mark : ℕ) (x y : List ℕ) → HasNone mark (x ++ mark ∷ y) → ⊥
has_one mark [] y h = self_equal mark h.0
has_one mark (b ∷ x) y h = has_one mark x y h.1

pub no_split : (mark : ℕ) (bytes x y : List ℕ) → HasNone mark bytes → bytes ≡ x ++ mark ∷ y → ⊥
no_split mark bytes x y none whole = has_one mark x y (subst (HasNone mark) whole none)

pub slash : digit_value 47 < 10 → ⊥
slash h = omega arith

pub colon : digit_value 58 < 10 → ⊥
colon h = omega arith

space : digit_value 32 < 10 → ⊥
space h = omega arith

abbrev pub TwoParts : ℕ → ℕ → List ℕ → ℕ → ℕ → Type 0
TwoParts mark others rest m d = (ms ds : List ℕ) × (rest ≡ ms ++ mark ∷ ds) × IsNumber others 2 ms m × IsNumber others 2 ds d

pub first_number : (mark few most others : ℕ) (bytes a b : List ℕ) (y m d : ℕ) → (digit_value mark < 10 → ⊥) → IsSplit mark bytes a b
    → AreNumbers mark few most others bytes y m d → IsNumber few most a y × TwoParts mark others b m d
first_number mark few most others bytes a b y m d none s n =
    let same = split_same mark bytes a b n.front (n.middle ++ mark ∷ n.back) s n.whole (none_of mark none n.front n.first_is.digits_only) in
    (rw same.0 n.first_is, (n.middle, n.back, same.1, n.second_is, n.third_is))

pub two_parts : (mark : ℕ) (fewest : ℕ) (rest p q : List ℕ) (m d : ℕ) → (digit_value mark < 10 → ⊥) → IsSplit mark rest p q → TwoParts mark fewest rest m d → IsNumber fewest 2 p m × IsNumber fewest 2 q d
two_parts mark fewest rest p q m d none s (ms, ds, whole, month, day) =
    let same = split_same mark rest p q ms ds s whole (none_of mark none ms month.digits_only) in
    (rw same.0 month, rw same.1 day)

pub three_parts : (mark few most others : ℕ) (bytes a b p q : List ℕ) (y m d : ℕ) → (digit_value mark < 10 → ⊥) → IsSplit mark bytes a b → IsSplit mark b p q
    → AreNumbers mark few most others bytes y m d → IsNumber few most a y × IsNumber others 2 p m × IsNumber others 2 q d
three_parts mark few most others bytes a b p q y m d none s t n =
    let first = first_number mark few most others bytes a b y m d none s n in
    let rest = two_parts mark others b p q m d none t first.1 in
    (first.0, rest.0, rest.1)

same_number : (fewest most : ℕ) (digits : List ℕ) (a b : ℕ) → IsNumber fewest most digits a → IsNumber fewest most digits b → a ≡ b
same_number fewest most digits a b p q = p.value_is ∙ sym q.value_is

pub numbers_once : (mark few most others : ℕ) (bytes : List ℕ) (y m d a b c : ℕ) → (digit_value mark < 10 → ⊥)
    → AreNumbers mark few most others bytes y m d → AreNumbers mark few most others bytes a b c → (y ≡ a) × (m ≡ b) × (d ≡ c)
numbers_once mark few most others bytes y m d a b c none n o =
    let parts = three_parts mark few most others bytes n.front (n.middle ++ mark ∷ n.back) n.middle n.back a b c none
    (n.whole, none_of mark none n.front n.first_is.digits_only) (refl, none_of mark none n.middle n.second_is.digits_only) o in
    (same_number few most n.front y a n.first_is parts.0, same_number others 2 n.middle m b n.second_is parts.1, same_number others 2 n.back d c n.third_is parts.2)

pub date_once : (bytes : List ℕ) (y m d a b c : ℕ) → AreNumbers 47 4 4 1 bytes y m d → AreNumbers 47 4 4 1 bytes a b c → (y ≡ a) × (m ≡ b) × (d ≡ c)
date_once bytes y m d a b c n o = numbers_once 47 4 4 1 bytes y m d a b c slash n o

pub time_once : (bytes : List ℕ) (h m s a b c : ℕ) → AreNumbers 58 1 2 2 bytes h m s → AreNumbers 58 1 2 2 bytes a b c → (h ≡ a) × (m ≡ b) × (s ≡ c)
time_once bytes h m s a b c n o = numbers_once 58 1 2 2 bytes h m s a b c colon n o

pub day_found : (bytes : List ℕ) (y m d : ℕ) (o : Option Date) → AreNumbers 47 4 4 1 bytes y m d → IsSome o ↔ IsCivilDate (pos y) m d → IfSome o (λ date. (date.year ≡ pos y) × (date.month ≡ m) × (date.day ≡ d)) → MatchOption o ((a b c : ℕ) → SpellsDate bytes a b c → ⊥) (λ date. SpellsDate bytes (unsigned_abs date.year) date.month date.day)
day_found bytes y m d None n exists value = λ a b c s.
    let same = date_once bytes a b c y m d s.0 n in
    absurd (false≢true (exists.1 (rw (← same.0, ← same.1, ← same.2) s.1)))
day_found bytes y m d (Some date) n exists value =
    let year : unsigned_abs date.year ≡ y = ap unsigned_abs value.0 in
    rw (year, value.1, value.2) (n, exists.0 refl)

pub time_found : (bytes : List ℕ) (h m s : ℕ) (o : Option Time) → AreNumbers 58 1 2 2 bytes h m s → IsSome o ↔ ((h ≤ 23) × (m ≤ 59) × (s ≤ 59)) → IfSome o (λ time. (time.hour ≡ h) × (time.minute ≡ m) × (time.second ≡ s) × (time.subsec_nanosecond ≡ 0)) → MatchOption o ((a b c : ℕ) → SpellsTime bytes a b c → ⊥) (λ time. SpellsTime bytes time.hour time.minute time.second)
time_found bytes h m s None n exists value = λ a b c t.
    let same = time_once bytes a b c h m s t.0 n in
    absurd (false≢true (exists.1 (rw (← same.0, ← same.1, ← same.2) (t.1, t.2, t.3))))
time_found bytes h m s (Some time) n exists value =
    let in_day = exists.0 refl in
    rw (value.0, value.1, value.2) (n, in_day.0, in_day.1, in_day.2)

pub whole_found : (h m s : ℕ) (o : Option Time) → IfSome o (λ time. (time.hour ≡ h) × (time.minute ≡ m) × (time.second ≡ s) × (time.subsec_nanosecond ≡ 0)) → IfSome o (λ time. time.subsec_nanosecond ≡ 0)
whole_found h m s None value = value
whole_found h m s (Some time) value = value.3

none_joined : (mark : ℕ) (xs ys : List ℕ) → HasNone mark xs → HasNone mark ys → HasNone mark (xs ++ ys)
none_joined mark xs ys h k = all_joined (λ b. (b == mark) ≡ false) xs ys h k

date_has_no_space : (bytes : List ℕ) (y m d : ℕ) → AreNumbers 47 4 4 1 bytes y m d → HasNone 32 bytes
date_has_no_space bytes y m d n =
    rw n.whole
    (none_joined 32 n.front (47 ∷ (n.middle ++ 47 ∷ n.back)) (none_of 32 space n.front n.first_is.digits_only)
    (refl, none_joined 32 n.middle (47 ∷ n.back) (none_of 32 space n.middle n.second_is.digits_only) (refl, none_of 32 space n.back n.third_is.digits_only)))

pub no_date_alone : (bytes : List ℕ) (t : Option TimeOfDay) (y m d : ℕ) → HasNone 32 bytes → ((a b c : ℕ) → SpellsDate bytes a b c → ⊥) → SpellsDateAnd t bytes y m d → ⊥
no_date_alone bytes None y m d none never s = never y m d s
no_date_alone bytes (Some t) y m d none never s = no_split 32 bytes s.0 s.1 none s.2

pub no_date_before : (bytes date time : List ℕ) (t : Option TimeOfDay) (y m d : ℕ) → IsSplit 32 bytes date time → ((a b c : ℕ) → SpellsDate date a b c → ⊥) → SpellsDateAnd t bytes y m d → ⊥
no_date_before bytes date time None y m d split never s = no_split 32 bytes date time (date_has_no_space bytes y m d s.0) split.0
no_date_before bytes date time (Some t) y m d split never s =
    let same = split_same 32 bytes date time s.0 s.1 split s.2 (date_has_no_space s.0 y m d s.3.0) in
    never y m d (rw same.0 s.3)

pub no_time_after : (bytes date time : List ℕ) (t : Option TimeOfDay) (y m d : ℕ) → IsSplit 32 bytes date time → ((a b c : ℕ) → SpellsTime time a b c → ⊥) → SpellsDateAnd t bytes y m d → ⊥
no_time_after bytes date time None y m d split never s = no_split 32 bytes date time (date_has_no_space bytes y m d s.0) split.0
no_time_after bytes date time (Some t) y m d split never s =
    let same = split_same 32 bytes date time s.0 s.1 split s.2 (date_has_no_space s.0 y m d s.3.0) in
    never t.hour t.minute t.second (rw same.1 s.4)

pub digit_of : (k : ℕ) → k < 10 → digit_value (48 + k) ≡ k
digit_of k small = omega (arith, digit_value_digit (48 + k) (omega arith, omega arith))

pub two_number : (fewest n : ℕ) → fewest ≤ 2 → n < 100 → IsNumber fewest 2 (two_digits n) n
two_number fewest n few small =
    let tens = digit_of (n / 10) (omega arith) in
    let ones = digit_of (n % 10) (omega arith) in
    record {
      few = omega arith;
      many = omega arith;
      digits_only = (omega arith, (omega arith, tt));
      value_is = omega arith;
    }

four_number : (n : ℕ) → n < 10000 → IsNumber 4 4 (four_digits n) n
four_number n small =
    let a = digit_of (n / 100 / 10) (omega arith) in
    let b = digit_of (n / 100 % 10) (omega arith) in
    let c = digit_of (n % 100 / 10) (omega arith) in
    let d = digit_of (n % 100 % 10) (omega arith) in
    record {
      few = omega arith;
      many = omega arith;
      digits_only = (omega arith, (omega arith, (omega arith, (omega arith, tt))));
      value_is = omega arith;
    }

cond_most : (b : Bool) (x y k : ℕ) → x ≤ k → y ≤ k → cond b x y ≤ k
cond_most true x y k p q = p
cond_most false x y k p q = q

few_days : (y : ℤ) (m : ℕ) → days_in_month y m ≤ 31
few_days y m =
    cond_most (m == 2) _ _ 31 (cond_most (is_leap_year y) 29 28 31 (omega arith) (omega arith))
    (cond_most ((m == 4) || (m == 6) || (m == 9) || (m == 11)) 30 31 31 (omega arith) (omega arith))

date_spelled : (y m d : ℕ) → y < 10000 → IsCivilDate (pos y) m d → SpellsDate (date_text y m d) y m d
date_spelled y m d few exists =
    let days = few_days (pos y) m in (
      record {
        front = four_digits y;
        middle = two_digits m;
        back = two_digits d;
        whole = refl;
        first_is = four_number y few;
        second_is = two_number 1 m (omega arith) (omega (arith, exists.1));
        third_is = two_number 1 d (omega arith) (omega (arith, exists.2, days));
      },
      exists,
    )

abbrev pub InDay : Option TimeOfDay → Type 0
InDay None = Unit {0}
InDay (Some t) = (t.hour ≤ 23) × (t.minute ≤ 59) × (t.second ≤ 59)

time_spelled : (t : TimeOfDay) → (t.hour ≤ 23) × (t.minute ≤ 59) × (t.second ≤ 59) → SpellsTime (clock_text t.hour t.minute t.second) t.hour t.minute t.second
time_spelled t h = (
  record {
    front = two_digits t.hour;
    middle = two_digits t.minute;
    back = two_digits t.second;
    whole = refl;
    first_is = two_number 1 t.hour (omega arith) (omega (arith, h.0));
    second_is = two_number 2 t.minute (omega arith) (omega (arith, h.1));
    third_is = two_number 2 t.second (omega arith) (omega (arith, h.2));
  },
  h.0,
  h.1,
  h.2,
)

pub text_spelled : (t : Option TimeOfDay) (y m d : ℕ) → y < 10000 → IsCivilDate (pos y) m d → InDay t → SpellsDateAnd t (date_text y m d ++ after_date t) y m d
text_spelled None y m d few exists h = date_spelled y m d few exists
text_spelled (Some t) y m d few exists h =
    (date_text y m d, clock_text t.hour t.minute t.second, refl, date_spelled y m d few exists, time_spelled t h)

pub not_negative : (y : ℤ) → pos 0 ≤ℤ y → pos (unsigned_abs y) ≡ y
not_negative (pos n) h = refl
not_negative (negsuc n) h = absurd (omega (arith, ints))

pub four_places : (y : ℤ) → pos 0 ≤ℤ y → y ≤ℤ pos 9999 → unsigned_abs y < 10000
four_places (pos n) h k = omega (arith, ints)
four_places (negsuc n) h k = absurd (omega (arith, ints))

in_day : (t : Option Time) → InDay (time_of t)
in_day None = tt
in_day (Some t) = let h = t.hour_in in let m = t.minute_in in let s = t.second_in in (omega arith, omega arith, omega arith)

pub moment_spelled : (y : ℤ) (m d : ℕ) (t : Option Time) → pos 0 ≤ℤ y → y ≤ℤ pos 9999 → IsCivilDate y m d → SpellsDateAnd (time_of t) (date_text (unsigned_abs y) m d ++ after_date (time_of t)) (unsigned_abs y) m d
moment_spelled y m d t low high exists =
    text_spelled (time_of t) (unsigned_abs y) m d (four_places y low high) (rw (not_negative y low) exists) (in_day t)

abbrev moment : ℕ → ℕ → ℕ → Option TimeOfDay → CalendarMoment
moment y m d t = record { year = y; month = m; day = d; time = t }

abbrev clock : ℕ → ℕ → ℕ → TimeOfDay
clock h m s = record { hour = h; minute = m; second = s }

moment_spelt_once : (bytes : List ℕ) (t u : Option TimeOfDay) (y m d a b c : ℕ) → SpellsDateAnd t bytes y m d → SpellsDateAnd u bytes a b c → (y ≡ a) × (m ≡ b) × (d ≡ c) × (t ≡ u)
moment_spelt_once bytes None None y m d a b c p q = let same = date_once bytes y m d a b c p.0 q.0 in (same.0, same.1, same.2, refl)
moment_spelt_once bytes None (Some u) y m d a b c p q = absurd (no_split 32 bytes q.0 q.1 (date_has_no_space bytes y m d p.0) q.2)
moment_spelt_once bytes (Some t) None y m d a b c p q = absurd (no_split 32 bytes p.0 p.1 (date_has_no_space bytes a b c q.0) p.2)
moment_spelt_once bytes (Some t) (Some u) y m d a b c p q =
    let same = split_same 32 bytes p.0 p.1 q.0 q.1 (p.2, date_has_no_space p.0 y m d p.3.0) q.2 (date_has_no_space q.0 a b c q.3.0) in
    let date : AreNumbers 47 4 4 1 p.0 a b c = rw same.0 q.3.0 in
    let time : AreNumbers 58 1 2 2 p.1 u.hour u.minute u.second = rw same.1 q.4.0 in
    let days = date_once p.0 y m d a b c p.3.0 date in
    let times = time_once p.1 t.hour t.minute t.second u.hour u.minute u.second p.4.0 time in (
      days.0,
      days.1,
      days.2,
      ap (λ h. Some (clock h t.minute t.second)) times.0 ∙ ap (λ m. Some (clock u.hour m t.second)) times.1 ∙ ap (λ s. Some (clock u.hour u.minute s)) times.2,
    )

pub moment_once : (bytes : List ℕ) (a b : CalendarMoment) → SpellsMoment bytes a → SpellsMoment bytes b → a ≡ b
moment_once bytes a b p q =
    let same = moment_spelt_once bytes a.time b.time a.year a.month a.day b.year b.month b.day p q in
    ap (λ y. moment y a.month a.day a.time) same.0 ∙ ap (λ m. moment b.year m a.day a.time) same.1
    ∙ ap (λ d. moment b.year b.month d a.time) same.2 ∙ ap (λ t. moment b.year b.month b.day t) same.3

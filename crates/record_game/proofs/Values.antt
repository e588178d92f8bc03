-- The value of a header is decided.
use Rattle.std.proofs.Common.{◌≢◌, ◌⊎◌, ℕ, ◌<◌, ◌≤◌, List, [], ◌∷◌, ◌++◌, length, Option, Some, None, pos, refl, sym, ap, ◌∙◌, subst, arith, inl, inr}
use Rattle.std.specs.Prelude.{codes}
use Rattle.std.specs.Char.{digit_value}
use Rattle.std.specs.Str.Parse.{AllDigits, digits_value}
use Rattle.std.proofs.lemmas.Bool.{cases_lt}
use Rattle.std.proofs.lemmas.Int.{ints}
use Rattle.jiff_core.specs.Calendar.{IsCivilDate, days_in_month}
use Rattle.csa_text.specs.Fields.{IsNumber}
use Rattle.csa_text.specs.Moment.{CalendarMoment, TimeOfDay, AreNumbers, SpellsDate, SpellsTime, SpellsDateAnd, SpellsMoment}
use Rattle.csa_text.proofs.Decided.{Decided, same_or_not, split_or_not}
use Rattle.csa_text.proofs.Moments.{below_power, no_split, slash, colon, first_number, three_parts, date_once, time_once, no_date_alone, no_date_before, no_time_after}
use Rattle.record_game.specs.Fits.{IsHeaderLine}
use Rattle.record_game.specs.Game.{HeaderText, moment, plain}
use Rattle.record_game.specs.Limits.{IsMomentKey, IsInDay, IsPlain, IsEntry}
use Rattle.record_game.specs.Says.{IsValue}

digits_or_not : (bytes : List ℕ) → Decided (AllDigits 10 bytes)
digits_or_not [] = inl tt
digits_or_not (b ∷ bs) =
    elim (cases_lt (digit_value b) 10) [
      | inr big ↦ inr (λ h. omega (arith, big, h.0))
      | inl digit ↦ elim (digits_or_not bs) [
        | inr never ↦ inr (λ h. never h.1)
        | inl digits ↦ inl (digit, digits)
      ]
    ]

-- so many digits
number_or_not : (fewest most : ℕ) (bytes : List ℕ) → Decided ((n : ℕ) × IsNumber fewest most bytes n)
number_or_not fewest most bytes =
    elim (cases_lt (length bytes) fewest) [
      | inl short ↦ inr (λ h. let few = h.1.few in omega (arith, short, few))
      | inr some ↦ elim (cases_lt most (length bytes)) [
        | inl long ↦ inr (λ h. let many = h.1.many in omega (arith, long, many))
        | inr most_so ↦ elim (digits_or_not bytes) [
          | inr never ↦ inr (λ h. never h.1.digits_only)
          | inl digits ↦ inl (digits_value 10 bytes, record { few = some; many = most_so; digits_only = digits; value_is = refl })
        ]
      ]
    ]

-- the three numbers of a date or of a time
record SomeNumbers (mark few most others : ℕ) (bytes : List ℕ) : Type 0 where
  first : ℕ
  second : ℕ
  third : ℕ
  digits : AreNumbers mark few most others bytes first second third

numbers_or_not : (mark few most others : ℕ) (bytes : List ℕ) → (digit_value mark < 10 → ⊥)
    → SomeNumbers mark few most others bytes ⊎ ((x y z : ℕ) → AreNumbers mark few most others bytes x y z → ⊥)
numbers_or_not mark few most others bytes apart =
    elim (split_or_not mark bytes) [
      | inr none ↦ inr (λ x y z n. no_split mark bytes n.front (n.middle ++ mark ∷ n.back) none n.whole)
      | inl s ↦ elim (split_or_not mark s.1) [
        | inr none ↦ inr (λ x y z n.
            let two = (first_number mark few most others bytes s.0 s.1 x y z apart s.2 n).1 in no_split mark s.1 two.0 two.1 none two.2)
        | inl t ↦
            let parts : (x y z : ℕ) → AreNumbers mark few most others bytes x y z → IsNumber few most s.0 x × IsNumber others 2 t.0 y × IsNumber others 2 t.1 z =
            λ x y z n. three_parts mark few most others bytes s.0 s.1 t.0 t.1 x y z apart s.2 t.2 n in
            elim (number_or_not few most s.0) [
              | inr never ↦ inr (λ x y z n. never (x, (parts x y z n).0))
              | inl first ↦ elim (number_or_not others 2 t.0) [
                | inr never ↦ inr (λ x y z n. never (y, (parts x y z n).1))
                | inl second ↦ elim (number_or_not others 2 t.1) [
                  | inr never ↦ inr (λ x y z n. never (z, (parts x y z n).2))
                  | inl third ↦ inl (record {
                    first = first.0;
                    second = second.0;
                    third = third.0;
                    digits = record {
                      front = s.0;
                      middle = t.0;
                      back = t.1;
                      whole = s.2.0 ∙ ap (λ xs. s.0 ++ mark ∷ xs) t.2.0;
                      first_is = first.1;
                      second_is = second.1;
                      third_is = third.1;
                    };
                  })
                ]
              ]
            ]
      ]
    ]

year_small : (bytes : List ℕ) (y m d : ℕ) → AreNumbers 47 4 4 1 bytes y m d → y ≤ 9999
year_small bytes y m d n =
    let year = n.first_is in
    let low : digits_value 10 n.front < 10000 = below_power n.front 4 year.digits_only year.many in
    let value = year.value_is in
    omega (arith, low, value)

-- the calendar
day_or_not : (y m d : ℕ) → y ≤ 9999 → Decided (IsCivilDate (pos y) m d)
day_or_not y m d small =
    elim (cases_lt m 1) [
      | inl low ↦ inr (λ h. let from = h.1.0 in omega (arith, low, from))
      | inr from ↦ elim (cases_lt 12 m) [
        | inl high ↦ inr (λ h. let to = h.1.1 in omega (arith, high, to))
        | inr to ↦ elim (cases_lt d 1) [
          | inl early ↦ inr (λ h. let first = h.2.0 in omega (arith, early, first))
          | inr first ↦ elim (cases_lt (days_in_month (pos y) m) d) [
            | inl late ↦ inr (λ h. let last = h.2.1 in omega (arith, late, last))
            | inr last ↦ inl ((omega (arith, ints, small), omega (arith, ints, small)), (from, to), (first, last))
          ]
        ]
      ]
    ]

record SpelltDate (bytes : List ℕ) : Type 0 where
  year : ℕ
  month : ℕ
  day : ℕ
  spells : SpellsDate bytes year month day

date_or_not : (bytes : List ℕ) → SpelltDate bytes ⊎ ((y m d : ℕ) → SpellsDate bytes y m d → ⊥)
date_or_not bytes =
    elim (numbers_or_not 47 4 4 1 bytes slash) [
      | inr never ↦ inr (λ y m d s. never y m d s.0)
      | inl n ↦ elim (day_or_not n.first n.second n.third (year_small bytes n.first n.second n.third n.digits)) [
        | inl day ↦ inl (record { year = n.first; month = n.second; day = n.third; spells = (n.digits, day) })
        | inr none ↦ inr (λ y m d s.
            let same = date_once bytes y m d n.first n.second n.third s.0 n.digits in
            none (rw (← same.0, ← same.1, ← same.2) s.1))
      ]
    ]

record SpelltTime (bytes : List ℕ) : Type 0 where
  hour : ℕ
  minute : ℕ
  second : ℕ
  spells : SpellsTime bytes hour minute second

time_or_not : (bytes : List ℕ) → SpelltTime bytes ⊎ ((h m s : ℕ) → SpellsTime bytes h m s → ⊥)
time_or_not bytes =
    elim (numbers_or_not 58 1 2 2 bytes colon) [
      | inr never ↦ inr (λ h m s t. never h m s t.0)
      | inl n ↦ elim (cases_lt 23 n.first) [
        | inl late ↦ inr (λ h m s t. let same = time_once bytes h m s n.first n.second n.third t.0 n.digits in let high = t.1 in omega (arith, late, same.0, high))
        | inr hours ↦ elim (cases_lt 59 n.second) [
          | inl late ↦ inr (λ h m s t. let same = time_once bytes h m s n.first n.second n.third t.0 n.digits in let high = t.2 in omega (arith, late, same.1, high))
          | inr minutes ↦ elim (cases_lt 59 n.third) [
            | inl late ↦ inr (λ h m s t. let same = time_once bytes h m s n.first n.second n.third t.0 n.digits in let high = t.3 in omega (arith, late, same.2, high))
            | inr seconds ↦ inl (record { hour = n.first; minute = n.second; second = n.third; spells = (n.digits, hours, minutes, seconds) })
          ]
        ]
      ]
    ]

moment_or_not : (text : List ℕ) → ((m : CalendarMoment) × SpellsMoment text m) ⊎ ((m : CalendarMoment) → SpellsMoment text m → ⊥)
moment_or_not text =
    elim (split_or_not 32 text) [
      | inr none ↦ elim (date_or_not text) [
        | inr never ↦ inr (λ m s. no_date_alone text m.time m.year m.month m.day none never s)
        | inl d ↦ inl (record { year = d.year; month = d.month; day = d.day; time = None }, d.spells)
      ]
      | inl s ↦ elim (date_or_not s.0) [
        | inr never ↦ inr (λ m p. no_date_before text s.0 s.1 m.time m.year m.month m.day s.2 never p)
        | inl d ↦ elim (time_or_not s.1) [
          | inr never ↦ inr (λ m p. no_time_after text s.0 s.1 m.time m.year m.month m.day s.2 never p)
          | inl t ↦ inl (
            record { year = d.year; month = d.month; day = d.day; time = Some (record { hour = t.hour; minute = t.minute; second = t.second }) },
            (s.0, s.1, s.2.0, d.spells, t.spells),
          )
        ]
      ]
    ]

moment_key_or_not : (key : List ℕ) → Decided (IsMomentKey key)
moment_key_or_not key =
    elim (same_or_not key (codes "START_TIME")) [
      | inl start ↦ inl (inl start)
      | inr other ↦ elim (same_or_not key (codes "END_TIME")) [
        | inl end ↦ inl (inr end)
        | inr neither ↦ inr (λ h. elim h [ inl e ↦ other e | inr e ↦ neither e ])
      ]
    ]

-- the key has some text or moment as its value
pub value_under : (key text : List ℕ) → (value : HeaderText) × IsValue key text value
value_under key text =
    elim (moment_key_or_not key) [
      | inr other ↦ (plain text, (refl, λ is m s. other is))
      | inl is ↦ elim (moment_or_not text) [
        | inl m ↦ (moment m.0, (is, m.1))
        | inr never ↦ (plain text, (refl, λ again. never))
      ]
    ]

in_calendar : (t : Option TimeOfDay) (text : List ℕ) (y m d : ℕ) → SpellsDateAnd t text y m d → (y ≤ 9999) × IsCivilDate (pos y) m d × IsInDay t
in_calendar None text y m d s = (year_small text y m d s.0, s.1, tt)
in_calendar (Some t) text y m d (date, clock, whole, spells, hours) = (year_small date y m d spells.0, spells.1, (hours.1, hours.2, hours.3))

-- what a header's line spells may be in a game
pub entry_fits : (key text : List ℕ) (value : HeaderText) → text ≢ [] → IsHeaderLine key text → IsValue key text value → IsEntry (record { key = key; text = value })
entry_fits key text (moment m) some h (is, spells) =
    let in_it = in_calendar m.time text m.year m.month m.day spells in
    record {
      some = h.some;
      one_line = h.key_line;
      no_colon = h.no_colon;
      text = (is, record { year = in_it.0; day = in_it.1; time = in_it.2 });
    }
entry_fits key text (plain other) some h (same, never) =
    record {
      some = h.some;
      one_line = h.key_line;
      no_colon = h.no_colon;
      text = subst (λ t. IsPlain key t) (sym same) (record { some = some; one_line = h.text_line; fits = h.fits; no_moment = never });
    }

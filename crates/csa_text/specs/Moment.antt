-- Moments: a date, or a date and a time of day.
use Rattle.std.specs.Prelude.{◌≡◌, ℕ, ◌/◌, ◌%◌, ◌≤◌, List, [], ◌∷◌, ◌++◌, pos, unsigned_abs, Option, Some, None}
use Rattle.csa_text.specs.Fields.{IsNumber, two_digits}
use Rattle.csa_text.specs.declared.calendar.Moment.{Moment}
use Rattle.jiff_core.specs.Calendar.{IsCivilDate}
use Rattle.jiff_core.specs.declared.civil.time.Time.{Time}

pub record TimeOfDay : Type 0 where
  pub hour : ℕ
  pub minute : ℕ
  pub second : ℕ

pub record CalendarMoment : Type 0 where
  pub year : ℕ
  pub month : ℕ
  pub day : ℕ
  pub time : Option TimeOfDay

-- three numbers with this mark between: the first of at least `fewest` and at most `most` digits,
-- each other of at least `others` and at most two
pub record AreNumbers (mark fewest most others : ℕ) (bytes : List ℕ)
    (first second third : ℕ) : Type 0 where
  pub front : List ℕ
  pub middle : List ℕ
  pub back : List ℕ
  pub whole : bytes ≡ front ++ mark ∷ (middle ++ mark ∷ back)
  pub first_is : IsNumber fewest most front first
  pub second_is : IsNumber others 2 middle second
  pub third_is : IsNumber others 2 back third

-- four digits, `/`, one or two digits, `/`, one or two digits: a day that the calendar has
abbrev pub SpellsDate : List ℕ → ℕ → ℕ → ℕ → Type 0
SpellsDate bytes year month day = AreNumbers 47 4 4 1 bytes year month day
    × IsCivilDate (pos year) month day

-- one or two digits, `:`, two digits, `:`, two digits
abbrev pub SpellsTime : List ℕ → ℕ → ℕ → ℕ → Type 0
SpellsTime bytes hour minute second =
    AreNumbers 58 1 2 2 bytes hour minute second × (hour ≤ 23) × (minute ≤ 59) × (second ≤ 59)

-- a date alone, or a date, one space and a time
abbrev pub SpellsDateAnd : Option TimeOfDay → List ℕ → ℕ → ℕ → ℕ → Type 0
SpellsDateAnd None bytes year month day = SpellsDate bytes year month day
SpellsDateAnd (Some t) bytes year month day = (date time : List ℕ) × (bytes ≡ date ++ 32 ∷ time)
    × SpellsDate date year month day × SpellsTime time t.hour t.minute t.second

abbrev pub SpellsMoment : List ℕ → CalendarMoment → Type 0
SpellsMoment bytes m = SpellsDateAnd m.time bytes m.year m.month m.day

-- a number below 10000 in four digits
abbrev pub four_digits : ℕ → List ℕ
four_digits n = two_digits (n / 100) ++ two_digits (n % 100)

abbrev pub date_text : ℕ → ℕ → ℕ → List ℕ
date_text year month day = four_digits year ++ 47 ∷ (two_digits month ++ 47 ∷ two_digits day)

abbrev pub clock_text : ℕ → ℕ → ℕ → List ℕ
clock_text hour minute second =
    two_digits hour ++ 58 ∷ (two_digits minute ++ 58 ∷ two_digits second)

-- nothing, or a space and the time
abbrev pub after_date : Option TimeOfDay → List ℕ
after_date None = []
after_date (Some t) = 32 ∷ clock_text t.hour t.minute t.second

-- the canonical text of a moment
abbrev pub moment_text : CalendarMoment → List ℕ
moment_text m = date_text m.year m.month m.day ++ after_date m.time

abbrev pub time_of : Option Time → Option TimeOfDay
time_of None = None
time_of (Some t) = Some (record { hour = t.hour; minute = t.minute; second = t.second })

-- a moment of the program, by its numbers
abbrev pub moment_of : Moment → CalendarMoment
moment_of m =
    record {
      year = unsigned_abs m.date.year;
      month = m.date.month;
      day = m.date.day;
      time = time_of m.time;
    }

-- Moments compare as equal if their calendar moments are equal.
use Rattle.std.proofs.Common.{◌≡◌, ℕ, ◌==◌, Bool, true, false, ◌&&◌, Option, Some, None, IfSome, ℤ, pos, ◌≤ℤ◌, unsigned_abs, int_eq, refl, sym, ap, ◌∙◌}
use Rattle.std.specs.Bool.{Decides}
use Rattle.std.specs.Option.{option_eq}
use Rattle.std.specs.Ordering.{on}
use Rattle.std.proofs.lemmas.Bool.Decides.{Decides-eqb, Decides-int_eq}
use Rattle.jiff_core.specs.Date.{epoch_day}
use Rattle.jiff_core.specs.Time.{time_nanos}
use Rattle.jiff_core.specs.declared.civil.time.Time.{Time}
use Rattle.jiff_core.proofs.DateLemmas.{epoch_day_injective, epoch_day_same}
use Rattle.jiff_core.proofs.DateTimeLemmas.{time_nanos_injective}
use Rattle.csa_text.specs.Moment.{TimeOfDay, CalendarMoment, time_of, moment_of}
use Rattle.csa_text.specs.declared.calendar.Moment.{Moment}
use Rattle.csa_text.proofs.Moments.{not_negative}

and-left : (a b : Bool) → (a && b) ≡ true → a ≡ true
and-left true b h = refl
and-left false b h = h

and-right : (a b : Bool) → (a && b) ≡ true → b ≡ true
and-right true b h = h
and-right false true h = refl
and-right false false h = h

and-both : (a b : Bool) → a ≡ true → b ≡ true → (a && b) ≡ true
and-both a b h k = rw (h, k) refl

abbrev clock : ℕ → ℕ → ℕ → TimeOfDay
clock h m s = record { hour = h; minute = m; second = s }

clock-same : (t u : TimeOfDay) → t.hour ≡ u.hour → t.minute ≡ u.minute → t.second ≡ u.second → t ≡ u
clock-same t u h m s =
    ap (λ x. clock x t.minute t.second) h ∙ (ap (λ x. clock u.hour x t.second) m ∙ ap (clock u.hour u.minute) s)

abbrev calendar : ℕ → ℕ → ℕ → Option TimeOfDay → CalendarMoment
calendar y m d t = record { year = y; month = m; day = d; time = t }

calendar-same : (a b : CalendarMoment) → a.year ≡ b.year → a.month ≡ b.month → a.day ≡ b.day → a.time ≡ b.time → a ≡ b
calendar-same a b y m d t =
    ap (λ x. calendar x a.month a.day a.time) y
    ∙ (ap (λ x. calendar b.year x a.day a.time) m
    ∙ (ap (λ x. calendar b.year b.month x a.time) d ∙ ap (calendar b.year b.month b.day) t))

abbrev IsWhole : Option Time → Type 0
IsWhole t = IfSome t (λ u. u.subsec_nanosecond ≡ 0)

times-eq : (t u : Option Time) → IsWhole t → IsWhole u → Decides (option_eq (on time_nanos ◌==◌) t u) (time_of t ≡ time_of u)
times-eq None None h k = (λ e. refl, λ e. refl)
times-eq None (Some u) h k = (λ e. cc, λ e. cc)
times-eq (Some t) None h k = (λ e. cc, λ e. cc)
times-eq (Some t) (Some u) h k = (
  λ e.
      let same = time_nanos_injective t u ((Decides-eqb (time_nanos t) (time_nanos u)).0 e) in
      ap Some (clock-same (clock t.hour t.minute t.second) (clock u.hour u.minute u.second) same.0 same.1 same.2),
  λ e.
      let one : clock t.hour t.minute t.second ≡ clock u.hour u.minute u.second = cc in
      let hour : t.hour ≡ u.hour = ap (λ c. c.hour) one in
      let minute : t.minute ≡ u.minute = ap (λ c. c.minute) one in
      let second : t.second ≡ u.second = ap (λ c. c.second) one in
      let whole : t.subsec_nanosecond ≡ u.subsec_nanosecond = h ∙ sym k in
      (Decides-eqb (time_nanos t) (time_nanos u)).1 (rw (hour, minute, second, whole) refl),
)

years-eq : (y z : ℤ) → pos 0 ≤ℤ y → pos 0 ≤ℤ z → unsigned_abs y ≡ unsigned_abs z → y ≡ z
years-eq y z h k e = sym (not_negative y h) ∙ ap pos e ∙ not_negative z k

abbrev pub moment_eq : Moment → Moment → Bool
moment_eq p q = on epoch_day int_eq p.date q.date && option_eq (on time_nanos ◌==◌) p.time q.time

pub moment-eq : (p q : Moment) → Decides (moment_eq p q) (moment_of p ≡ moment_of q)
moment-eq p q = (
  λ h.
      let date = epoch_day_injective p.date q.date ((Decides-int_eq (epoch_day p.date) (epoch_day q.date)).0 (and-left _ _ h)) in
      let time = (times-eq p.time q.time p.whole_seconds q.whole_seconds).0 (and-right _ _ h) in
      calendar-same (moment_of p) (moment_of q) (ap unsigned_abs date.0) date.1 date.2 time,
  λ h.
      let year = years-eq p.date.year q.date.year p.year_in.0 q.year_in.0 (ap (λ (m : CalendarMoment). m.year) h) in
      let month : p.date.month ≡ q.date.month = ap (λ (m : CalendarMoment). m.month) h in
      let day : p.date.day ≡ q.date.day = ap (λ (m : CalendarMoment). m.day) h in
      let time : time_of p.time ≡ time_of q.time = ap (λ (m : CalendarMoment). m.time) h in
      and-both _ _ ((Decides-int_eq (epoch_day p.date) (epoch_day q.date)).1 (epoch_day_same p.date q.date year month day))
      ((times-eq p.time q.time p.whole_seconds q.whole_seconds).1 time),
)

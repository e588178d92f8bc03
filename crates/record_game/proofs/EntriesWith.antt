-- Names and headers, with one more entry.
use Rattle.std.proofs.Common.{◌≡◌, ℕ, suc, ◌<◌, Bool, true, false, List, [], ◌∷◌, length, nat_eq, refl, sym, ap, ◌∙◌, arith, inl, inr, cond}
use Rattle.std.specs.Prelude.{if◌then◌else◌}
use Rattle.std.specs.Cmp.Lexicographic.{pointwise, bytes_decides}
use Rattle.std.specs.List.{AllByRecursion}
use Rattle.std.proofs.lemmas.Bool.{false≢true}
use Rattle.record_game.specs.Game.{Entry}
use Rattle.record_game.specs.Limits.{IsEntry, is_below, Rising}
use Rattle.record_game.specs.Titles.{Titled, under, with_entry}
use Rattle.record_game.specs.Validity.{IsTitled}
use Rattle.record_game.proofs.Entries.{below_total}

pub rising_tail : (e : Entry) (es : List Entry) → Rising (e ∷ es) → Rising es
rising_tail e [] h = tt
rising_tail e (f ∷ es) h = h.1

-- if no entry is kept, neither the first nor any later one is
pub kept : (b : Bool) (e : Entry) (es : List Entry) → cond b (e ∷ es) es ≡ [] → (b ≡ false) × (es ≡ [])
kept true e es h = cc
kept false e es h = (refl, h)

all_step : (P : Entry → Type 0) (b : Bool) (e f : Entry) (es fs : List Entry) → P e → P f → AllByRecursion P es → AllByRecursion P fs → AllByRecursion P (if b then e ∷ f ∷ es else f ∷ fs)
all_step P true e f es fs p q h k = (p, (q, h))
all_step P false e f es fs p q h k = (q, k)

pub all_with : (P : Entry → Type 0) (es : List Entry) (e : Entry) → P e → AllByRecursion P es → AllByRecursion P (with_entry es e)
all_with P [] e p h = (p, tt)
all_with P (f ∷ es) e p h = all_step P (is_below e.key f.key) e f es (with_entry es e) p h.0 h.1 (all_with P es e p h.1)

length_step : (b : Bool) (e f : Entry) (es fs : List Entry) → length fs ≡ suc (length es) → length (if b then e ∷ f ∷ es else f ∷ fs) ≡ suc (suc (length es))
length_step true e f es fs h = refl
length_step false e f es fs h = ap suc h

pub length_with : (es : List Entry) (e : Entry) → length (with_entry es e) ≡ suc (length es)
length_with [] e = refl
length_with (f ∷ es) e = length_step (is_below e.key f.key) e f es (with_entry es e) (length_with es e)

second_step : (b : Bool) (f e g : Entry) (es fs : List Entry) → is_below f.key e.key ≡ true → is_below f.key g.key ≡ true → Rising (if b then e ∷ g ∷ es else g ∷ fs) → Rising (f ∷ (if b then e ∷ g ∷ es else g ∷ fs))
second_step true f e g es fs h k r = (h, r)
second_step false f e g es fs h k r = (k, r)

later_with : (f e : Entry) (es : List Entry) → Rising (f ∷ es) → is_below f.key e.key ≡ true → Rising (with_entry es e) → Rising (f ∷ with_entry es e)
later_with f e [] r h s = (h, tt)
later_with f e (g ∷ es) r h s = second_step (is_below e.key g.key) f e g es (with_entry es e) h r.0 s

after : (e f : List ℕ) → is_below e f ≡ false → pointwise nat_eq f e ≡ false → is_below f e ≡ true
after e f h n =
    elim (below_total e f) [
      | inl below ↦ absurd (false≢true (sym h ∙ below))
      | inr other ↦ elim other [
        | inl above ↦ above
        | inr same ↦ absurd (false≢true (sym n ∙ (bytes_decides f e).1 (sym same)))
      ]
    ]

rising_step : (b : Bool) (e f : Entry) (es fs : List Entry) → (b ≡ true → is_below e.key f.key ≡ true) → Rising (f ∷ es) → (b ≡ false → Rising (f ∷ fs)) → Rising (if b then e ∷ f ∷ es else f ∷ fs)
rising_step true e f es fs h r s = (h refl, r)
rising_step false e f es fs h r s = s refl

pub rising_with : (es : List Entry) (e : Entry) → Rising es → under e.key es ≡ [] → Rising (with_entry es e)
rising_with [] e r h = tt
rising_with (f ∷ es) e r h =
    let parts = kept (pointwise nat_eq f.key e.key) f (under e.key es) h in
    let rest = rising_with es e (rising_tail f es r) parts.1 in
    rising_step (is_below e.key f.key) e f es (with_entry es e) (λ t. t) r
    (λ n. later_with f e es r (after e.key f.key n parts.0) rest)

-- valid titles stay valid with one more entry
pub titled_with : (t : Titled) (e : Entry) → IsTitled t → IsEntry e → under e.key t.headers ≡ [] → length t.headers < 64 → IsTitled (record t { headers = with_entry t.headers e })
titled_with t e h entry new few = record {
  black = h.black;
  white = h.white;
  entries = all_with IsEntry t.headers e entry h.entries;
  rising = rising_with t.headers e h.rising new;
  few_headers = omega (arith, length_with t.headers e, few);
}

-- Entries of rising keys have other keys.
use Rattle.std.proofs.Common.{◌≡◌, ℕ, Bool, true, false, cond, List, [], ◌∷◌, nat_eq, nat_lt, refl, sym, arith, inl, inr}
use Rattle.std.specs.Cmp.Lexicographic.{pointwise, bytes_decides}
use Rattle.std.proofs.lemmas.Bool.{cases_Bool, le-ltb, false≢true}
use Rattle.record_game.specs.Game.{Entry}
use Rattle.record_game.specs.Limits.{is_below, Rising}
use Rattle.record_game.specs.Titles.{under}
use Rattle.record_game.proofs.SaysOnce.{rising_without}

-- no key is below itself
pub not_itself : (a : List ℕ) → is_below a a ≡ true → ⊥
not_itself [] h = absurd (false≢true h)
not_itself (b ∷ bs) h = let level : nat_lt b b ≡ false = le-ltb b b (omega arith) in not_itself bs (rw level at h)

-- the key of a later entry is another one
pub other_key : (e f : List ℕ) → is_below e f ≡ true → pointwise nat_eq f e ≡ false
other_key e f h =
    elim (cases_Bool (pointwise nat_eq f e)) [
      | inl t ↦
          let same : f ≡ e = (bytes_decides f e).0 t in
          let below : is_below e e ≡ true = rw same at h in
          absurd (not_itself e below)
      | inr n ↦ n
    ]

-- what is skipped is not there
pub skipped : (b : Bool) (e : Entry) (es : List Entry) → b ≡ false → es ≡ [] → cond b (e ∷ es) es ≡ []
skipped true e es h k = absurd (false≢true (sym h))
skipped false e es h k = k

without_second : (e f : Entry) (es : List Entry) → Rising (e ∷ f ∷ es) → Rising (e ∷ es)
without_second e f es h = rising_without (e ∷ []) f es h

-- no later entry has the key of the first
pub none_later : (e : Entry) (es : List Entry) → Rising (e ∷ es) → under e.key es ≡ []
none_later e [] h = refl
none_later e (f ∷ es) h =
    skipped (pointwise nat_eq f.key e.key) f (under e.key es) (other_key e.key f.key h.0) (none_later e es (without_second e f es h))

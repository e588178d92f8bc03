-- The headers of the items so far, and the entries that they make.
use Rattle.std.proofs.Common.{◌≡◌, ℕ, ◌+◌, ◌||◌, Bool, true, false, cond, List, [], ◌∷◌, ◌++◌, length, refl, sym, ap, ◌∙◌, arith}
use Rattle.std.specs.Prelude.{filter, nat_eq}
use Rattle.std.specs.Cmp.Lexicographic.{pointwise}
use Rattle.record_game.specs.Game.{Entry}
use Rattle.record_game.specs.Limits.{is_below}
use Rattle.record_game.specs.Order.{stands}
use Rattle.record_game.specs.Says.{IsValue, AreEntries}
use Rattle.record_game.specs.Titles.{under, with_entry}

-- an entry is inserted somewhere
record GoesIn (es : List Entry) (e : Entry) (all : List Entry) : Type 0 where
  front : List Entry
  following : List Entry
  before : es ≡ front ++ following
  after : all ≡ front ++ e ∷ following

goes_later : (f : Entry) (es : List Entry) (e : Entry) (all : List Entry) → GoesIn es e all → GoesIn (f ∷ es) e (f ∷ all)
goes_later f es e all g = record { front = f ∷ g.front; following = g.following; before = ap (λ xs. f ∷ xs) g.before; after = ap (λ xs. f ∷ xs) g.after }

goes_by : (b : Bool) (f : Entry) (es : List Entry) (e : Entry) → GoesIn es e (with_entry es e) → GoesIn (f ∷ es) e (cond b (e ∷ f ∷ es) (f ∷ with_entry es e))
goes_by true f es e g = record { front = []; following = f ∷ es; before = refl; after = refl }
goes_by false f es e g = goes_later f es e (with_entry es e) g

goes_in : (es : List Entry) (e : Entry) → GoesIn es e (with_entry es e)
goes_in [] e = record { front = []; following = []; before = refl; after = refl }
goes_in (f ∷ es) e = goes_by (is_below e.key f.key) f es e (goes_in es e)

-- another entry among those that it is inserted into
record Around (front following : List Entry) (e : Entry) (f : List Entry) (y : Entry) (b : List Entry) : Type 0 where
  left : List Entry
  right : List Entry
  all : front ++ e ∷ following ≡ left ++ y ∷ right
  without : GoesIn (f ++ b) e (left ++ right)

around : (front following : List Entry) (e : Entry) (f : List Entry) (y : Entry) (b : List Entry) → front ++ following ≡ f ++ y ∷ b → Around front following e f y b
around [] following e f y b h = record {
  left = e ∷ f;
  right = b;
  all = ap (λ xs. e ∷ xs) h;
  without = record { front = []; following = f ++ b; before = refl; after = refl };
}
around (z ∷ front) following e [] y b h =
    let first : z ≡ y = cc in
    let rest : front ++ following ≡ b = cc in
    record {
      left = [];
      right = front ++ e ∷ following;
      all = ap (λ x. x ∷ (front ++ e ∷ following)) first;
      without = record { front = front; following = following; before = sym rest; after = refl };
    }
around (z ∷ front) following e (x ∷ f) y b h =
    let first : z ≡ x = cc in
    let rest : front ++ following ≡ f ++ y ∷ b = cc in
    let r = around front following e f y b rest in
    record {
      left = x ∷ r.left;
      right = r.right;
      all = ap (λ v. v ∷ (front ++ e ∷ following)) first ∙ ap (λ xs. x ∷ xs) r.all;
      without = goes_later x (f ++ b) e (r.left ++ r.right) r.without;
    }

none_in : (front following : List Entry) → [] ≡ front ++ following → (front ≡ []) × (following ≡ [])
none_in [] following h = (refl, sym h)
none_in (x ∷ front) following h = cc

last_in : (hs : List (List ℕ × List ℕ)) (es : List Entry) (h : List ℕ × List ℕ) (e : Entry) (all : List Entry) → AreEntries hs es → e.key ≡ h.0 → IsValue h.0 h.1 e.text → GoesIn es e all → AreEntries (hs ++ h ∷ []) all
last_in [] es h e all a key value g =
    let none = none_in g.front g.following (sym a ∙ g.before) in
    let alone : all ≡ e ∷ [] = g.after ∙ (ap (λ xs. xs ++ e ∷ g.following) none.0 ∙ ap (λ xs. e ∷ xs) none.1) in
    ([], e, [], alone, key, value, refl)
last_in (k ∷ hs) es h e all (f, y, b, whole, key_is, value_is, rest) key value g =
    let r = around g.front g.following e f y b (sym g.before ∙ whole) in
    (r.left, y, r.right, g.after ∙ r.all, key_is, value_is, last_in hs (f ++ b) h e (r.left ++ r.right) rest key value r.without)

-- one more header is one more entry
pub header_more : (hs : List (List ℕ × List ℕ)) (es : List Entry) (h : List ℕ × List ℕ) (e : Entry) → AreEntries hs es → e.key ≡ h.0 → IsValue h.0 h.1 e.text → AreEntries (hs ++ h ∷ []) (with_entry es e)
header_more hs es h e a key value = last_in hs es h e (with_entry es e) a key value (goes_in es e)

-- as many
middle_length : (f : List Entry) (y : Entry) (b : List Entry) → length (f ++ y ∷ b) ≡ length (f ++ b) + 1
middle_length [] y b = omega arith
middle_length (x ∷ f) y b = omega (arith, middle_length f y b)

pub as_many : (hs : List (List ℕ × List ℕ)) (es : List Entry) → AreEntries hs es → length hs ≡ length es
as_many [] es a = ap length (sym a)
as_many (h ∷ hs) es (f, y, b, whole, key, value, rest) =
    let more = as_many hs (f ++ b) rest in
    let all : length es ≡ length (f ++ b) + 1 = ap length whole ∙ middle_length f y b in
    omega (arith, more, all)

-- with the same keys
by_first : {X : Type 0} (p : X → Bool) (x : X) (xs : List X) (b : Bool) → p x ≡ b → stands (filter p (x ∷ xs)) ≡ (b || stands (filter p xs))
by_first p x xs true h = rw h refl
by_first p x xs false h = rw h refl

exchanged : (a b c : Bool) → (a || (b || c)) ≡ (b || (a || c))
exchanged true true c = refl
exchanged true false c = refl
exchanged false true c = refl
exchanged false false c = refl

middle_stands : (p : Entry → Bool) (f : List Entry) (y : Entry) (b : List Entry) → stands (filter p (f ++ y ∷ b)) ≡ (p y || stands (filter p (f ++ b)))
middle_stands p [] y b = by_first p y b (p y) refl
middle_stands p (x ∷ f) y b =
    by_first p x (f ++ y ∷ b) (p x) refl ∙ (ap (λ c. p x || c) (middle_stands p f y b)
    ∙ (exchanged (p x) (p y) (stands (filter p (f ++ b))) ∙ ap (λ c. p y || c) (sym (by_first p x (f ++ b) (p x) refl))))

pub same_keys : (key : List ℕ) (hs : List (List ℕ × List ℕ)) (es : List Entry) → AreEntries hs es → stands (filter (λ (h : List ℕ × List ℕ). pointwise nat_eq h.0 key) hs) ≡ stands (under key es)
same_keys key [] es a = ap (λ xs. stands (under key xs)) (sym a)
same_keys key (h ∷ hs) es (f, y, b, whole, key_is, value, rest) =
    by_first (λ (g : List ℕ × List ℕ). pointwise nat_eq g.0 key) h hs (pointwise nat_eq h.0 key) refl
    ∙ (ap (λ c. pointwise nat_eq h.0 key || c) (same_keys key hs (f ++ b) rest)
    ∙ (ap (λ k. pointwise nat_eq k key || stands (under key (f ++ b))) (sym key_is)
    ∙ (sym (middle_stands (λ (e : Entry). pointwise nat_eq e.key key) f y b) ∙ ap (λ xs. stands (under key xs)) (sym whole))))

-- Pieces one after another.
use Rattle.std.proofs.Common.{◌≡◌, ℕ, ◌+◌, ◌≤◌, ◌||◌, Bool, true, false, nat_lt, List, [], ◌∷◌, ◌++◌, filter, length, drop, length-append, append_assoc, arith, refl, sym, ap, ◌∙◌, subst, inl, inr}
use Rattle.std.proofs.lemmas.Bool.{cases_Bool}
use Rattle.std.proofs.lemmas.Bool.Decides.{nat_tests}
use Rattle.csa_cutting.specs.Cut.{TextUnit, IsCut, mark_length}
use Rattle.csa_cutting.specs.ClosedStatements.{Closed, is_closed}
use Rattle.csa_cutting.specs.PieceCutting.{PieceCutting, ToComeWith, Leads, fresh}
use Rattle.csa_cutting.proofs.Once.{statements_once}
use Rattle.csa_cutting.proofs.Passing.{statements_at}

either_still : (x y z : Bool) → (x ≡ true → y ≡ true) → (x || z) ≡ true → (y || z) ≡ true
either_still true y z f h = rw (f refl) refl
either_still false true z f h = refl
either_still false false z f h = h

below_still : (a e n : ℕ) → e ≤ n → nat_lt a e ≡ true → nat_lt a n ≡ true
below_still a e n h k = grind (arith, nat_tests)

closed_still : (e n : ℕ) → e ≤ n → (u : TextUnit) → is_closed e u ≡ true → is_closed n u ≡ true
closed_still e n h u k =
    either_still (nat_lt (u.offset + length u.bytes) e) (nat_lt (u.offset + length u.bytes) n) (nat_lt 4096 (length u.bytes)) (below_still (u.offset + length u.bytes) e n h) k

filter_still : (p q : TextUnit → Bool) → ((u : TextUnit) → q u ≡ true → p u ≡ true) → (us : List TextUnit) → filter p (filter q us) ≡ filter q us
filter_still p q f [] = refl
filter_still p q f (u ∷ us) = elim (cases_Bool (q u)) [
  | inl t ↦ let s : p u ≡ true = f u t in rw (t, s) (ap (λ xs. u ∷ xs) (filter_still p q f us))
  | inr n ↦ rw n (filter_still p q f us)
]

pub filter_joined : (p : TextUnit → Bool) (us vs : List TextUnit) → filter p (us ++ vs) ≡ filter p us ++ filter p vs
filter_joined p [] vs = refl
filter_joined p (u ∷ us) vs = elim (cases_Bool (p u)) [
  | inl t ↦ rw t (ap (λ xs. u ∷ xs) (filter_joined p us vs))
  | inr n ↦ rw n (filter_joined p us vs)
]

pub kept_all : (e n : ℕ) (xs us vs : List TextUnit) → e ≤ n → xs ≡ filter (is_closed e) us → filter (is_closed n) (xs ++ vs) ≡ xs ++ filter (is_closed n) vs
kept_all e n xs us vs h same =
    let all : filter (is_closed n) xs ≡ xs =
    ap (filter (is_closed n)) same ∙ filter_still (is_closed n) (is_closed e) (closed_still e n h) us ∙ sym same in
    filter_joined (is_closed n) xs vs ∙ ap (λ zs. zs ++ filter (is_closed n) vs) all

pub pieces_joined : (a b c : PieceCutting) (x y : List ℕ) (xs ys : List TextUnit) → Leads a x xs b → Leads b y ys c → Leads a (x ++ y) (xs ++ ys) c
pieces_joined a b c x y xs ys p q =
    let size = length-append x y in
    let first = p.took in
    let second = q.took in
    let end : b.fed + length y ≡ a.fed + length (x ++ y) = omega arith in
    let order : a.fed + length x ≤ b.fed + length y = omega arith in
    let here = p.closes in
    let there = q.closes in
    let kept : xs ++ ys ≡ filter (is_closed (b.fed + length y)) (xs ++ there.0) =
    ap (λ zs. xs ++ zs) there.2 ∙ sym (kept_all (a.fed + length x) (b.fed + length y) xs here.0 there.0 order here.2) in
    record {
      took = omega arith;
      counted = omega (arith, p.counted, q.counted, length-append xs ys);
      closes = (xs ++ there.0, p.onward y there.0 there.1, kept ∙ ap (λ n. filter (is_closed n) (xs ++ there.0)) end);
      onward = λ more others s.
          let next = p.onward (y ++ more) (ys ++ others) (q.onward more others s) in
          let text = subst (λ t. ToComeWith a t (xs ++ (ys ++ others))) (sym (append_assoc x y more)) next in
          subst (λ zs. ToComeWith a ((x ++ y) ++ more) zs) (sym (append_assoc xs ys others)) text;
      going = q.going;
    }

pub from_start : (source : List ℕ) (statements : List TextUnit) → ToComeWith fresh source statements → IsCut source statements
from_start source statements s = statements_at _ (mark_length source) (drop (mark_length source) source) statements (omega arith) s

pub pieces_closed : (source : List ℕ) (closed : List TextUnit) (p : PieceCutting) → Leads fresh source closed p → Closed source closed
pieces_closed source closed p h =
    let c = h.closes in
    let count : 0 + length source ≡ length source = omega arith in
    (c.0, from_start source c.0 c.1, c.2 ∙ ap (λ n. filter (is_closed n) c.0) count)

pub pieces_whole : (source more : List ℕ) (closed others : List TextUnit) (p : PieceCutting) → Leads fresh source closed p → ToComeWith p more others → IsCut (source ++ more) (closed ++ others)
pieces_whole source more closed others p h s = from_start (source ++ more) (closed ++ others) (h.onward more others s)

pub closed_once : (source : List ℕ) (a b : List TextUnit) → Closed source a → Closed source b → a ≡ b
closed_once source a b p q =
    p.2 ∙ ap (filter (is_closed (length source))) (statements_once (mark_length source) (drop (mark_length source) source) p.0 q.0 p.1 q.1) ∙ sym q.2

-- The first legal move is the first of the walks, else of the drops; and so on for the parts of
-- each.
use Rattle.std.proofs.Common.{◌≡◌, ℕ, ◌<◌, ◌≤◌, true, false, get_or, Option, Some, None, ◌⊎◌, inl, inr, arith, refl, ap, sym, ◌∙◌, subst}
use Rattle.std.specs.Prelude.{MatchOption}
use Rattle.std.proofs.lemmas.Bool.{cases_order}
use Rattle.std.proofs.lemmas.Option.{same_Some}
use Rattle.shogi_board.specs.Cells.{at, piece}
use Rattle.shogi_board.specs.Pieces.{is_hand_kind, is_promoted, place_of, promoted}
use Rattle.shogi_board.specs.Material.{bag_of}
use Rattle.shogi_board.specs.Placed.{Placed}
use Rattle.shogi_board.specs.Squares.{place}
use Rattle.shogi_board.specs.Totals.{hand_kinds}
use Rattle.shogi_board.specs.declared.kind.Kind.{Kind}
use Rattle.shogi_board.specs.declared.kind.Kind.TheVariants.{Pawn}
use Rattle.shogi_board.specs.declared.square.Square.{Square}
use Rattle.shogi_board.proofs.Squares.{place-same}
use Rattle.shogi_rules.specs.Evasions.{MovesFrom}
use Rattle.shogi_board.specs.Legal.{FitsBoard, Legal}
use Rattle.shogi_rules.specs.Order.{IsBefore, IsFirstLegal}
use Rattle.shogi_rules.specs.Trying.{IsDrop, IsDropOf, IsFirstOf, IsWalk, IsWalkBetween, NoneOf}
use Rattle.shogi_rules.specs.Verdicts.{NoLegalMove}
use Rattle.shogi_board.specs.declared.moves.Move.{Move}
use Rattle.shogi_board.specs.declared.moves.Move.TheVariants.{Walk, Put}
use Rattle.shogi_rules.proofs.Checks.{walk-form}
use Rattle.shogi_board.proofs.Drops.{held-of}
use Rattle.shogi_board.proofs.Forms.{held-low}

-- 1. Forms
-- what promotes is not promoted, and what it becomes is
pub promotes : (was k : Kind) → promoted was ≡ Some k → (is_promoted was ≡ false) × (is_promoted k ≡ true)
promotes Pawn k h = (cc, cc)
promotes _ k h = (cc, cc)

abbrev Unpromoted : Kind → Type 0
Unpromoted k = is_promoted k ≡ false

-- an unpromoted kind after a walk is the kind before it
form-kept : (was k : Kind) → Unpromoted k → (k ≡ was) ⊎ (promoted was ≡ Some k) → k ≡ was
form-kept was k off (inl e) = e
form-kept was k off (inr e) = let on = (promotes was k e).1 in absurd (let bad : true ≡ false = sym on ∙ off in cc)

place-less : (s t : Square) → s ≡ t → place s < place t → ⊥
place-less s t e lt = let f : place s ≡ place t = ap place e in omega (arith, f, lt)

-- a legal walk between the squares is of one of two kinds
form-of : (p : Placed) (from to : Square) (was : Kind) (m : Move) → at p.material.board from ≡ piece p.side was → IsWalkBetween from to m → Legal p m
    → (k : Kind) × (m ≡ Walk from to k) × ((k ≡ was) ⊎ (promoted was ≡ Some k))
form-of p from to was (Walk g u k) stands leads legal =
    let same : Walk g u k ≡ Walk from to k = rw (leads.0, leads.1) refl in
    let there : Legal p (Walk from to k) = subst (Legal p) same legal in
    (k, same, walk-form p from to was k stands there.keeps.fits)
form-of p from to was (Put t k) stands leads legal = absurd leads

-- a walk before another between the same squares does not promote
before-form : (from to : Square) (k l : Kind) → IsBefore (Walk from to k) (Walk from to l) → Unpromoted k × (is_promoted l ≡ true)
before-form from to k l (inl lt) = absurd (place-less from from refl lt)
before-form from to k l (inr h) = elim h.1 [ inl lt ↦ absurd (place-less to to refl lt) | inr b ↦ (b.1, b.2) ]

pub promoted-first : (p : Placed) (from to : Square) (was k : Kind) (m : Move) → at p.material.board from ≡ piece p.side was → (Legal p (Walk from to was) → ⊥) → promoted was ≡ Some k → m ≡ Walk from to k → Legal p m → IsFirstOf p (IsWalkBetween from to) m
promoted-first p from to was k m stands bare promotion is legal = record {
  among = subst (IsWalkBetween from to) (sym is) (refl, refl);
  legal = legal;
  first = λ n leads before other.
      let f = form-of p from to was n stands leads other in
      let l = f.0 in
      let ordered : IsBefore (Walk from to l) (Walk from to k) = subst (λ (x : Move). IsBefore x (Walk from to k)) f.1 (subst (IsBefore n) is before) in
      let b = before-form from to l k ordered in
      let same = form-kept was l b.0 f.2 in
      bare (subst (Legal p) (f.1 ∙ ap (λ (x : Kind). Walk from to x) same) other);
}

pub no-form : (p : Placed) (from to : Square) (was : Kind) → at p.material.board from ≡ piece p.side was → (Legal p (Walk from to was) → ⊥) → ((k : Kind) → promoted was ≡ Some k → Legal p (Walk from to k) → ⊥) → NoneOf p (IsWalkBetween from to)
no-form p from to was stands bare promoting = λ m leads legal.
    let f = form-of p from to was m stands leads legal in
    elim f.2 [
      | inl e ↦ bare (subst (Legal p) (f.1 ∙ ap (λ (x : Kind). Walk from to x) e) legal)
      | inr e ↦ promoting f.0 e (subst (Legal p) f.1 legal)
    ]

pub none-stands : (p : Placed) (from : Square) → ((k : Kind) → at p.material.board from ≡ piece p.side k → ⊥) → NoneOf p (MovesFrom from)
none-stands p from empty (Walk g u k) from-there legal =
    let fits = legal.keeps.fits in
    empty fits.kind_fits.0 (subst (λ (s : Square). at p.material.board s ≡ piece p.side fits.kind_fits.0) from-there fits.kind_fits.1)
none-stands p from empty (Put t k) from-there legal = from-there

pub between-from : (from to : Square) (m : Move) → IsWalkBetween from to m → MovesFrom from m
between-from from to (Walk g u k) h = h.0
between-from from to (Put t k) h = h

-- an answer for the promoted form is one for both
pub promoted-answer : (p : Placed) (from to : Square) (was k : Kind) (found : Option Move) → at p.material.board from ≡ piece p.side was → (Legal p (Walk from to was) → ⊥) → promoted was ≡ Some k
    → MatchOption found (Legal p (Walk from to k) → ⊥) (λ m. (m ≡ Walk from to k) × Legal p m) → MatchOption found (NoneOf p (IsWalkBetween from to)) (λ m. IsFirstOf p (IsWalkBetween from to) m)
promoted-answer p from to was k None stands bare promotion h =
    no-form p from to was stands bare (λ l e legal. let both : Some k ≡ Some l = sym promotion ∙ e in let same : l ≡ k = cc in h (subst (λ (x : Kind). Legal p (Walk from to x)) same legal))
promoted-answer p from to was k (Some m) stands bare promotion h = promoted-first p from to was k m stands bare promotion h.0 h.1

-- 2. Walks
to-before : (p : Placed) (from s : Square) (m n : Move) → ((t : Square) → place t < place s → NoneOf p (IsWalkBetween from t)) → IsFirstOf p (IsWalkBetween from s) m → MovesFrom from n → IsBefore n m → Legal p n → ⊥
to-before p from s (Walk a b k) (Walk g u l) below h there (inl lt) legal = place-less g a (there ∙ sym h.among.0) lt
to-before p from s (Walk a b k) (Walk g u l) below h there (inr c) legal =
    elim c.1 [
      | inl lt ↦ below u (subst (λ (x : Square). place u < place x) h.among.1 lt) (Walk g u l) (there, refl) legal
      | inr e ↦ h.first (Walk g u l) (there, e.0 ∙ h.among.1) (inr (c.0, inr e)) legal
    ]
to-before p from s (Put t k) n below h there before legal = h.among
to-before p from s m (Put t k) below h there before legal = there

pub walk-from-first : (p : Placed) (from s : Square) (m : Move) → ((t : Square) → place t < place s → NoneOf p (IsWalkBetween from t)) → IsFirstOf p (IsWalkBetween from s) m → IsFirstOf p (MovesFrom from) m
walk-from-first p from s m below h = record {
  among = between-from from s m h.among;
  legal = h.legal;
  first = λ n there before legal. to-before p from s m n below h there before legal;
}

pub none-from : (p : Placed) (from : Square) → ((t : Square) → NoneOf p (IsWalkBetween from t)) → NoneOf p (MovesFrom from)
none-from p from none (Walk g u k) there legal = none u (Walk g u k) (there, refl) legal
none-from p from none (Put t k) there legal = there

from-before : (p : Placed) (s : Square) (m n : Move) → ((f : Square) → place f < place s → NoneOf p (MovesFrom f)) → IsFirstOf p (MovesFrom s) m → IsWalk n → IsBefore n m → Legal p n → ⊥
from-before p s (Walk a b k) (Walk g u l) below h walk (inl lt) legal = below g (subst (λ (x : Square). place g < place x) h.among lt) (Walk g u l) refl legal
from-before p s (Walk a b k) (Walk g u l) below h walk (inr c) legal = h.first (Walk g u l) (c.0 ∙ h.among) (inr c) legal
from-before p s (Put t k) n below h walk before legal = h.among
from-before p s m (Put t k) below h walk before legal = walk

is-walk : (s : Square) (m : Move) → MovesFrom s m → IsWalk m
is-walk s (Walk a b k) h = tt
is-walk s (Put t k) h = h

pub walk-first : (p : Placed) (s : Square) (m : Move) → ((f : Square) → place f < place s → NoneOf p (MovesFrom f)) → IsFirstOf p (MovesFrom s) m → IsFirstOf p IsWalk m
walk-first p s m below h = record {
  among = is-walk s m h.among;
  legal = h.legal;
  first = λ n walk before legal. from-before p s m n below h walk before legal;
}

pub no-walk : (p : Placed) → ((f : Square) → NoneOf p (MovesFrom f)) → NoneOf p IsWalk
no-walk p none (Walk g u k) walk legal = none g (Walk g u k) refl legal
no-walk p none (Put t k) walk legal = walk

-- 3. Drops
abbrev pub NoDrop : Placed → Kind → Square → Type 0
NoDrop p its_kind t = Legal p (Put t its_kind) → ⊥

drop-to-before : (p : Placed) (its_kind : Kind) (s : Square) (n : Move) → ((t : Square) → place t < place s → NoDrop p its_kind t) → IsDropOf its_kind n → IsBefore n (Put s its_kind) → Legal p n → ⊥
drop-to-before p its_kind s (Walk g u l) below h before legal = h
drop-to-before p its_kind s (Put t l) below h (inl lt) legal = let e : place_of l ≡ place_of its_kind = ap place_of h in omega (arith, e, lt)
drop-to-before p its_kind s (Put t l) below h (inr c) legal = below t c.1 (subst (λ (x : Kind). Legal p (Put t x)) h legal)

pub drop-of-first : (p : Placed) (its_kind : Kind) (s : Square) (m : Move) → ((t : Square) → place t < place s → NoDrop p its_kind t) → m ≡ Put s its_kind → Legal p m → IsFirstOf p (IsDropOf its_kind) m
drop-of-first p its_kind s m below is legal = record {
  among = subst (IsDropOf its_kind) (sym is) refl;
  legal = legal;
  first = λ n drop before other. drop-to-before p its_kind s n below drop (subst (IsBefore n) is before) other;
}

pub no-drop-of : (p : Placed) (its_kind : Kind) → ((t : Square) → NoDrop p its_kind t) → NoneOf p (IsDropOf its_kind)
no-drop-of p its_kind none (Walk g u l) h legal = h
no-drop-of p its_kind none (Put t l) h legal = none t (subst (λ (x : Kind). Legal p (Put t x)) h legal)

kind-before : (p : Placed) (its_kind : Kind) (m n : Move) → ((l : Kind) → place_of l < place_of its_kind → NoneOf p (IsDropOf l)) → IsFirstOf p (IsDropOf its_kind) m → IsDrop n → IsBefore n m → Legal p n → ⊥
kind-before p its_kind (Put s k) (Put t l) below h drop (inl lt) legal = below l (subst (λ (x : Kind). place_of l < place_of x) h.among lt) (Put t l) refl legal
kind-before p its_kind (Put s k) (Put t l) below h drop (inr c) legal = h.first (Put t l) (c.0 ∙ h.among) (inr c) legal
kind-before p its_kind (Walk a b k) n below h drop before legal = h.among
kind-before p its_kind m (Walk a b k) below h drop before legal = drop

is-drop : (its_kind : Kind) (m : Move) → IsDropOf its_kind m → IsDrop m
is-drop its_kind (Walk a b k) h = h
is-drop its_kind (Put t k) h = tt

pub drop-first : (p : Placed) (its_kind : Kind) (m : Move) → ((l : Kind) → place_of l < place_of its_kind → NoneOf p (IsDropOf l)) → IsFirstOf p (IsDropOf its_kind) m → IsFirstOf p IsDrop m
drop-first p its_kind m below h = record {
  among = is-drop its_kind m h.among;
  legal = h.legal;
  first = λ n drop before legal. kind-before p its_kind m n below h drop before legal;
}

-- a kind that can be dropped is one of seven
pub no-drop : (p : Placed) (n : ℕ) → 7 ≤ n → ((l : Kind) → place_of l < n → NoneOf p (IsDropOf l)) → NoneOf p IsDrop
no-drop p n all none (Walk g u k) drop legal = drop
no-drop p n all none (Put t k) drop legal =
    let low = held-low k (held-of (bag_of p.material p.side) k legal.keeps.fits.has_piece).0 in
    none k (omega (arith, all, low)) (Put t k) refl legal

-- only a kind that a hand holds can be dropped
pub kind-none : (p : Placed) (its_kind l : Kind) (n : ℕ) → ((k : Kind) → is_hand_kind k ≡ true → place_of k ≡ n → its_kind ≡ k) → place_of l ≡ n → NoneOf p (IsDropOf its_kind) → NoneOf p (IsDropOf l)
kind-none p its_kind l n only e none (Walk g u k) drop legal = drop
kind-none p its_kind l n only e none (Put t k) drop legal =
    let held = (held-of (bag_of p.material p.side) k legal.keeps.fits.has_piece).0 in
    let there : place_of k ≡ n = ap place_of drop ∙ e in
    none (Put t k) (sym (only k held there)) legal

-- 4. All moves
drop-after : (p : Placed) (m n : Move) → IsFirstOf p IsWalk m → IsBefore n m → Legal p n → ⊥
drop-after p m (Walk g u l) h before legal = h.first (Walk g u l) tt before legal
drop-after p (Walk a b k) (Put t l) h before legal = before
drop-after p (Put s k) (Put t l) h before legal = h.among

pub first-walk-first : (p : Placed) (m : Move) → IsFirstOf p IsWalk m → IsFirstLegal p m
first-walk-first p m h = record { legal = h.legal; first = λ n before legal. drop-after p m n h before legal }

walk-none : (p : Placed) (m n : Move) → NoneOf p IsWalk → IsFirstOf p IsDrop m → IsBefore n m → Legal p n → ⊥
walk-none p m (Walk g u l) none h before legal = none (Walk g u l) tt legal
walk-none p m (Put t l) none h before legal = h.first (Put t l) tt before legal

none-at-all : (p : Placed) → NoneOf p IsWalk → NoneOf p IsDrop → NoLegalMove p
none-at-all p walks drops (Walk g u l) legal = walks (Walk g u l) tt legal
none-at-all p walks drops (Put t l) legal = drops (Put t l) tt legal

pub first-drop-first : (p : Placed) (found : Option Move) → NoneOf p IsWalk → MatchOption found (NoneOf p IsDrop) (λ m. IsFirstOf p IsDrop m) → MatchOption found (NoLegalMove p) (λ m. IsFirstLegal p m)
first-drop-first p None none h = none-at-all p none h
first-drop-first p (Some m) none h = record { legal = h.legal; first = λ n before legal. walk-none p m n none h before legal }

-- the answer of the walks, or else of the drops
pub first-of-both : (p : Placed) (walk found : Option Move) (Else : Type 0) → MatchOption walk (NoneOf p IsWalk) (λ m. IsFirstOf p IsWalk m) → MatchOption walk Else (λ m. found ≡ Some m)
    → (Else → MatchOption found (NoneOf p IsDrop) (λ m. IsFirstOf p IsDrop m)) → MatchOption found (NoLegalMove p) (λ m. IsFirstLegal p m)
first-of-both p None found Else none h drops = first-drop-first p found none (drops h)
first-of-both p (Some m) found Else first h drops =
    subst (λ (o : Option Move). MatchOption o (NoLegalMove p) (λ n. IsFirstLegal p n)) (sym h) (first-walk-first p m first)

-- 5. One is the first
abbrev Ordered : Move → Move → Type 0
Ordered m n = (m ≡ n) ⊎ (IsBefore m n ⊎ IsBefore n m)

ordered-forms : (f t : Square) (was k l : Kind) → (k ≡ was) ⊎ (promoted was ≡ Some k) → (l ≡ was) ⊎ (promoted was ≡ Some l) → Ordered (Walk f t k) (Walk f t l)
ordered-forms f t was k l (inl a) (inl b) = inl (ap (λ (x : Kind). Walk f t x) (a ∙ sym b))
ordered-forms f t was k l (inl a) (inr b) = let q = promotes was l b in inr (inl (inr (refl, inr (refl, ap is_promoted a ∙ q.0, q.1))))
ordered-forms f t was k l (inr a) (inl b) = let q = promotes was k a in inr (inr (inr (refl, inr (refl, ap is_promoted b ∙ q.0, q.1))))
ordered-forms f t was k l (inr a) (inr b) = inl (ap (λ (x : Kind). Walk f t x) (same_Some k l (sym a ∙ b)))

held-at : (k : Kind) → is_hand_kind k ≡ true → get_or hand_kinds (place_of k) Pawn ≡ k
held-at Pawn h = cc
held-at _ h = cc

drop-kind : (p : Placed) (t u : Square) (k l : Kind) → FitsBoard p (Put t k) → FitsBoard p (Put u l) → place_of k ≡ place_of l → k ≡ l
drop-kind p t u k l a b e =
    let mine = held-at k (held-of (bag_of p.material p.side) k a.has_piece).0 in
    let yours = held-at l (held-of (bag_of p.material p.side) l b.has_piece).0 in
    sym mine ∙ (ap (λ (i : ℕ). get_or hand_kinds i Pawn) e ∙ yours)

pub ordered : (p : Placed) (m n : Move) → FitsBoard p m → FitsBoard p n → Ordered m n
ordered p (Walk f t k) (Walk g u l) a b =
    elim (cases_order (place f) (place g)) [
      | inl e ↦ elim (cases_order (place t) (place u)) [
        | inl d ↦
            let from : g ≡ f = place-same g f (sym e) in
            let to : u ≡ t = place-same u t (sym d) in
            let same : Walk g u l ≡ Walk f t l = rw (from, to) refl in
            let there : FitsBoard p (Walk f t l) = subst (FitsBoard p) same b in
            let was = a.kind_fits.0 in
            let o = ordered-forms f t was k l a.kind_fits.2 (walk-form p f t was l a.kind_fits.1 there) in
            subst (Ordered (Walk f t k)) (sym same) o
        | inr (inl lt) ↦ inr (inl (inr (place-same f g e, inl lt)))
        | inr (inr lt) ↦ inr (inr (inr (place-same g f (sym e), inl lt)))
      ]
      | inr (inl lt) ↦ inr (inl (inl lt))
      | inr (inr lt) ↦ inr (inr (inl lt))
    ]
ordered p (Walk f t k) (Put u l) a b = inr (inl tt)
ordered p (Put t k) (Walk g u l) a b = inr (inr tt)
ordered p (Put t k) (Put u l) a b =
    elim (cases_order (place_of k) (place_of l)) [
      | inl e ↦
          let kinds = drop-kind p t u k l a b e in
          elim (cases_order (place t) (place u)) [
            | inl d ↦ inl (let to : t ≡ u = place-same t u d in rw (kinds, to) refl)
            | inr (inl lt) ↦ inr (inl (inr (kinds, lt)))
            | inr (inr lt) ↦ inr (inr (inr (sym kinds, lt)))
          ]
      | inr (inl lt) ↦ inr (inl (inl lt))
      | inr (inr lt) ↦ inr (inr (inl lt))
    ]

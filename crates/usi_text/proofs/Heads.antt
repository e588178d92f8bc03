-- The first two words of a position line.
use Rattle.std.proofs.Common.{◌≡◌, ◌≢◌, ℕ, ◌<◌, List, [], ◌∷◌, ◌++◌, length, drop, arith, sym, ap, ◌∙◌, codes}
use Rattle.std.specs.List.{AllByRecursion}
use Rattle.usi_text.specs.Lines.{HasMoves, EvenLine, SfenLine}
use Rattle.usi_text.specs.Words.{nth_word}
use Rattle.usi_text.specs.Scanning.{Split}

full_list : (ws : List (List ℕ)) (w : List ℕ) → w ≡ nth_word ws 0 → 0 < length w → 0 < length ws
full_list [] w e h = let z = ap length e in absurd (omega (arith, z))
full_list (v ∷ vs) w e h = omega arith

cut_first : (ws : List (List ℕ)) (w : List ℕ) (others : List (List ℕ)) → 0 < length ws → w ≡ nth_word ws 0 → others ≡ drop 1 ws → ws ≡ w ∷ others
cut_first [] w others some e d = absurd (omega arith)
cut_first (v ∷ vs) w others some e d = sym (ap (λ x. x ∷ others) e ∙ ap (λ x. v ∷ x) d)

pub head_is : (ws r1 r2 : List (List ℕ)) (first second p x : List ℕ) → first ≡ nth_word ws 0 → r1 ≡ drop 1 ws → second ≡ nth_word r1 0 → r2 ≡ drop 1 r1 → first ≡ p → second ≡ x → 0 < length p → 0 < length x → ws ≡ p ∷ x ∷ r2
head_is ws r1 r2 first second p x a b c d e f h k =
    let l = ap length e in
    let m = ap length f in
    let one : ws ≡ first ∷ r1 = cut_first ws first r1 (full_list ws first a (omega (arith, l))) a b in
    let two : r1 ≡ second ∷ r2 = cut_first r1 second r2 (full_list r1 second c (omega (arith, m))) c d in
    one ∙ (ap (λ z. first ∷ z) two ∙ (ap (λ z. z ∷ second ∷ r2) e ∙ ap (λ z. p ∷ z ∷ r2) f))

pub same_tail : (ws a b : List (List ℕ)) (p x : List ℕ) → ws ≡ p ∷ x ∷ a → ws ≡ p ∷ x ∷ b → a ≡ b
same_tail ws a b p x e f = let g : p ∷ x ∷ a ≡ p ∷ x ∷ b = sym e ∙ f in cc

pub second_of : (ws a b : List (List ℕ)) (p x y : List ℕ) → ws ≡ p ∷ x ∷ a → ws ≡ p ∷ y ∷ b → x ≡ y
second_of ws a b p x y e f = let g : p ∷ x ∷ a ≡ p ∷ y ∷ b = sym e ∙ f in cc

pub sizes : (x y : List ℕ) → x ≡ y → length x ≢ length y → ⊥
sizes x y e h = h (ap length e)

no_front : (sfen tail all moves : List (List ℕ)) → all ≡ sfen ++ tail → 0 < length sfen → AllByRecursion (λ w. w ≢ codes "moves") sfen → HasMoves all moves → ⊥
no_front [] tail all moves e some before has = absurd (omega arith)
no_front (v ∷ vs) tail [] moves e some before has = cc
no_front (v ∷ vs) tail (w ∷ ws) moves e some before has = let same : w ≡ v = cc in before.0 (sym same ∙ has.0)

-- if no word is between sfen and moves
pub sfen_missing : (ws all front moves : List (List ℕ)) → ws ≡ codes "position" ∷ codes "sfen" ∷ all → Split all front moves → front ≡ [] → ((moves : List (List ℕ)) → EvenLine ws moves → ⊥) × ((sfen moves : List (List ℕ)) → SfenLine ws sfen moves → ⊥)
sfen_missing ws all front moves e split none = (
  λ m l. sizes (codes "sfen") (codes "startpos") (second_of ws all l.0 (codes "position") (codes "sfen") (codes "startpos") e l.1) (omega arith),
  λ sfen m s.
      let same : all ≡ sfen ++ s.tail = same_tail ws all (sfen ++ s.tail) (codes "position") (codes "sfen") e s.whole in
      let whole : split.0 ≡ sfen ++ s.tail = sym (split.1 ∙ ap (λ f. f ++ split.0) none) ∙ same in
      no_front sfen s.tail split.0 moves whole s.some s.before split.3,
)

pub sfen_line : (ws all front moves : List (List ℕ)) → ws ≡ codes "position" ∷ codes "sfen" ∷ all → Split all front moves → 0 < length front → SfenLine ws front moves
sfen_line ws all front moves e split some = record {
  tail = split.0;
  whole = e ∙ ap (λ a. codes "position" ∷ codes "sfen" ∷ a) split.1;
  some = some;
  before = split.2;
  following = split.3;
}

-- One answer each: the first broken rule, what playing answers, the first legal move.
use Rattle.std.proofs.Common.{◌≡◌, List, [], ◌∷◌, Option, Some, None, arith, refl, ap, sym, ◌∙◌, inl, inr}
use Rattle.std.proofs.lemmas.Option.{same_Some}
use Rattle.shogi_board.specs.Placed.{Placed}
use Rattle.shogi_board.specs.declared.color.Color.{Color}
use Rattle.shogi_rules.specs.Order.{IsFirstLegal}
use Rattle.shogi_rules.specs.Play.{Answers}
use Rattle.shogi_rules.specs.Positions.{Played}
use Rattle.shogi_rules.specs.Rules.{Kept}
use Rattle.shogi_board.specs.Rules.{all_rules, IsFirstBroken}
use Rattle.shogi_rules.specs.declared.line.PlayFault.{PlayFault}
use Rattle.shogi_rules.specs.declared.line.PlayFault.TheVariants.{TooManyMoves, Broken, OutOfMemory}
use Rattle.shogi_board.specs.declared.moves.Move.{Move}
use Rattle.shogi_board.specs.declared.rule.Rule.{Rule}
use Rattle.shogi_rules.proofs.Firsts.{ordered}

pub one-broken : (kept : Rule → Type 0) (xs : List Rule) (a b : Option Rule) → IsFirstBroken kept xs a → IsFirstBroken kept xs b → a ≡ b
one-broken kept [] a b h k = h ∙ sym k
one-broken kept (x ∷ xs) a b (inl h) (inl k) = h.1 ∙ sym k.1
one-broken kept (x ∷ xs) a b (inl h) (inr k) = absurd (h.0 k.0)
one-broken kept (x ∷ xs) a b (inr h) (inl k) = absurd (k.0 h.0)
one-broken kept (x ∷ xs) a b (inr h) (inr k) = one-broken kept xs a b h.1 k.1

broken-once : (line : Played) (color : Color) (m : Move) (a b : Option Rule) → IsFirstBroken (Kept line color m) all_rules a → IsFirstBroken (Kept line color m) all_rules b → a ≡ b
broken-once line color m a b h k = one-broken (Kept line color m) all_rules a b h k

pub one-answer : (line : Played) (color : Color) (m : Move) (a b : Option PlayFault) → Answers line color m a → Answers line color m b → a ≡ b
one-answer line color m None None h k = refl
one-answer line color m None (Some (Broken r)) h k = let e = broken-once line color m None (Some r) h.1 k.1 in cc
one-answer line color m (Some TooManyMoves) (Some TooManyMoves) h k = refl
one-answer line color m (Some (Broken q)) None h k = let e = broken-once line color m (Some q) None h.1 k.1 in cc
one-answer line color m (Some (Broken q)) (Some (Broken r)) h k =
    let e = same_Some q r (broken-once line color m (Some q) (Some r) h.1 k.1) in
    ap (λ (x : Rule). Some (Broken x)) e
one-answer line color m (Some OutOfMemory) b h k = absurd h
one-answer line color m a (Some OutOfMemory) h k = absurd k
one-answer line color m a b h k = absurd (omega (arith, h, k))

pub first-once : (p : Placed) (m n : Move) → IsFirstLegal p m → IsFirstLegal p n → m ≡ n
first-once p m n a b =
    elim (ordered p m n a.legal.keeps.fits b.legal.keeps.fits) [
      | inl same ↦ same
      | inr (inl before) ↦ absurd (b.first m before a.legal)
      | inr (inr following) ↦ absurd (a.first n following b.legal)
    ]

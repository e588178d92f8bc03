-- Moves are equal if their parts are.
use Rattle.std.proofs.Common.{rules, ◌≡◌, ◌==◌, true, false, Bool, ◌&&◌, refl, ap, ◌∙◌}
use Rattle.std.specs.Bool.{Decides}
use Rattle.std.proofs.lemmas.Bool.Decides.{Decides-eqb}
use denote.Enum.Bare.{sameb, same_true, true_same}
use Rattle.shogi_board.proofs.Squares.{square-same}
use Rattle.shogi_board.specs.contracts.kind.Kind as kind
use Rattle.shogi_board.specs.declared.kind.Kind.{Kind}
use Rattle.shogi_board.specs.declared.square.Square.{Square}
use Rattle.shogi_board.specs.declared.moves.Move.{Move}
use Rattle.shogi_board.specs.declared.moves.Move.TheVariants.{Walk, Put}
use Rattle.shogi_board.specs.contracts.moves.MovePartialEq.TheImpl.{eq-value}

and-left : (a b : Bool) → (a && b) ≡ true → a ≡ true
and-left true b h = refl
and-left false b h = h

and-right : (a b : Bool) → (a && b) ≡ true → b ≡ true
and-right true b h = h
and-right false true h = refl
and-right false false h = h

and-both : (a b : Bool) → a ≡ true → b ≡ true → (a && b) ≡ true
and-both a b h k = rw (h, k) refl

kind-eq : (a b : Kind) → Decides (sameb kind.the_type a b) (a ≡ b)
kind-eq a b = (λ h. same_true kind.the_type (search rules) a b h, true_same kind.the_type a b)

square-eq : (a b : Square) → Decides ((a.file == b.file) && (a.rank == b.rank)) (a ≡ b)
square-eq a b = (
  λ h. square-same a b ((Decides-eqb a.file b.file).0 (and-left _ _ h)) ((Decides-eqb a.rank b.rank).0 (and-right _ _ h)),
  λ e. and-both _ _ ((Decides-eqb a.file b.file).1 (ap (λ (s : Square). s.file) e)) ((Decides-eqb a.rank b.rank).1 (ap (λ (s : Square). s.rank) e)),
)

from_of : Square → Move → Square
from_of s (Walk f t k) = f
from_of s (Put t k) = s

to_of : Move → Square
to_of (Walk f t k) = t
to_of (Put t k) = t

kind_of : Move → Kind
kind_of (Walk f t k) = k
kind_of (Put t k) = k

pub move-eq : (a b : Move) → Decides (eq-value.it a b) (a ≡ b)
unfolding from_of to_of kind_of
move-eq (Walk f t k) (Walk g u l) = (
  λ h. ap (λ x. Walk x t k) ((square-eq f g).0 (and-left _ _ h))
      ∙ (ap (λ x. Walk g x k) ((square-eq t u).0 (and-left _ _ (and-right _ _ h))) ∙ ap (λ x. Walk g u x) ((kind-eq k l).0 (and-right _ _ (and-right _ _ h)))),
  λ e. and-both _ _ ((square-eq f g).1 (ap (from_of f) e)) (and-both _ _ ((square-eq t u).1 (ap to_of e)) ((kind-eq k l).1 (ap kind_of e))),
)
move-eq (Walk f t k) (Put u l) = (λ h. absurd cc, λ e. absurd cc)
move-eq (Put t k) (Walk g u l) = (λ h. absurd cc, λ e. absurd cc)
move-eq (Put t k) (Put u l) = (
  λ h. ap (λ x. Put x k) ((square-eq t u).0 (and-left _ _ h)) ∙ ap (λ x. Put u x) ((kind-eq k l).0 (and-right _ _ h)),
  λ e. and-both _ _ ((square-eq t u).1 (ap to_of e)) ((kind-eq k l).1 (ap kind_of e)),
)

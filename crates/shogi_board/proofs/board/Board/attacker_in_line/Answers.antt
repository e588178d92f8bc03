use Rattle.std.proofs.Common.{rules, ◌⊎◌, inl, inr}
use Rattle.shogi_board.specs.Attackers.{AttackInSight, IsAttackedInLine}
use Rattle.shogi_board.specs.Moves.{steps, forward, back, left, right, forward_left, forward_right, back_left, back_right}
use Rattle.shogi_board.specs.Reach.{Attack}
use Rattle.shogi_board.specs.Squares.{Direction}
use Rattle.shogi_board.specs.declared.kind.Kind.TheVariants.{King}
use Rattle.shogi_board.specs.declared.square.Square.{Square}
use Rattle.shogi_board.proofs.Attackers.{or-else, weaker}
use Rattle.shogi_board.proofs.OneOf.{OneOf, one-of}
use Rattle.shogi_board.proofs.board.Board.attacker_in_line.Goals as goal

abbrev Eight : (Direction → Type 0) → Type 0
Eight P = ((((((P forward ⊎ P back) ⊎ P left) ⊎ P right) ⊎ P forward_left) ⊎ P forward_right) ⊎ P back_left) ⊎ P back_right

in-order : (P : Direction → Type 0) → OneOf P (steps King) → Eight P
in-order P (inl h) = inl (inl (inl (inl (inl (inl (inl h))))))
in-order P (inr (inl h)) = inl (inl (inl (inl (inl (inl (inr h))))))
in-order P (inr (inr (inl h))) = inl (inl (inl (inl (inl (inr h)))))
in-order P (inr (inr (inr (inl h)))) = inl (inl (inl (inl (inr h))))
in-order P (inr (inr (inr (inr (inl h))))) = inl (inl (inl (inr h)))
in-order P (inr (inr (inr (inr (inr (inl h)))))) = inl (inl (inr h))
in-order P (inr (inr (inr (inr (inr (inr (inl h))))))) = inl (inr h)
in-order P (inr (inr (inr (inr (inr (inr (inr (inl h)))))))) = inr h
in-order P (inr (inr (inr (inr (inr (inr (inr (inr h)))))))) = elim h [ ]

pub returns : goal.returns
returns c =
    let P : Direction → Type 0 = AttackInSight c.args.self.now c.args.color c.args.square in
    let R : Square → Type 0 = λ a. Attack c.args.self.now c.args.color a c.args.square in
    let found-1 = or-else c.attacker_from.result c.or_else.result _ (P forward) (P back) R c.attacker_from.ensures c.or_else.ensures (λ q. search rules) in
    let found-2 = or-else c.or_else.result c.or_else-2.result _ (P forward ⊎ P back) (P left) R found-1 c.or_else-2.ensures (λ q. search rules) in
    let found-3 = or-else c.or_else-2.result c.or_else-3.result _ ((P forward ⊎ P back) ⊎ P left) (P right) R found-2 c.or_else-3.ensures (λ q. search rules) in
    let found-4 = or-else c.or_else-3.result c.or_else-4.result _ (((P forward ⊎ P back) ⊎ P left) ⊎ P right) (P forward_left) R found-3 c.or_else-4.ensures (λ q. search rules) in
    let found-5 = or-else c.or_else-4.result c.or_else-5.result _ ((((P forward ⊎ P back) ⊎ P left) ⊎ P right) ⊎ P forward_left) (P forward_right) R found-4 c.or_else-5.ensures (λ q. search rules) in
    let found-6 = or-else c.or_else-5.result c.or_else-6.result _ (((((P forward ⊎ P back) ⊎ P left) ⊎ P right) ⊎ P forward_left) ⊎ P forward_right) (P back_left) R found-5 c.or_else-6.ensures (λ q. search rules) in
    let found-7 = or-else c.or_else-6.result c.or_else-7.result _ ((((((P forward ⊎ P back) ⊎ P left) ⊎ P right) ⊎ P forward_left) ⊎ P forward_right) ⊎ P back_left) (P back_right) R found-6 c.or_else-7.ensures (λ q. search rules) in
    weaker c.or_else-7.result (IsAttackedInLine c.args.self.now c.args.color c.args.square) (Eight P) R R (λ x. in-order P (one-of P (steps King) x)) (λ a r. r) found-7

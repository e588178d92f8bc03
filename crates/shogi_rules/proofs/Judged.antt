-- When a move is legal, by what is tested of it.
use Rattle.std.proofs.Common.{◌≡◌, ◌↔◌, IsTrue, Bool, true, false, Option, None, Some, is_some, not, refl}
use Rattle.shogi_board.specs.Legal.{IsPawnDrop, Keeps, Legal}
use Rattle.shogi_board.specs.Placed.{Placed}
use Rattle.shogi_board.specs.Rules.{KeepsRule, move_rules, IsFirstBroken}
use Rattle.shogi_board.specs.declared.moves.Move.{Move}
use Rattle.shogi_board.specs.declared.rule.Rule.{Rule}
use Rattle.shogi_rules.proofs.Games.{none-legal}

-- it breaks none of the rules 3 to 11
pub legal-if-none : (p : Placed) (m : Move) (broken : Option Rule) (b : Bool) → is_some broken ≡ not b → IsFirstBroken (KeepsRule p m) move_rules broken → IsTrue b ↔ Legal p m
legal-if-none p m None true e h = (λ _. ((none-legal p p.side m None refl h).0 refl).1, λ _. refl)
legal-if-none p m None false e h = cc
legal-if-none p m (Some r) true e h = cc
legal-if-none p m (Some r) false e h = (λ yes. cc, λ legal. let none : Some r ≡ None = (none-legal p p.side m (Some r) refl h).1 (refl, legal) in cc)

-- it drops no pawn, and keeps the rules 3 to 10
pub legal-if-kept : (p : Placed) (m : Move) (drop b : Bool) → (IsTrue drop ↔ IsPawnDrop m) → drop ≡ false → (IsTrue b ↔ Keeps p m) → IsTrue b ↔ Legal p m
legal-if-kept p m drop b is off keeps = (
  λ yes. record { keeps = keeps.0 yes; no_drop_mate = λ pawn mated. let on = is.1 pawn in cc },
  λ legal. keeps.1 legal.keeps,
)

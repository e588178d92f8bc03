use Rattle.std.proofs.Common.{rules, refl}
use Rattle.std.proofs.lemmas.Bool.{ne_eqb}
use Rattle.shogi_board.proofs.setup.Setup.take_hand.Goals as goal

pub returns-then-count-eq0-clause-answer : goal.returns-then-count-eq0-clause-answer
returns-then-count-eq0-clause-answer c = search rules

pub returns-clause-answer : goal.returns-clause-answer
returns-clause-answer c =
    let some = ne_eqb _ _ (rw (c.count.ensures.value, c.hand.ensures.value) at c.if-count-eq0.false) in
    rw (some, ← c.self.view_is, c.if-self.false) refl

pub take_from_hand-requires : goal.take_from_hand-requires
take_from_hand-requires c =
    let some = ne_eqb _ _ (rw (c.count.ensures.value, c.hand.ensures.value) at c.if-count-eq0.false) in
    record { fits = rw (some, ← c.self.view_is, c.if-self.false) refl }

use Rattle.shogi_board.specs.Rules.{KeepsRule, move_rules, IsFirstBroken}
use Rattle.shogi_rules.proofs.Judged.{legal-if-none, legal-if-kept}
use Rattle.shogi_rules.proofs.search.is_legal.Goals as goal

pub returns-then-is_pawn_drop : goal.returns-then-is_pawn_drop
returns-then-is_pawn_drop c =
    let p = c.args.situation.now in
    let broken : IsFirstBroken (KeepsRule p c.args.mv.now) move_rules c.broken_by_side.result = rw c.as_ref.ensures.value at c.broken_by_side.ensures in
    legal-if-none p c.args.mv.now c.broken_by_side.result c.is_none.result c.is_none.ensures broken

pub returns : goal.returns
returns c = legal-if-kept c.args.situation.now c.args.mv.now c.is_pawn_drop.result c.keeps.result c.is_pawn_drop.ensures c.if-is_pawn_drop.false c.keeps.ensures.answer

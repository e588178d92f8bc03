use Rattle.std.proofs.Common.{refl}
use Rattle.shogi_rules.proofs.repetition.verdict_by_moves.Goals as goal

pub returns-then-is_mated : goal.returns-then-is_mated
returns-then-is_mated c = let mated = c.if-is_mated.ensures.0 refl in (mated.in_check, λ m legal. mated.no_move m legal.keeps)

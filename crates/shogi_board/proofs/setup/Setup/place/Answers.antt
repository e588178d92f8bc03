use Rattle.std.proofs.Common.{rules}
use Rattle.shogi_board.proofs.setup.Setup.place.Goals as goal

pub returns-then-has_king-clause-answer : goal.returns-then-has_king-clause-answer
returns-then-has_king-clause-answer c = search rules

pub returns-then-is_full-clause-answer : goal.returns-then-is_full-clause-answer
returns-then-is_full-clause-answer c = search rules

pub put-requires : goal.put-requires
put-requires c = search rules

pub returns-clause-answer : goal.returns-clause-answer
returns-clause-answer c = search rules

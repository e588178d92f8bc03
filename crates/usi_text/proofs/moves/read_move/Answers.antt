use Rattle.std.proofs.Common.{rules, arith, inr}
use Rattle.std.proofs.lemmas.Grind.{common_steps}
use Rattle.usi_text.proofs.moves.read_move.Goals as goal

pub returns-in_ok-kind-in-43 : goal.returns-in_ok-kind-in-43
returns-in_ok-kind-in-43 c = record { stated = (c.in_ok-piece_at-in-43.field-0, search rules, inr (grind (arith, common_steps), search rules)) }

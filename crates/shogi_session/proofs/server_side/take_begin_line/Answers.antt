use Rattle.std.proofs.Common.{refl, sym, ap}
use Rattle.shogi_session.specs.Phases.{client_of}
use Rattle.shogi_session.proofs.PositionRead.{otherwise}
use Rattle.std.proofs.Common.{subst, []}
use Rattle.bridge_table.proofs.Counting.{counts_first}
use Rattle.bridge_table.specs.Summary.{CountsAs}
use Rattle.shogi_session.proofs.ServerRows.{quiet, summary_begun}
use Rattle.shogi_session.proofs.Unnamed.{other_begin}
use Rattle.shogi_session.proofs.server_side.take_begin_line.Goals as goal

pub returns-then-not-is_same-clause-answer : goal.returns-then-not-is_same-clause-answer
returns-then-not-is_same-clause-answer c = λ d engine.
    quiet d engine _ _ _ _ c.no_lines.result (other_begin d engine c.args.line.now (otherwise _ _ c.if-not-is_same.true c.is_same.ensures.answer)) (ap client_of c.requires) refl
    (c.no_lines.ensures.engine, c.no_lines.ensures.server, c.no_lines.ensures.status)

pub returns-clause-keeps : goal.returns-clause-keeps
returns-clause-keeps c = ([], subst (CountsAs []) (sym c.new.ensures) counts_first)

pub returns-clause-answer : goal.returns-clause-answer
returns-clause-answer c = λ d engine.
    summary_begun d engine _ _ c.args.line.now c.no_lines-2.result (ap client_of c.requires) (c.is_same.ensures.answer.0 c.if-not-is_same.false) c.new.ensures
    (c.no_lines-2.ensures.engine, c.no_lines-2.ensures.server, c.no_lines-2.ensures.status)

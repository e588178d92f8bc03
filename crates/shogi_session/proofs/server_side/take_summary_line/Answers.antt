use Rattle.std.proofs.Common.{subst, sym, []}
use Rattle.bridge_table.proofs.Counting.{counts_first}
use Rattle.bridge_table.specs.Summary.{CountsAs}
use Rattle.shogi_session.proofs.ServerRows.{counts_after, summary_read}
use Rattle.shogi_session.proofs.server_side.take_summary_line.Goals as goal

pub returns-in-Ok-clause-keeps : goal.returns-in-Ok-clause-keeps
returns-in-Ok-clause-keeps c = counts_after _ _ c.args.line.now c.requires.counts c.in-Ok.ensures

pub returns-in-Ok-clause-answer : goal.returns-in-Ok-clause-answer
returns-in-Ok-clause-answer c = λ d engine.
    summary_read d engine _ _ c.args.line.now c.no_lines.result c.requires.not_last c.requires.counts c.in-Ok.ensures
    (c.no_lines.ensures.engine, c.no_lines.ensures.server, c.no_lines.ensures.status)

pub returns-in-Err-clause-keeps : goal.returns-in-Err-clause-keeps
returns-in-Err-clause-keeps c = ([], subst (CountsAs []) (sym c.new.ensures) counts_first)

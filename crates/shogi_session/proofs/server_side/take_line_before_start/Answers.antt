use Rattle.std.proofs.Common.{refl, sym, ◌∙◌}
use Rattle.shogi_session.proofs.ServerRows.{quiet, rejected}
use Rattle.shogi_session.proofs.Unnamed.{other_offer}
use Rattle.shogi_session.proofs.server_side.take_line_before_start.Goals as goal

pub returns-then-is_reject_line : goal.returns-then-is_reject_line
returns-then-is_reject_line c = λ d engine offer.
    rejected d engine offer c.args.line.now c.failed.result (sym c.is_reject_line.ensures.value ∙ c.if-is_reject_line.true)
    (c.failed.ensures.engine, c.failed.ensures.server, c.failed.ensures.status)

pub returns : goal.returns
returns c = λ d engine offer.
    quiet d engine _ _ _ _ c.no_lines.result (other_offer d engine offer c.args.line.now c.requires (sym c.is_reject_line.ensures.value ∙ c.if-is_reject_line.false)) refl refl
    (c.no_lines.ensures.engine, c.no_lines.ensures.server, c.no_lines.ensures.status)

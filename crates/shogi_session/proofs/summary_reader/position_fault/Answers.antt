use Rattle.std.proofs.Common.{ap, ◌∙◌}
use Rattle.shogi_session.specs.HearingStage.{ended_blocks}
use Rattle.shogi_session.specs.SummaryFaults.{no_position, several_positions, bad_position}
use Rattle.shogi_session.proofs.summary_reader.position_fault.Goals as goal

pub returns-in-Missing : goal.returns-in-Missing
returns-in-Missing c = λ h is. no_position (is ∙ ap ended_blocks c.in-Missing.is)

pub returns-else-is_game : goal.returns-else-is_game
returns-else-is_game c = λ h is. bad_position c.in-One.ended (is ∙ ap ended_blocks c.in-One.is) (c.is_game.ensures.none c.if-is_game.false)

pub returns-in-Several : goal.returns-in-Several
returns-in-Several c = λ h is. several_positions (is ∙ ap ended_blocks c.in-Several.is)

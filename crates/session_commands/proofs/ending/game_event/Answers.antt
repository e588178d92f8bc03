use Rattle.session_commands.specs.Endings.{says_ending, says_reason, says_result}
use Rattle.session_commands.proofs.EndEvents.{none_in_game}
use Rattle.session_setup.proofs.Planning.{unless}
use Rattle.session_commands.proofs.ending.game_event.Goals as goal

pub returns-then-is_ending : goal.returns-then-is_ending
returns-then-is_ending c = says_ending (c.is_ending.ensures.0 c.if-is_ending.true)

pub returns-then-is_reason : goal.returns-then-is_reason
returns-then-is_reason c = says_reason (c.is_reason.ensures.0 c.if-is_reason.true)

pub returns-then-is_result : goal.returns-then-is_result
returns-then-is_result c = says_result (c.is_result.ensures.0 c.if-is_result.true)

pub returns : goal.returns
returns c =
    none_in_game _ _ _ (unless c.is_ending.result c.is_ending.ensures c.if-is_ending.false) (unless c.is_reason.result c.is_reason.ensures c.if-is_reason.false)
    (unless c.is_result.result c.is_result.ensures c.if-is_result.false)

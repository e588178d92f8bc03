use Rattle.record_commands.specs.SystemWords.{numbered}
use Rattle.record_commands.proofs.system_words.without_number.Goals as goal

pub returns-in-Some : goal.returns-in-Some
returns-in-Some c = numbered c.in-Some.field-0-1.now c.in-Some.ensures.cases

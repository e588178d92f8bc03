use Rattle.std.proofs.Common.{rules}
use Rattle.csa_record.proofs.titles.Titles.set_header.Goals as goal

pub put-requires-clause-entry : goal.put-requires-clause-entry
put-requires-clause-entry c = search rules

pub put-requires-clause-new_key : goal.put-requires-clause-new_key
put-requires-clause-new_key c = search rules

pub returns-clause-changed : goal.returns-clause-changed
returns-clause-changed c = search rules

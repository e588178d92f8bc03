use Rattle.session_commands.proofs.log.write_entry.Goals as goal

pub returns-clause-written : goal.returns-clause-written
returns-clause-written g c = (c.in_ok-text.text.items, c.in_ok-text.ensures, rw c.as_slice.ensures.value at c.in_ok-write_all.ensures.bytes)

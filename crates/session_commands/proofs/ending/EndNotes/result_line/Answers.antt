use Rattle.session_commands.proofs.ending.EndNotes.result_line.Goals as goal

pub returns-in-Some : goal.returns-in-Some
returns-in-Some c = rw (← c.self.view_is, c.in-Some.is, ← c.as_str-reason.ensures.value) c.format.ensures.ok

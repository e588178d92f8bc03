use Rattle.std.proofs.Common.{ap, sym, ◌∙◌}
use Rattle.session_commands.specs.Endings.{says_event, says_nothing}
use Rattle.session_commands.specs.Showing.{Showing}
use Rattle.session_commands.proofs.progress.Progress.watch.Goals as goal

pub returns-in_default-clause-ended : goal.returns-in_default-clause-ended
returns-in_default-clause-ended g c = rw (c.keep_line.ensures, sym c.line-line.ensures.value) (says_nothing (λ event says. c.in_default.ensures event says))

pub returns-clause-ended : goal.returns-clause-ended
returns-clause-ended g c =
    let was = ap (λ (s : Showing). s.ended) (c.self.view_is ∙ c.keep_line.ensures) in
    rw (c.keep.ensures, was, sym c.line-line.ensures.value) (says_event c.in-Some.event c.in-Some.ensures)

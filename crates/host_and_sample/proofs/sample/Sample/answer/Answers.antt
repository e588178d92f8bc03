use Rattle.std.proofs.Common.{refl, codes, sym, ◌∙◌, ap}
use Rattle.host_and_sample.specs.Sample as row
use Rattle.host_and_sample.specs.SampleStage.{sample_state_of}
use Rattle.host_and_sample.proofs.Answering.{with_text, go_rows, named, go_row, other_row}
use Rattle.session_lines.proofs.OneLine.{one_text}
use Rattle.host_and_sample.proofs.sample.Sample.answer.Goals as goal

pub returns-in-Usi-clause-row : goal.returns-in-Usi-clause-row
returns-in-Usi-clause-row c =
    let e = sym c.self.view_is ∙ ap sample_state_of c.in-Keeping.is in
    with_text c.greet.result _ _ c.greet.ensures (named _ _ _ _ _ _ e (row.usi c.in-Usi.ensures refl e) refl)

pub returns-in-IsReady-clause-row : goal.returns-in-IsReady-clause-row
returns-in-IsReady-clause-row c =
    let e = sym c.self.view_is ∙ ap sample_state_of c.in-Keeping.is in
    with_text c.one.result _ _ c.one.ensures.value (named _ _ _ _ _ _ e (row.isready c.in-IsReady.ensures refl e) (one_text (codes "readyok")))

pub returns-in_ok-read_game-in-Position-clause-row : goal.returns-in_ok-read_game-in-Position-clause-row
returns-in_ok-read_game-in-Position-clause-row c =
    let e = sym c.self.view_is ∙ ap sample_state_of c.in-Keeping.is in
    named _ _ _ _ _ _ e (row.position _ c.in-Position.ensures c.in_ok-read_game-in-Position.ensures refl refl) c.new-in-Position.ensures.value

pub returns-in-Go-clause-row : goal.returns-in-Go-clause-row
returns-in-Go-clause-row c =
    let e = sym c.self.view_is ∙ ap sample_state_of c.in-Keeping.is in
    go_rows c.best_line.result _ _ c.best_line.ensures (λ t h. go_row _ _ t _ e c.in-Go.ensures h)

pub returns-in-Quit-clause-row : goal.returns-in-Quit-clause-row
returns-in-Quit-clause-row c =
    let e = sym c.self.view_is ∙ ap sample_state_of c.in-Keeping.is in
    named _ _ _ _ _ _ e (row.quits c.in-Quit.ensures refl refl) c.new-in-Quit.ensures.value

pub returns-in-Other-clause-row : goal.returns-in-Other-clause-row
returns-in-Other-clause-row c =
    let e = sym c.self.view_is ∙ ap sample_state_of c.in-Keeping.is in
    other_row _ _ _ _ e c.in-Other.ensures c.new-in-Other.ensures.value

use Rattle.std.proofs.Common.{refl, sym, ap, ◌∙◌}
use Rattle.shogi_session.specs.Phases.{client_of}
use Rattle.shogi_session.proofs.PositionRead.{otherwise}
use Rattle.shogi_session.proofs.ServerRows.{login_refused, login_taken, quiet}
use Rattle.shogi_session.proofs.Unnamed.{other_login}
use Rattle.shogi_session.proofs.server_side.take_login_answer.Goals as goal

pub returns-then-is_login_ok-clause-answer : goal.returns-then-is_login_ok-clause-answer
returns-then-is_login_ok-clause-answer c = λ d engine.
    login_taken d engine _ c.args.line.now c.no_lines.result (ap client_of c.requires) (sym c.is_login_ok.ensures.value ∙ c.if-is_login_ok.true)
    (c.no_lines.ensures.engine, c.no_lines.ensures.server, c.no_lines.ensures.status)

pub returns-then-is_same-clause-answer : goal.returns-then-is_same-clause-answer
returns-then-is_same-clause-answer c = λ d engine.
    login_refused d engine _ _ c.args.line.now c.failed.result (ap client_of c.requires) (c.is_same.ensures.answer.0 c.if-is_same.true) refl
    (c.failed.ensures.engine, c.failed.ensures.server, c.failed.ensures.status)

pub returns-clause-answer : goal.returns-clause-answer
returns-clause-answer c = λ d engine.
    quiet d engine _ _ _ _ c.no_lines-2.result
    (other_login d engine c.args.line.now (sym c.is_login_ok.ensures.value ∙ c.if-is_login_ok.false) (otherwise _ _ c.if-is_same.false c.is_same.ensures.answer)) (ap client_of c.requires) refl
    (c.no_lines-2.ensures.engine, c.no_lines-2.ensures.server, c.no_lines-2.ensures.status)

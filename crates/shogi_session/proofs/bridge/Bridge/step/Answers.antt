use Rattle.std.proofs.Common.{◌∙◌, ap, refl, sym}
use Rattle.bridge_table.specs.Events.{no_lines, trimmed}
use Rattle.bridge_table.specs.Promises.{Session, event_of}
use Rattle.shogi_session.proofs.BridgeRows.{engine_stated, lost, over_row, server_stated, stepped}
use Rattle.shogi_session.proofs.PositionRead.{otherwise}
use Rattle.shogi_session.proofs.bridge.Bridge.step.Goals as goal

pub returns-then-not-is_going-clause-row : goal.returns-then-not-is_going-clause-row
returns-then-not-is_going-clause-row c =
    let same = ap (λ (x : Session). x.state.status) c.self.view_is in
    (no_lines, over_row _ _ _ (trimmed (event_of c.args.event)) refl (λ e. otherwise _ _ c.if-not-is_going.true c.is_going.ensures (same ∙ e)))

pub returns-then-not-is_going-clause-to_engine : goal.returns-then-not-is_going-clause-to_engine
returns-then-not-is_going-clause-to_engine c = λ out row.
    let same = ap (λ (x : Session). x.state.status) c.self.view_is in
    engine_stated _ _ _ (trimmed (event_of c.args.event)) no_lines out _
    (over_row _ _ _ _ refl (λ e. otherwise _ _ c.if-not-is_going.true c.is_going.ensures (same ∙ e))) c.silent.ensures.engine row

pub returns-then-not-is_going-clause-to_server : goal.returns-then-not-is_going-clause-to_server
returns-then-not-is_going-clause-to_server c = λ out row.
    let same = ap (λ (x : Session). x.state.status) c.self.view_is in
    server_stated _ _ _ (trimmed (event_of c.args.event)) no_lines out _
    (over_row _ _ _ _ refl (λ e. otherwise _ _ c.if-not-is_going.true c.is_going.ensures (same ∙ e))) c.silent.ensures.server row

pub returns-in-Ok-clause-to_engine : goal.returns-in-Ok-clause-to_engine
returns-in-Ok-clause-to_engine c = λ out row.
    let s = stepped _ _ _ _ _ _ _ _ (event_of c.args.event) _ (sym c.self.view_is) (c.is_going.ensures.0 c.if-not-is_going.false) refl c.in-Ok.ensures.answer in
    engine_stated _ _ _ (trimmed (event_of c.args.event)) s.out out _ s.row s.engine_text row

pub returns-in-Ok-clause-to_server : goal.returns-in-Ok-clause-to_server
returns-in-Ok-clause-to_server c = λ out row.
    let s = stepped _ _ _ _ _ _ _ _ (event_of c.args.event) _ (sym c.self.view_is) (c.is_going.ensures.0 c.if-not-is_going.false) refl c.in-Ok.ensures.answer in
    server_stated _ _ _ (trimmed (event_of c.args.event)) s.out out _ s.row s.server_text row

pub returns-in-Err-clause-game : goal.returns-in-Err-clause-game
returns-in-Err-clause-game c =
    lost _ _ _ _ _ _ _ _ _ (event_of c.args.event) (sym c.self.view_is) (c.is_going.ensures.0 c.if-not-is_going.false) refl c.in-Err.ensures.answer

pub returns-in-Err-clause-lost : goal.returns-in-Err-clause-lost
returns-in-Err-clause-lost c = search

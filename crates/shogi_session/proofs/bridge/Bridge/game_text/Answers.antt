use Rattle.std.proofs.Common.{ap, sym}
use Rattle.bridge_table.specs.Promises.{Session}
use Rattle.shogi_session.proofs.BridgeRows.{text_none, text_of_offer, text_stated}
use Rattle.shogi_session.proofs.bridge.Bridge.game_text.Goals as goal

pub returns-in_ok-write-in-Agreeing-clause-game : goal.returns-in_ok-write-in-Agreeing-clause-game
returns-in_ok-write-in-Agreeing-clause-game c =
    text_of_offer _ c.self.inside.phase c.in-Agreeing.offer _ (ap (λ (x : Session). x.state.client) (sym c.self.view_is)) c.in-Agreeing.is
    c.in_ok-write-in-Agreeing.ensures.text

pub returns-in_ok-write-in-InGame-clause-game : goal.returns-in_ok-write-in-InGame-clause-game
returns-in_ok-write-in-InGame-clause-game c =
    text_stated _ c.self.inside.phase c.in-InGame.play _ (ap (λ (x : Session). x.state.client) (sym c.self.view_is)) c.in-InGame.is c.self.invariant
    c.in_ok-write-in-InGame.ensures.text

pub returns-in_default-clause-game : goal.returns-in_default-clause-game
returns-in_default-clause-game c = text_none _ c.self.inside.phase (ap (λ (x : Session). x.state.client) (sym c.self.view_is)) c.in_default.not-Agreeing c.in_default.not-InGame

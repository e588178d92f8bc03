use Rattle.std.proofs.Common.{length, ap, sym, ◌∙◌}
use Rattle.std.proofs.lemmas.List.{length-map}
use Rattle.record_game.specs.Game.{move_of}
use Rattle.shogi_rules.specs.Positions.{Played}
use Rattle.bridge_table.specs.Promises.{Session}
use Rattle.shogi_session.proofs.BridgeRows.{moves_of_offer, moves_stated, no_moves}
use Rattle.shogi_session.proofs.bridge.Bridge.moves.Goals as goal

pub returns-in-Agreeing : goal.returns-in-Agreeing
returns-in-Agreeing c =
    moves_of_offer _ c.self.inside.phase c.in-Agreeing.offer _ (ap (λ (x : Session). x.state.client) (sym c.self.view_is)) c.in-Agreeing.is
    (ap length (c.moves.ensures.value ∙ ap (λ (l : Played). l.moves) c.line.ensures.value) ∙ length-map _ move_of)

pub returns-in-InGame : goal.returns-in-InGame
returns-in-InGame c =
    moves_stated _ c.self.inside.phase c.in-InGame.play _ (ap (λ (x : Session). x.state.client) (sym c.self.view_is)) c.in-InGame.is c.self.invariant
    (ap length (c.moves-in-InGame.ensures.value ∙ ap (λ (l : Played). l.moves) c.line-in-InGame.ensures.value) ∙ length-map _ move_of)

pub returns-in_default : goal.returns-in_default
returns-in_default c = no_moves _ c.self.inside.phase (ap (λ (x : Session). x.state.client) (sym c.self.view_is)) c.in_default.not-Agreeing c.in_default.not-InGame

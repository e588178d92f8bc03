use Rattle.std.proofs.Common.{subst, sym}
use Rattle.shogi_session.specs.PositionTexts.{HasCome}
use Rattle.shogi_session.proofs.position_reader.PositionReader.take.Goals as goal

pub invariant_of-result : goal.invariant_of-result
invariant_of-result c =
    subst (λ text. HasCome text c.in_ok-state.state) (sym c.with.ensures) (c.in_ok-state.ensures c.self.inside.text.bytes c.self.invariant)

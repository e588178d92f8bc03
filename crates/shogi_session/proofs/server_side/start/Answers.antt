use Rattle.std.proofs.Common.{◌≡◌, ap, ◌∙◌}
use Rattle.shogi_session.specs.declared.offer.GameOffer.{GameOffer}
use Rattle.shogi_session.specs.declared.phase.Phase.TheVariants.{InGame}
use Rattle.shogi_session.specs.Phases.{begun}
use Rattle.shogi_session.proofs.server_side.start.Goals.{in-Agreeing, in_default}
use Rattle.shogi_session.proofs.server_side.start.Goals as goal

pub returns : goal.returns
returns c = λ o is.
    elim c.match-replace.branch [
      | in-Agreeing w ↦
          let found = w.in-Agreeing.ensures.value in
          let same : w.in-Agreeing.offer ≡ o = cc in
          w.t-8-is ∙ ap (λ (x : GameOffer). InGame (begun x)) same
      | in_default w ↦ absurd (w.in_default.not-Agreeing o (c.replace.ensures.value ∙ is))
    ]

use Rattle.std.proofs.Common.{◌↔◌, IsTrue}
use Rattle.shogi_board.specs.Legal.{Keeps}
use Rattle.shogi_board.proofs.situation.Situation.keeps.Goals as goal

pub returns-in-None : goal.returns-in-None
returns-in-None c =
    let kept : IsTrue c.make.result ↔ Keeps c.self.inside.position c.args.mv.now = (
      λ yes. record { fits = c.in-None.ensures; king_safe = c.make.ensures.safe.0 yes },
      λ keeps. c.make.ensures.safe.1 keeps.king_safe,
    ) in
    record { answer = rw (← c.self.view_is) kept }

use Rattle.std.proofs.Common.{◌≡◌, arith, ◌∙◌, length}
use Rattle.shogi_rules.specs.Positions.{max_moves}
use Rattle.shogi_rules.proofs.Games.{below, denied}
use Rattle.shogi_rules.proofs.line.Line.closed.Goals as goal

pub returns : goal.returns
returns c =
    let eq : c.args.mover ≡ c.side.result = grind arith in
    record {
      few = below _ (length c.args.self.now.moves) max_moves c.is_full.ensures c.if-is_full.false;
      turn = eq ∙ c.side.ensures;
      not_over = denied _ c.is_over.ensures.answer c.if-is_over.false;
    }

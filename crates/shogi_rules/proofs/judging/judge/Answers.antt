use Rattle.std.proofs.Common.{rules, ◌≡◌, arith, inr}
use Rattle.shogi_rules.proofs.Alone.{not-over-alone}
use Rattle.shogi_rules.proofs.Games.{none-legal}
use Rattle.shogi_rules.proofs.judging.judge.Goals as goal

pub returns-clause-first : goal.returns-clause-first
returns-clause-first c =
    let same : c.args.mover ≡ c.args.position.now.side = grind arith in
    inr (same, inr (not-over-alone c.args.position.now, c.broken_by_side.ensures))

pub returns-clause-legal : goal.returns-clause-legal
returns-clause-legal c =
    let same : c.args.mover ≡ c.args.position.now.side = grind arith in
    none-legal c.args.position.now c.args.mover c.args.mv.now c.broken_by_side.result same c.broken_by_side.ensures

pub returns-then-ne-clause-first : goal.returns-then-ne-clause-first
returns-then-ne-clause-first c = search rules

use Rattle.std.proofs.Common.{◌≡◌, ◌-◌, List, sym, ap, length, subst}
use Rattle.shogi_rules.specs.Counting.{AreTurns}
use Rattle.shogi_rules.specs.Positions.{all_of, now_of}
use Rattle.shogi_rules.specs.Repetition.{IsNth}
use Rattle.shogi_rules.specs.declared.seen.Turn.{Turn}
use Rattle.shogi_rules.proofs.repetition.verdict_of_stretch.Goals as goal

pub returns-in-Some : goal.returns-in-Some
returns-in-Some c = λ line seen nth.
    let ps = all_of line in
    let p = now_of line in
    let are : AreTurns ps c.turns-turns.result.now = rw c.turns-turns.ensures seen.turns in
    let fourth : length c.turns-turns.result.now - 1 ≡ length c.args.seen.now.turns - 1 = ap (λ (ts : List Turn). length ts - 1) c.turns-turns.ensures in
    record {
      first = c.first.result;
      fourth = length c.turns-turns.result.now - 1;
      stretch = record { begins = c.first.ensures ps p seen; ends = subst (IsNth ps p 4) (sym fourth) nth };
      alone = c.in-Some.ensures ps are;
    }

pub returns-in-None : goal.returns-in-None
returns-in-None c = λ line seen nth.
    let ps = all_of line in
    let p = now_of line in
    let are : AreTurns ps c.turns-turns.result.now = rw c.turns-turns.ensures seen.turns in
    let fourth : length c.turns-turns.result.now - 1 ≡ length c.args.seen.now.turns - 1 = ap (λ (ts : List Turn). length ts - 1) c.turns-turns.ensures in
    record {
      first = c.first.result;
      fourth = length c.turns-turns.result.now - 1;
      stretch = record { begins = c.first.ensures ps p seen; ends = subst (IsNth ps p 4) (sym fourth) nth };
      nobody_alone = c.in-None.ensures ps are;
    }

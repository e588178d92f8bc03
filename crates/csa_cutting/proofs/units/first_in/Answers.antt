use Rattle.std.proofs.Common.{◌<◌, length, arith, inr, rules}
use Rattle.csa_cutting.proofs.Passing.{unit_found, comment_passed, comment_open, gap_open, gap_between}
use Rattle.csa_cutting.proofs.units.first_in.Goals as goal

pub loop-start-init : goal.loop-start-init
loop-start-init c = record { order = omega arith; within = c.requires; passed = λ place held front low p. p }

pub returns-then-piece-start-ne-COMMENT : goal.returns-then-piece-start-ne-COMMENT
returns-then-piece-start-ne-COMMENT c = λ place held front low p.
    let unit = c.in-Some.ensures in
    let i = c.loop-start.invariant in
    unit_found place held c.args.piece.now front c.loop-start.at c.in-Some.start c.in-Some.end (omega (arith, i.order)) (i.passed place held front low p) unit.0 unit.1 unit.2 (omega (arith, c.if-piece-start-ne-COMMENT.true))

pub returns-then-end-piece : goal.returns-then-end-piece
returns-then-end-piece c = λ place held front low p.
    let unit = c.in-Some.ensures in
    let i = c.loop-start.invariant in
    let passed = comment_open place held c.args.piece.now front c.loop-start.at c.in-Some.start c.in-Some.end (omega (arith, i.order)) (i.passed place held front low p) unit.0 (omega (arith, c.if-end-piece.true)) unit.2 c.if-piece-start-ne-COMMENT.false in
    let some : 0 < length c.args.piece.now = omega (arith, unit.0, unit.1) in
    search (rules, inr, some, passed)

pub loop-start-preserved : goal.loop-start-preserved
loop-start-preserved c =
    let unit = c.in-Some.ensures in
    let i = c.loop-start.invariant in
    let gap = gap_between c.args.piece.now c.loop-start.at c.in-Some.start c.in-Some.end unit.0 unit.1 unit.2 in
    record {
      order = omega (arith, gap.0, unit.0, i.order);
      within = unit.1;
      passed = λ place held front low p.
          comment_passed place held c.args.piece.now front c.loop-start.at c.in-Some.start c.in-Some.end (omega (arith, i.order)) (i.passed place held front low p) unit.0 (omega (arith, c.if-end-piece.false, unit.1)) unit.2 c.if-piece-start-ne-COMMENT.false;
    }

pub returns : goal.returns
returns c = λ place held front low p.
    let i = c.loop-start.invariant in
    gap_open place held c.args.piece.now front c.loop-start.at (omega (arith, i.order)) (i.passed place held front low p) i.within c.in_default.ensures

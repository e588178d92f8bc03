use Rattle.std.proofs.Common.{◌≡◌, subst}
use Rattle.shogi_board.specs.After.{after}
use Rattle.shogi_board.specs.Legal.{Keeps, Mated}
use Rattle.shogi_board.specs.Placed.{Placed}
use Rattle.shogi_board.specs.Rules.{KeepsRule, keeping_rules, IsFirstBroken}
use Rattle.std.specs.Prelude.{Some}
use Rattle.shogi_board.proofs.Broken.{mate-by-side, no-mate, none-by-side, unkept-by-side}
use Rattle.shogi_rules.proofs.judging.broken_by_side.Goals as goal

pub returns-then-mates : goal.returns-then-mates
returns-then-mates c =
    let p = c.args.position.now in
    let keeps : Keeps p c.args.mv.now = rw c.from-next.ensures.0 at c.in_default.ensures.answer in
    let made : c.play.new.self ≡ after p c.args.mv.now = rw c.from-next.ensures.0 at c.in_default.ensures.played in
    let mates = c.mates.ensures.0 c.if-mates.true in
    mate-by-side p c.args.mv.now keeps mates.0 (subst (λ (q : Placed). Mated q) made mates.1)

pub returns-else-mates : goal.returns-else-mates
returns-else-mates c =
    let p = c.args.position.now in
    let keeps : Keeps p c.args.mv.now = rw c.from-next.ensures.0 at c.in_default.ensures.answer in
    let made : c.play.new.self ≡ after p c.args.mv.now = rw c.from-next.ensures.0 at c.in_default.ensures.played in
    none-by-side p c.args.mv.now keeps (no-mate p c.play.new.self c.args.mv.now _ made c.if-mates.false c.mates.ensures)

pub returns-in-Err : goal.returns-in-Err
returns-in-Err c =
    let p = c.args.position.now in
    let broken : IsFirstBroken (KeepsRule p c.args.mv.now) keeping_rules (Some c.in-Err.rule) = rw c.from-next.ensures.0 at c.in-Err.ensures.answer in
    unkept-by-side p c.args.mv.now c.in-Err.rule broken

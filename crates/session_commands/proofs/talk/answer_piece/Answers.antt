use Rattle.std.proofs.Common.{arith, ◌≡◌, ◌-◌, length, take, drop}
use Rattle.std.proofs.lemmas.Grind.{common_steps}
use Rattle.std.proofs.lemmas.Result.{err_from_is_err_and}
use Rattle.session_commands.proofs.Talks.{finishes_at}
use Rattle.session_commands.proofs.talk.answer_piece.Goals as goal

pub returns-in_default : goal.returns-in_default
returns-in_default g c = record {
  talk = λ wire machine pieces t.
      let used = c.loop-used.used in
      let piece = c.args.piece.now in
      let whole : take (length piece - used) (drop used piece) ≡ drop used piece = grind (arith, common_steps) in
      finishes_at g.X.Wire.came g.X.Wire.ends g.X.Wire.went g.X.Wire.silent g.X.Wire.blocked g.M.Machine.answers c.loop-used.cutter c.answer_next.new.cutter (take (length piece - used) (drop used piece)) c.in_ok-more.field-0 c.loop-used.wire c.answer_next.new.wire c.loop-used.machine c.answer_next.new.machine c.in_default.is c.in_ok-more.ensures.next wire machine pieces (rw whole (c.loop-used.invariant.talks wire machine pieces t));
}

pub returns-in_err-more : goal.returns-in_err-more
returns-in_err-more g c = record {
  talk = let used = c.loop-used.used in
      let piece = c.args.piece.now in
      let whole : take (length piece - used) (drop used piece) ≡ drop used piece = grind (arith, common_steps) in
      let next = rw whole at c.in_err-more.ensures.next in
      let p = err_from_is_err_and c.from_residual.result c.from_residual.ensures.1 in
      rw (p.1, p.2) (λ wire machine pieces t. next wire machine pieces (c.loop-used.invariant.talks wire machine pieces t));
}

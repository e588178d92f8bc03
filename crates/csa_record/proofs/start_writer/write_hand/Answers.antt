use Rattle.std.proofs.Common.{arith, ◌∙◌, ap, ◌++◌}
use Rattle.csa_record.proofs.StartText.{line_written}
use Rattle.csa_record.proofs.start_writer.write_hand.Goals as goal

pub returns : goal.returns
returns c =
    line_written c.args.out.now.items c.extend_from_slice.new.self.items c.write_pairs.new.out.items c.push.new.self.items c.args.color c.args.hand
    (λ e. omega (arith, e, c.count_held.ensures, c.if-count_held-eq0.false))
    (c.in_ok-extend_from_slice.ensures.items ∙ ap (λ b. c.args.out.now.items ++ b) c.pieces_head.ensures.bytes)
    c.in_ok-write_pairs.ensures c.in_ok-push.ensures.items

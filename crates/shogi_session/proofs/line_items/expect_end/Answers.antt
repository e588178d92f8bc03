use Rattle.shogi_session.proofs.Nexts.{extra_statement}
use Rattle.shogi_session.proofs.line_items.expect_end.Goals as goal

pub returns-in-Ok-Some : goal.returns-in-Ok-Some
returns-in-Ok-Some c =
    extra_statement c.args.cutter.now c.next_statement.new.self _ _ _
    (record {
      same = c.next_statement.ensures.source;
      out = record {
        first = (rw c.in-Ok-Some.field-0-is at c.in-Ok-Some.ensures.first);
        number_is = (rw c.in-Ok-Some.field-0-is at c.in-Ok-Some.ensures.number);
        counted = (rw c.in-Ok-Some.field-0-is at c.in-Ok-Some.ensures.counted);
        slice = (rw c.in-Ok-Some.field-0-is at c.in-Ok-Some.ensures.bytes);
        short = (rw c.in-Ok-Some.field-0-is at c.in-Ok-Some.ensures.limit);
      };
    })

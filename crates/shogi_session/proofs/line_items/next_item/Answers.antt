use Rattle.std.proofs.lemmas.Result.{err_from_is_err_and}
use Rattle.shogi_session.proofs.Nexts.{next_read, next_unread}
use Rattle.shogi_session.proofs.line_items.next_item.Goals as goal

pub returns-in_ok-read_item-in-Ok-Some : goal.returns-in_ok-read_item-in-Ok-Some
returns-in_ok-read_item-in-Ok-Some c =
    next_read c.args.cutter.now c.next_statement.new.self _ _ _ c.in_ok-read_item-in-Ok-Some.field-0
    (record {
      same = c.next_statement.ensures.source;
      out = record {
        first = (rw c.in-Ok-Some.field-0-is at c.in-Ok-Some.ensures.first);
        number_is = (rw c.in-Ok-Some.field-0-is at c.in-Ok-Some.ensures.number);
        counted = (rw c.in-Ok-Some.field-0-is at c.in-Ok-Some.ensures.counted);
        slice = (rw c.in-Ok-Some.field-0-is at c.in-Ok-Some.ensures.bytes);
        short = (rw c.in-Ok-Some.field-0-is at c.in-Ok-Some.ensures.limit);
      };
    })
    c.in_ok-read_item-in-Ok-Some.ensures.item

pub returns-in_err-read_item-in-Ok-Some : goal.returns-in_err-read_item-in-Ok-Some
returns-in_err-read_item-in-Ok-Some c =
    let p = err_from_is_err_and c.from_residual.result c.from_residual.ensures.1 in
    rw (p.1, p.2)
    (next_unread c.args.cutter.now c.next_statement.new.self _ _ _ c.in_err-read_item-in-Ok-Some.field-0.0
    (record {
      same = c.next_statement.ensures.source;
      out = record {
        first = (rw c.in-Ok-Some.field-0-is at c.in-Ok-Some.ensures.first);
        number_is = (rw c.in-Ok-Some.field-0-is at c.in-Ok-Some.ensures.number);
        counted = (rw c.in-Ok-Some.field-0-is at c.in-Ok-Some.ensures.counted);
        slice = (rw c.in-Ok-Some.field-0-is at c.in-Ok-Some.ensures.bytes);
        short = (rw c.in-Ok-Some.field-0-is at c.in-Ok-Some.ensures.limit);
      };
    })
    c.in_err-read_item-in-Ok-Some.ensures.none c.in_err-read_item-in-Ok-Some.ensures.fault)

use Rattle.session_lines.proofs.OneStatement.{no_statement, long_statement, another_statement, long_after, only_one}
use Rattle.session_lines.proofs.move_line.only_statement.Goals as goal

pub returns-in-Ok-None : goal.returns-in-Ok-None
returns-in-Ok-None c =
    no_statement c.args.line.now c.new-cutter.result
    (record { source = c.new-cutter.ensures.source; at = c.new-cutter.ensures.start; number = c.new-cutter.ensures.number })
    (rw c.in-Ok-None.field-0-is at c.in-Ok-None.ensures.end)

pub returns-in-Err : goal.returns-in-Err
returns-in-Err c =
    long_statement c.args.line.now c.new-cutter.result _ _
    (record { source = c.new-cutter.ensures.source; at = c.new-cutter.ensures.start; number = c.new-cutter.ensures.number })
    c.in-Err.ensures.fault

pub returns-in-Ok-Some-next_statement : goal.returns-in-Ok-Some-next_statement
returns-in-Ok-Some-next_statement c =
    another_statement c.args.line.now c.new-cutter.result c.next_statement.new.self _ _ c.next_statement-2.new.self.at
    (record { source = c.new-cutter.ensures.source; at = c.new-cutter.ensures.start; number = c.new-cutter.ensures.number })
    c.next_statement.ensures.source (rw c.in-Ok-Some.field-0-is at c.in-Ok-Some.ensures.first) (rw c.in-Ok-Some-next_statement.field-0-is at c.in-Ok-Some-next_statement.ensures.first)

pub returns-in-Ok-None-next_statement : goal.returns-in-Ok-None-next_statement
returns-in-Ok-None-next_statement c =
    only_one c.args.line.now c.new-cutter.result c.next_statement.new.self c.in-Ok-Some.statement
    (record { source = c.new-cutter.ensures.source; at = c.new-cutter.ensures.start; number = c.new-cutter.ensures.number })
    c.next_statement.ensures.source
    (record {
      first = (rw c.in-Ok-Some.field-0-is at c.in-Ok-Some.ensures.first);
      number_is = (rw c.in-Ok-Some.field-0-is at c.in-Ok-Some.ensures.number);
      counted = (rw c.in-Ok-Some.field-0-is at c.in-Ok-Some.ensures.counted);
      slice = (rw c.in-Ok-Some.field-0-is at c.in-Ok-Some.ensures.bytes);
      short = (rw c.in-Ok-Some.field-0-is at c.in-Ok-Some.ensures.limit);
    })
    (rw c.in-Ok-None-next_statement.field-0-is at c.in-Ok-None-next_statement.ensures.end)

pub returns-in-Err-next_statement : goal.returns-in-Err-next_statement
returns-in-Err-next_statement c =
    long_after c.args.line.now c.new-cutter.result c.next_statement.new.self _ _ _
    (record { source = c.new-cutter.ensures.source; at = c.new-cutter.ensures.start; number = c.new-cutter.ensures.number })
    c.next_statement.ensures.source (rw c.in-Ok-Some.field-0-is at c.in-Ok-Some.ensures.first) c.in-Err-next_statement.ensures.fault

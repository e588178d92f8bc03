use Rattle.std.proofs.Common.{refl}
use Rattle.shogi_session.specs.PositionTexts.{IsPositionText, SpellsPosition}
use Rattle.shogi_session.proofs.PositionRead.{start_read, read_on, read_less, all_read, another_read, long_read, stated_so, stated_otherwise, otherwise}
use Rattle.shogi_session.proofs.position_text.is_position_text.Goals as goal

pub loop-statement-init : goal.loop-statement-init
loop-statement-init c =
    start_read c.args.text.now c.new-cutter.result
    (record { source = c.new-cutter.ensures.source; at = c.new-cutter.ensures.start; number = c.new-cutter.ensures.number })

pub returns-then-not-spells_position : goal.returns-then-not-spells_position
returns-then-not-spells_position c =
    stated_otherwise (IsPositionText c.args.text.now) (another_read c.args.text.now c.loop-statement.cutter c.next_statement.new.self _ _ _ c.loop-statement.invariant
    (record {
      same = c.next_statement.ensures.source;
      out = record {
        first = (rw c.in-Ok-Some.field-0-is at c.in-Ok-Some.ensures.first);
        number_is = (rw c.in-Ok-Some.field-0-is at c.in-Ok-Some.ensures.number);
        counted = (rw c.in-Ok-Some.field-0-is at c.in-Ok-Some.ensures.counted);
        slice = (rw c.in-Ok-Some.field-0-is at c.in-Ok-Some.ensures.bytes);
        short = (rw c.in-Ok-Some.field-0-is at c.in-Ok-Some.ensures.limit);
      };
    })
    (otherwise c.spells_position.result (SpellsPosition c.in-Ok-Some.statement.bytes.now) c.if-not-spells_position.true c.spells_position.ensures))

pub loop-statement-smaller : goal.loop-statement-smaller
loop-statement-smaller c =
    read_less c.args.text.now c.loop-statement.cutter c.next_statement.new.self _ _ _ c.loop-statement.invariant
    (record {
      same = c.next_statement.ensures.source;
      out = record {
        first = (rw c.in-Ok-Some.field-0-is at c.in-Ok-Some.ensures.first);
        number_is = (rw c.in-Ok-Some.field-0-is at c.in-Ok-Some.ensures.number);
        counted = (rw c.in-Ok-Some.field-0-is at c.in-Ok-Some.ensures.counted);
        slice = (rw c.in-Ok-Some.field-0-is at c.in-Ok-Some.ensures.bytes);
        short = (rw c.in-Ok-Some.field-0-is at c.in-Ok-Some.ensures.limit);
      };
    })

pub loop-statement-preserved : goal.loop-statement-preserved
loop-statement-preserved c =
    read_on c.args.text.now c.loop-statement.cutter c.next_statement.new.self _ _ _ c.loop-statement.invariant
    (record {
      same = c.next_statement.ensures.source;
      out = record {
        first = (rw c.in-Ok-Some.field-0-is at c.in-Ok-Some.ensures.first);
        number_is = (rw c.in-Ok-Some.field-0-is at c.in-Ok-Some.ensures.number);
        counted = (rw c.in-Ok-Some.field-0-is at c.in-Ok-Some.ensures.counted);
        slice = (rw c.in-Ok-Some.field-0-is at c.in-Ok-Some.ensures.bytes);
        short = (rw c.in-Ok-Some.field-0-is at c.in-Ok-Some.ensures.limit);
      };
    })
    (c.if-not-spells_position.ensures.0 refl)

pub returns-in-Ok-None : goal.returns-in-Ok-None
returns-in-Ok-None c =
    stated_so (IsPositionText c.args.text.now)
    (all_read c.args.text.now c.loop-statement.cutter c.loop-statement.invariant (rw c.in-Ok-None.field-0-is at c.in-Ok-None.ensures.end))

pub returns-in-Err : goal.returns-in-Err
returns-in-Err c =
    stated_otherwise (IsPositionText c.args.text.now)
    (long_read c.args.text.now c.loop-statement.cutter _ _ c.loop-statement.invariant c.in-Err.ensures.fault)

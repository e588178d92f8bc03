use Rattle.std.proofs.Common.{inl, inr}
use Rattle.shogi_session.proofs.ServerReads.{nothing_said, no_ending, no_last_time, then_last}
use Rattle.csa_text.specs.Saying.{ending}
use Rattle.shogi_session.proofs.server_lines.read_server_ending.Goals as goal

pub returns-in-Err : goal.returns-in-Err
returns-in-Err c =
    elim c.in-Err.ensures [
      | inl end ↦ nothing_said c.args.line.now c.new-cutter.result
          (record { source = c.new-cutter.ensures.source; at = c.new-cutter.ensures.start; number = c.new-cutter.ensures.number })
          end
      | inr at ↦ no_ending c.args.line.now c.new-cutter.result c.in-Err.field-0
          (record { source = c.new-cutter.ensures.source; at = c.new-cutter.ensures.start; number = c.new-cutter.ensures.number })
          at
    ]

pub returns-in-Ok-last_time : goal.returns-in-Ok-last_time
returns-in-Ok-last_time c =
    then_last c.args.line.now c.new-cutter.result c.next_ending.new.cutter c.in-Ok.ensures.0 (ending c.in-Ok.stated) c.in-Ok-last_time.time
    (record { source = c.new-cutter.ensures.source; at = c.new-cutter.ensures.start; number = c.new-cutter.ensures.number })
    c.in-Ok.ensures.1 c.in-Ok.ensures.2 c.in-Ok-last_time.ensures

pub returns-in-Err-last_time : goal.returns-in-Err-last_time
returns-in-Err-last_time c =
    no_last_time c.args.line.now c.new-cutter.result c.next_ending.new.cutter c.in-Ok.ensures.0 c.in-Err-last_time.field-0
    (record { source = c.new-cutter.ensures.source; at = c.new-cutter.ensures.start; number = c.new-cutter.ensures.number })
    c.in-Ok.ensures.2 c.in-Err-last_time.ensures

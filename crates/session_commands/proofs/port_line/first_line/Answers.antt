use Rattle.std.proofs.Common.{inl}
use Rattle.session_commands.proofs.Porting.{missing_first, other_first, port_first}
use Rattle.session_commands.proofs.port_line.first_line.Goals as goal

pub returns-in-Some : goal.returns-in-Some
returns-in-Some g c = record {
  first = port_first c.args.lines.now c.read_line.new.self c.line.result.now c.port_of.result c.in-Some.port c.in-Some.is c.line.ensures.value (c.in_ok-read_line.ensures.line c.in-Line.is) c.port_of.ensures;
}

pub returns-in-None : goal.returns-in-None
returns-in-None g c = record {
  first = other_first c.args.lines.now c.read_line.new.self c.line.result.now c.port_of.result c.in-None.is c.line.ensures.value (c.in_ok-read_line.ensures.line c.in-Line.is) (c.in_ok-read_line.ensures.short c.in-Line.is) c.port_of.ensures;
}

pub returns-in-Long : goal.returns-in-Long
returns-in-Long g c = record { first = c.in_ok-read_line.ensures.long c.in-Long.is }

pub returns-in-End : goal.returns-in-End
returns-in-End g c = record { first = inl (c.in_ok-read_line.ensures.end c.in-End.is) }

pub returns-in-Failed : goal.returns-in-Failed
returns-in-Failed g c = record {
  first = missing_first c.args.lines.now c.read_line.new.self (c.in_ok-read_line.ensures.failed c.in-Failed.is) (rw c.in-Failed.is at c.in_ok-read_line.ensures.over);
}

use Rattle.session_lines.proofs.MoveRead.{no_move, move_of}
use Rattle.session_lines.proofs.move_line.read_move_line.Goals as goal

pub returns-in-Ok : goal.returns-in-Ok
returns-in-Ok c = record { stated = move_of c.args.line.now c.in-Some.statement.now _ c.walked_of.result c.in-Some.ensures c.in-Ok.ensures.item c.walked_of.ensures.stated }

pub returns-in-Err : goal.returns-in-Err
returns-in-Err c = record { stated = no_move c.args.line.now c.in-Some.statement.now c.in-Some.ensures c.in-Err.ensures.none }

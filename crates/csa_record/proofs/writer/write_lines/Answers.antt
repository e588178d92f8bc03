use Rattle.csa_record.proofs.Written.{lines_written}
use Rattle.csa_record.proofs.writer.write_lines.Goals as goal

pub returns : goal.returns
returns c =
    lines_written c.args.game.now c.line.result.now c.start-start.result c.side.result c.course.result.now c.args.text.now.items _ _ _ _
    c.line.ensures.value c.start-start.ensures.value c.side.ensures.value c.course.ensures.value
    c.in_ok-write_titles.ensures c.in_ok-write_start.ensures c.in_ok-write_side.ensures c.in_ok-write_moves.ensures

use Rattle.csa_record.proofs.Courses.{not_played}
use Rattle.csa_record.proofs.course.play_on.Goals as goal

pub returns-in-Err-clause-err : goal.returns-in-Err-clause-err
returns-in-Err-clause-err c =
    not_played c.args.line.now c.args.color c.args.mv c.in-Err.fault c.in-Err.ensures.answer c.from.result c.from.ensures

use Rattle.std.proofs.Common.{◌≡◌, None, length, replicate, List, ap, ◌∙◌}
use Rattle.shogi_board.specs.declared.moves.Move.{Move}
use Rattle.csa_record.proofs.Timing.{none_only}
use Rattle.csa_record.proofs.Courses.{kept_untimed, course_untimed}
use Rattle.csa_record.proofs.course.Course.from_line.Goals as goal

all_none : (c : goal.In-Ok) → c.in-Ok.times.items ≡ replicate (length c.args.line.moves) None
all_none c =
    c.in-Ok.ensures.items_if_clones_equal (none_only _ (λ n h. h))
    ∙ ap (λ (ms : List Move). replicate (length ms) None) c.moves.ensures.value

pub invariant_of-result : goal.invariant_of-result
invariant_of-result c =
    kept_untimed c.args.line c.in-Ok.times.items (all_none c) c.moves.ensures.sound c.moves.ensures.game c.moves.ensures.few

pub returns-in-Ok-clause-ok : goal.returns-in-Ok-clause-ok
returns-in-Ok-clause-ok c = course_untimed c.args.line c.in-Ok.times.items (all_none c)

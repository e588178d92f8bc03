use Rattle.std.proofs.Common.{◌≡◌, [], lit≤, refl}
use Rattle.shogi_rules.specs.Positions.{Played, begun}
use Rattle.csa_record.proofs.Courses.{kept_untimed}
use Rattle.csa_record.proofs.course.Course.new.Goals as goal

pub invariant_of-result : goal.invariant_of-result
invariant_of-result c =
    let line : Played = record { start = c.args.start; moves = [] } in
    rw (c.in_ok-new.ensures.line, c.in_ok-with_capacity.ensures.items) (kept_untimed line [] refl c.in_ok-new.ensures.sound begun (lit≤ tt))

use Rattle.session_commands.proofs.Holding.{handed_is_held}
use Rattle.session_commands.proofs.laws.sent_lines_are_held.Goals as goal

pub returns : goal.returns
returns g c = record {
  held =
      let laws = g.met.E.Ends in
      handed_is_held g.E.Ends.held g.E.Ends.came g.E.Ends.went g.E.Ends.gone laws.takes_lines laws.went_keeps laws.gone_keeps laws.came_keeps;
}

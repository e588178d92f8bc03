use Rattle.session_lines.specs.LineTexts as texts
use Rattle.host_and_sample.proofs.HostLines.{five_lines, on_ok}
use Rattle.host_and_sample.proofs.login.push_position.Goals as goal

pub returns : goal.returns
returns c =
    on_ok c.push.result _ _ _ c.push.ensures.added
    (rw (c.in_ok-push_two-2.ensures.added, c.in_ok-push_two.ensures.added)
    (five_lines c.args.lines.now texts.begin_position texts.even_start texts.black texts.end_position texts.end_summary))

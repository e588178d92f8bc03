use Rattle.std.proofs.Common.{codes, ◌++◌}
use Rattle.host_and_sample.proofs.HostLines.{on_ok, two_lines}
use Rattle.host_and_sample.proofs.login.push_head.Goals as goal

pub returns : goal.returns
returns c =
    on_ok c.push_joined.result _ _ _ c.push_joined.ensures.added
    (rw (c.in_ok-push.ensures.added, c.as_bytes.ensures.value, c.as_str.ensures.value)
    (two_lines c.args.lines.now (codes "BEGIN Game_Summary") (codes "Game_ID:" ++ c.args.config.now.id.bytes)))

use Rattle.std.proofs.Common.{codes, ◌++◌}
use Rattle.host_and_sample.proofs.HostLines.{on_ok, two_lines}
use Rattle.host_and_sample.proofs.login.push_names.Goals as goal

pub returns-in_ok-push_joined-in-Black : goal.returns-in_ok-push_joined-in-Black
returns-in_ok-push_joined-in-Black c =
    on_ok c.push_joined-in-Black.result _ _ _ c.push_joined-in-Black.ensures.added
    (rw (c.in_ok-push_joined-in-Black.ensures.added, c.in-Black.is, c.as_bytes-host.ensures.value, c.as_str.ensures.value)
    (two_lines c.args.lines.now (codes "Name+:" ++ c.args.name.now) (codes "Name-:" ++ c.args.config.now.name.bytes)))

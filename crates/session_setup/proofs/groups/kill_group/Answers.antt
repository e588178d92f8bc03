use Rattle.std.proofs.Common.{rules, ◌≡◌, codes}
use Rattle.std.specs.Process.{command_args, command_program}
use Rattle.session_setup.specs.Starting.{kill_words}
use Rattle.session_setup.proofs.groups.kill_group.Goals as goal

pub returns : goal.returns
returns g c =
    let program : command_program c.hide_password.new.command ≡ codes "kill" = search rules in
    let words : command_args c.hide_password.new.command ≡ kill_words c.id.result = search rules in
    (c.id.result, rw (program, words) at c.run_to_its_end.ensures)

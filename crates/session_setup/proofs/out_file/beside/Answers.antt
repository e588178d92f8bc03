use Rattle.std.proofs.Common.{string_bytes}
use Rattle.session_setup.proofs.Replacing.{in_folder_if_ok, without_folder_if_ok}
use Rattle.session_setup.proofs.out_file.beside.Goals as goal

pub returns-in-Some : goal.returns-in-Some
returns-in-Some c =
    in_folder_if_ok string_bytes c.args.number c.args.target.now c.in-Some.folder.now c.in-Some.field-0-1.now c.format.result c.in-Some.ensures.cases c.format.ensures.ok

pub returns-in-None : goal.returns-in-None
returns-in-None c = without_folder_if_ok string_bytes c.args.number c.args.target.now c.format-in-None.result c.in-None.ensures.cases c.format-in-None.ensures.ok

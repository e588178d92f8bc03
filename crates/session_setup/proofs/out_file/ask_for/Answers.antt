use Rattle.std.proofs.Common.{refl}
use Rattle.std.specs.Prelude.{is_ok}
use Rattle.session_setup.proofs.out_file.ask_for.Goals as goal

pub returns-in-Some : goal.returns-in-Some
returns-in-Some g c = rw c.in-Some.is (is_ok c.permit.result, c.permit.ensures.act)

pub returns-in_default : goal.returns-in_default
returns-in_default g c = rw c.in_default.is refl

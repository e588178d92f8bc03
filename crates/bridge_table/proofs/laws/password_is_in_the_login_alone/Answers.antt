use Rattle.bridge_table.proofs.Passwords.{login_alone}
use Rattle.bridge_table.proofs.laws.password_is_in_the_login_alone.Goals as goal

pub returns : goal.returns
returns c = record { login = login_alone }

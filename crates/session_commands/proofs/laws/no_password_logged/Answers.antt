use Rattle.session_commands.proofs.LogTexts.{login_shown, same_front, same_log}
use Rattle.session_commands.proofs.OtherPasswords.{other_password, other_password_out_of_memory}
use Rattle.session_commands.proofs.laws.no_password_logged.Goals as goal

pub returns : goal.returns
returns g c = record {
  login = login_shown;
  session = other_password g.E.Ends.came g.E.Ends.went g.E.Ends.gone c.password_is_in_the_login_alone.ensures.login;
  out_of_memory = other_password_out_of_memory g.E.Ends.came g.E.Ends.missed g.E.Ends.went g.E.Ends.gone c.password_is_in_the_login_alone.ensures.login;
  log = same_log g.T.Timer.shows;
  cut = same_front g.T.Timer.shows;
}

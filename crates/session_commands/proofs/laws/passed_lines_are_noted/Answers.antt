use Rattle.session_commands.proofs.Logging.{history_noted, lack_noted}
use Rattle.session_commands.proofs.laws.passed_lines_are_noted.Goals as goal

pub returns : goal.returns
returns g c = record {
  noted = λ e s f t status played.
      history_noted (λ x. x.1) g.L.Log.noted _ _ _ (λ a b peer event came. came.1) (λ a b peer lines went. went.1) (λ a b peer lines gone. gone.1) e s f t status played;
  out_of_memory = λ e s f t lack.
      lack_noted (λ x. x.1) g.L.Log.noted _ _ _ _ (λ a b peer event came. came.1) (λ a b peer missed. missed.1) (λ a b peer lines went. went.1) (λ a b peer lines gone. gone.1) e s f t lack;
}

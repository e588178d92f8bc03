-- What is shown of the end of a game.
use Rattle.std.proofs.Common.{◌≡◌, ◌++◌, ◌∷◌, [], ℕ, List, Result, Ok, Err, IfOk}
use Rattle.std.specs.Prelude.{codes}
use Rattle.std.specs.Str.Pattern.{FindsText, SplitsAroundMatch}
use Rattle.session_commands.specs.Showing.{IsShownEnding, with_seconds}

pub seconds_shown : {X E : Type 0} (bytes : X → List ℕ) (line ending seconds : List ℕ) (r : Result X E)
    → SplitsAroundMatch (FindsText (codes ",T")) line ending seconds
    → IfOk r (λ x. bytes x ≡ ending ++ (codes " " ++ (seconds ++ 10 ∷ []))) → IfOk r (λ x. IsShownEnding line (bytes x))
seconds_shown bytes line ending seconds (Ok x) splits is = with_seconds ending seconds splits is
seconds_shown bytes line ending seconds (Err e) splits is = tt

use Rattle.std.proofs.Common.{◌≡◌, ◌++◌, ◌∷◌, [], IfOk, rules, string_bytes}
use Rattle.std.specs.Prelude.{codes}
use Rattle.session_commands.proofs.Shown.{seconds_shown}
use Rattle.session_commands.proofs.progress.shown_ending.Goals as goal

pub returns-in-Some : goal.returns-in-Some
returns-in-Some c =
    let said : IfOk c.format.result (λ text. string_bytes text ≡ c.in-Some.ending.now ++ (codes " " ++ (c.in-Some.seconds.now ++ 10 ∷ []))) = search rules in
    seconds_shown string_bytes c.args.line.now c.in-Some.ending.now c.in-Some.seconds.now c.format.result c.in-Some.ensures.cases said

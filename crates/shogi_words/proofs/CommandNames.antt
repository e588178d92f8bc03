-- The names of commands.
use Rattle.std.proofs.Common.{◌≡◌, ℕ, List, [], ◌∷◌, ◌++◌, Result, Ok, Err, refl, ap, ◌∙◌}
use Rattle.std.specs.Prelude.{IfOk}
use Rattle.clap.specs.declared.builder.command.Command.{Command}
use Rattle.clap.specs.declared.builder.arg.Arg.{Arg}
use Rattle.clap.specs.Words.{AddsArg, AddsSubcommand, app_of, names_in, shape_of, subcommand_names}

-- an argument leaves a command its name
pub keeps_name : (old new : Command) (a : Arg) (n : List ℕ) → AddsArg old a new → (app_of old).top.name ≡ n → (app_of new).top.name ≡ n
keeps_name old new a n adds is = adds.names.0 ∙ is

pub adds_name : {E : Type 0} (r : Result Command E) (old : Command) (a : Arg) (n : List ℕ) → IfOk r (λ new. AddsArg old a new) → (app_of old).top.name ≡ n
    → IfOk r (λ new. (app_of new).top.name ≡ n)
adds_name (Ok new) old a n adds is = keeps_name old new a n adds is
adds_name (Err fault) old a n adds is = adds

names_append : (xs : List Command) (x : Command) → names_in (xs ++ x ∷ []) ≡ names_in xs ++ (shape_of x).name ∷ []
names_append [] x = refl
names_append (y ∷ ys) x = ap (λ names. (shape_of y).name ∷ names) (names_append ys x)

-- a command follows those before it
pub adds_command : (old sub new : Command) (n : List ℕ) (names : List (List ℕ)) → AddsSubcommand old sub new → (app_of sub).top.name ≡ n
    → subcommand_names old ≡ names → subcommand_names new ≡ names ++ n ∷ []
adds_command old sub new n names adds is before =
    ap names_in adds.subcommands
    ∙ (names_append _ adds.added
    ∙ (ap (λ m. subcommand_names old ++ m.now ∷ []) adds.name
    ∙ (ap (λ m. subcommand_names old ++ m ∷ []) is ∙ ap (λ ms. ms ++ n ∷ []) before)))

pub adds_last_command : {E : Type 0} (r : Result Command E) (old sub : Command) (n : List ℕ) (names : List (List ℕ)) → IfOk r (λ new. AddsSubcommand old sub new)
    → (app_of sub).top.name ≡ n → subcommand_names old ≡ names → IfOk r (λ new. subcommand_names new ≡ names ++ n ∷ [])
adds_last_command (Ok new) old sub n names adds is before = adds_command old sub new n names adds is before
adds_last_command (Err fault) old sub n names adds is before = adds

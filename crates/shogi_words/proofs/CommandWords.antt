-- The words that commands take.
use Rattle.std.proofs.Common.{◌≡◌, ℕ, List, [], ◌∷◌, ◌++◌, Bool, true, false, Result, Ok, Err, refl, ap, ◌∙◌, arith}
use Rattle.std.specs.Prelude.{◌&&◌, IfOk, not}
use Rattle.std.proofs.lemmas.Grind.{common_steps}
use Rattle.std.specs.Borrow.{Bor}
use Rattle.clap.specs.declared.builder.arg.Arg.{Arg}
use Rattle.clap.specs.declared.builder.command.Command.{Command}
use Rattle.clap.specs.Walk.{is_empty, is_free_arg}
use Rattle.clap.specs.Words.{AddsArg, AddsRequiredUnless, App, Rule, app_of, rule_of, with_rule}
use Rattle.shogi_words.specs.Options.{files_rule}

-- an argument that is not global adds its rule
pub adds_rule : (old new : Command) (a : Arg) (app : App) (rule : Rule) → AddsArg old a new → a.global ≡ false → rule_of a ≡ rule → app_of old ≡ app → app_of new ≡ with_rule app rule
adds_rule old new a app rule adds local is before = adds.shape local ∙ (ap (λ r. with_rule (app_of old) r) is ∙ ap (λ x. with_rule x rule) before)

pub adds_last_rule : {E : Type 0} (r : Result Command E) (old : Command) (a : Arg) (app : App) (rule : Rule) → IfOk r (λ new. AddsArg old a new) → a.global ≡ false → rule_of a ≡ rule → app_of old ≡ app
    → IfOk r (λ new. app_of new ≡ with_rule app rule)
adds_last_rule (Ok new) old a app rule adds local is before = adds_rule old new a app rule adds local is before
adds_last_rule (Err fault) old a app rule adds local is before = adds

-- ---- FILE of `same`

none_of_six : (a b c d e f : Bool) → (a && (b && (c && (d && (e && (false && f)))))) ≡ false
none_of_six false b c d e f = refl
none_of_six true false c d e f = refl
none_of_six true true false d e f = refl
none_of_six true true true false e f = refl
none_of_six true true true true false f = refl
none_of_six true true true true true f = refl

not_free : (a : Arg) → is_empty a.r_unless.items ≡ false → is_free_arg a ≡ false
not_free a h = rw h (none_of_six (not a.exclusive) (is_empty a.conflicts.items) (is_empty a.needs.items) (is_empty a.r_ifs.items) (is_empty a.r_ifs_all.items) (is_empty a.r_unless_all.items))

some_item : (xs : List (Bor (List ℕ))) (x : Bor (List ℕ)) → is_empty (xs ++ x ∷ []) ≡ false
some_item [] x = refl
some_item (y ∷ ys) x = grind (arith, common_steps)

pub compared_rule : (old new : Arg) (x : Bor (List ℕ)) → AddsRequiredUnless old new (x ∷ []) → rule_of old ≡ files_rule → rule_of new ≡ record files_rule { is_free = false }
compared_rule old new x adds is =
    let bound : is_free_arg new ≡ false = not_free new (ap is_empty adds.1 ∙ some_item old.r_unless.items x) in
    let same : rule_of new ≡ record (rule_of old) { is_free = is_free_arg new } = ap (λ (a : Arg). record (rule_of a) { is_free = is_free_arg new }) adds.0 in
    same ∙ (ap (λ b. record (rule_of old) { is_free = b }) bound ∙ ap (λ (r : Rule). record r { is_free = false }) is)

pub compared_local : (old new : Arg) (xs : List (Bor (List ℕ))) → AddsRequiredUnless old new xs → old.global ≡ false → new.global ≡ false
compared_local old new xs adds is = ap (λ (a : Arg). a.global) adds.0 ∙ is

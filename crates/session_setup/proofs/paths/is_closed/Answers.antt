use Rattle.std.proofs.Common.{◌++◌, ◌∷◌, [], ◌≡◌, ◌∙◌, ap, nat_eq, sym, ℕ}
use Rattle.std.proofs.lemmas.Bool.Decides.{Decides-eqb}
use Rattle.std.proofs.lemmas.List.{append_cancel_right}
use Rattle.std.proofs.lemmas.Slice.Eq.{strip_suffix_is}
use Rattle.session_setup.proofs.Addresses.{some_of}
use Rattle.session_setup.proofs.paths.is_closed.Goals as goal

pub returns-in-Some : goal.returns-in-Some
returns-in-Some c =
    let ends = strip_suffix_is {A = ℕ} {E = nat_eq} Decides-eqb c.args.bytes.now c.as_slice.result.now c.strip_suffix.result c.strip_suffix.ensures.cases in
    let is : c.args.bytes.now ≡ c.in-Some.inside.now ++ 93 ∷ [] = rw (c.in-Some.is, c.as_slice.ensures) at ends in
    let some = some_of c.in-Some.inside.now c.is_empty.result c.is_empty.ensures in (
      λ t. (c.in-Some.inside.now, some.0 t, ap (λ l. 91 ∷ l) is),
      λ has.
          some.1 (λ none. has.1 (let rest : c.args.bytes.now ≡ has.0 ++ 93 ∷ [] = cc in append_cancel_right has.0 c.in-Some.inside.now (93 ∷ []) (sym rest ∙ is) ∙ none)),
    )

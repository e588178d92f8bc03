use Rattle.std.proofs.Common.{◌++◌, ◌∙◌, ap, nat_eq, sym, ℕ}
use Rattle.std.proofs.lemmas.Bool.Decides.{Decides-eqb}
use Rattle.std.proofs.lemmas.List.{append_cancel_right}
use Rattle.std.proofs.lemmas.Slice.Eq.{slice_eq-Decides, strip_suffix_is}
use Rattle.session_setup.proofs.paths.is_beside.Goals as goal

pub returns-in-Some : goal.returns-in-Some
returns-in-Some c =
    let ends = strip_suffix_is {A = ℕ} {E = nat_eq} Decides-eqb c.as_bytes.result.now c.as_bytes-2.result.now c.strip_suffix.result c.strip_suffix.ensures.cases in
    let is = rw (c.in-Some.is, c.as_bytes.ensures.value, c.as_bytes-2.ensures.value) at ends in
    let equal = slice_eq-Decides {A = ℕ} {E = nat_eq} Decides-eqb c.in-Some.front.now c.as_bytes-in-Some.result.now c.eq.result c.eq.ensures in
    let same = rw c.as_bytes-in-Some.ensures.value at equal in
    (λ t. is ∙ ap (λ l. l ++ c.args.ending.now) (same.0 t), λ e. same.1 (append_cancel_right c.in-Some.front.now c.args.log.now c.args.ending.now (sym is ∙ e)))

pub returns-in-None : goal.returns-in-None
returns-in-None c =
    let ends = strip_suffix_is {A = ℕ} {E = nat_eq} Decides-eqb c.as_bytes.result.now c.as_bytes-2.result.now c.strip_suffix.result c.strip_suffix.ensures.cases in
    let none = rw (c.in-None.is, c.as_bytes.ensures.value, c.as_bytes-2.ensures.value) at ends in
    (λ t. absurd cc, λ e. absurd (none c.args.log.now e))

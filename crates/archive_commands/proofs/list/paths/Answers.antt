use Rattle.std.proofs.Common.{◌≡◌, ◌∙◌, refl, Contains, ◌∷◌, ap, sym, subst, ◌++◌}
use Rattle.std.proofs.lemmas.List.{append_assoc}
use Rattle.archive_commands.specs.Lists.{Lists, items_of, path_in}
use Rattle.archive_commands.proofs.Listing.{last_part, more_parts}
use Rattle.archive_commands.proofs.list.paths.Goals as goal

pub loop-part-preserved : goal.loop-part-preserved
loop-part-preserved c =
    let end = c.args.end in
    let part = c.in-Some.part.now in
    λ more lists.
    subst (λ ps. Lists end c.args.list.now ps) (sym (ap (λ ps. ps ++ more) c.in_ok-keep.ensures ∙ append_assoc (items_of c.loop-part.paths.items) (path_in end part) more))
    (c.loop-part.invariant (path_in end part ++ more)
    (more_parts end c.loop-part.rest.now part c.in-Some.after.now more (subst (λ e. c.loop-part.rest.now ≡ part ++ e ∷ c.in-Some.after.now) c.end_byte.ensures c.in-Some.ensures.parts.0)
    (subst (λ e. Contains part e → ⊥) c.end_byte.ensures c.in-Some.ensures.parts.1) lists))

pub returns : goal.returns
returns c =
    let end = c.args.end in
    subst (λ ps. Lists end c.args.list.now ps) (sym c.in_ok-keep-2.ensures)
    (c.loop-part.invariant (path_in end c.loop-part.rest.now) (last_part end c.loop-part.rest.now
    (subst (λ e. Contains c.loop-part.rest.now e → ⊥) c.end_byte.ensures (c.in_default.ensures.whole refl))))

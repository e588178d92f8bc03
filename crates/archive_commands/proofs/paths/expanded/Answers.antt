use Rattle.std.proofs.Common.{[], subst}
use Rattle.archive_commands.specs.Lists.{items_of}
use Rattle.archive_commands.specs.Paths.{AreAdded, names_of}
use Rattle.archive_commands.proofs.Expanding.{both_added}
use Rattle.archive_commands.proofs.paths.expanded.Goals as goal

pub returns : goal.returns
returns g c =
    let Stands = g.F.Folders.stands_for c.args.folders.now in
    let names = names_of c.args.files.now in
    let mid = c.add_named.new.paths.items in
    both_added Stands names (items_of c.args.listed.now) [] mid c.add_listed.new.paths.items
    (subst (λ old. AreAdded Stands names old mid) c.new-paths.ensures.items c.in_ok-add_named.ensures) c.in_ok-add_listed.ensures

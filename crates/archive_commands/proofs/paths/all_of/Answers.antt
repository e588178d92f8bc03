use Rattle.std.proofs.Common.{[], ◌++◌, subst}
use Rattle.archive_commands.specs.Lists.{items_of}
use Rattle.archive_commands.specs.Paths.{AreAdded, names_of}
use Rattle.archive_commands.proofs.paths.all_of.Goals as goal

pub returns-in-Ok : goal.returns-in-Ok
returns-in-Ok g c =
    let Stands = g.F.Folders.stands_for c.args.folders.now in
    let names = names_of c.named_files.result.now in
    let added = subst (λ listed. AreAdded Stands (names ++ items_of listed) [] c.in-Ok.paths.items) c.as_slice.ensures.value c.in-Ok.ensures in
    let listed = items_of c.in_ok-listed.listed.items in
    record {
      paths = (
        listed,
        c.in_ok-listed.ensures.paths,
        subst (λ named. AreAdded Stands (named ++ listed) [] c.in-Ok.paths.items) c.named_files.ensures added,
      );
    }

use Rattle.std.proofs.Common.{◌≡◌, ◌<◌, ◌∙◌, ap, inr, length, subst, sym}
use Rattle.std.proofs.lemmas.List.{length-map}
use Rattle.std.specs.Io.KnownBytes.{Appends}
use Rattle.std.specs.Prelude.{All}
use Rattle.archive_commands.specs.Lists.{items_of}
use Rattle.archive_commands.specs.ManyPrinted.{no_file}
use Rattle.archive_commands.specs.SameGroups.{AreGroups, StopsGroups, StopsPrinting, group_lines, tally_from}
use Rattle.archive_commands.proofs.Printing.{members_within}
use Rattle.record_commands.proofs.Converting.{returned}
use Rattle.game_archive.specs.Alike.{GiveBytes}
use Rattle.game_archive.specs.Listing.{ListsShared}
use Rattle.archive_commands.proofs.same.print_same.Goals as goal

pub print_groups-requires : goal.print_groups-requires
print_groups-requires g c =
    let files = length c.args.paths.now in
    let whole : length c.as_slice-2.result.now ≡ files = ap length c.as_slice-2.ensures.value ∙ (c.in-Ok.ensures.whole ∙ c.requires.whole) in
    record {
      within = subst (All (λ member. member.1 < files)) (sym c.as_slice-3.ensures.value)
          (members_within c.as_slice-2.result.now c.in-Ok-copies.members.items files whole c.in-Ok-copies.ensures.members);
    }

pub returns-clause-printed : goal.returns-clause-printed
returns-clause-printed g c =
    let paths = items_of c.args.paths.now in
    let members = c.in-Ok-copies.members.items in
    let files : length paths ≡ length c.args.paths.now = length-map c.args.paths.now (λ p. p.items) in
    let size : g.A.Archive.size c.args.archive.now ≡ length paths = c.requires.whole ∙ sym files in
    record {
      placings = c.in-Ok.placings.items;
      members = members;
      groups = record {
        whole = c.in-Ok.ensures.whole ∙ size;
        grouped = λ bytes gives. c.in-Ok.ensures.grouped bytes (subst (λ n. GiveBytes n (g.A.Archive.reads c.args.archive.now) bytes) (sym size) gives);
        causes = c.in-Ok.ensures.causes;
        counted = c.in-Ok.ensures.counted;
        exact = λ bytes gives. c.in-Ok.ensures.exact bytes (subst (λ n. GiveBytes n (g.A.Archive.reads c.args.archive.now) bytes) (sym size) gives);
        shared = subst (λ ps. ListsShared ps members) c.as_slice-2.ensures.value c.in-Ok-copies.ensures.members;
        once = c.in-Ok-copies.ensures.once;
        sorted = c.in-Ok-copies.ensures.sorted;
      };
      tally_is = c.in_ok-tally.ensures.kinds ∙ ap (tally_from no_file) c.as_slice.ensures.value;
      printed = subst (λ ms. Appends (g.W.Write.contents c.args.out.now) (g.W.Write.contents c.print_groups.new.out) (group_lines c.args.comparison.path_end paths 0 ms)) c.as_slice-3.ensures.value
          c.in_ok-print_groups.ensures.printed;
    }

pub returns-in_err-print_groups-clause-stops : goal.returns-in_err-print_groups-clause-stops
returns-in_err-print_groups-clause-stops g c =
    let paths = items_of c.args.paths.now in
    let placings = c.in-Ok.placings.items in
    let members = c.in-Ok-copies.members.items in
    let R = g.A.Archive.reads c.args.archive.now in
    let before = g.A.Archive.noted c.args.archive.now in
    let after = g.A.Archive.noted c.group-placed.new.archive in
    let old = g.W.Write.contents c.args.out.now in
    let new = g.W.Write.contents c.print_groups.new.out in
    let files : length paths ≡ length c.args.paths.now = length-map c.args.paths.now (λ p. p.items) in
    let size : g.A.Archive.size c.args.archive.now ≡ length paths = c.requires.whole ∙ sym files in
    let groups : AreGroups c.args.comparison R before after paths placings members = record {
      whole = c.in-Ok.ensures.whole ∙ size;
      grouped = λ bytes gives. c.in-Ok.ensures.grouped bytes (subst (λ n. GiveBytes n R bytes) (sym size) gives);
      causes = c.in-Ok.ensures.causes;
      counted = c.in-Ok.ensures.counted;
      exact = λ bytes gives. c.in-Ok.ensures.exact bytes (subst (λ n. GiveBytes n R bytes) (sym size) gives);
      shared = subst (λ ps. ListsShared ps members) c.as_slice-2.ensures.value c.in-Ok-copies.ensures.members;
      once = c.in-Ok-copies.ensures.once;
      sorted = c.in-Ok-copies.ensures.sorted;
    } in
    let fault = c.in_err-print_groups.field-0.0 in
    let stops = subst (λ ms. StopsPrinting c.args.comparison.path_end paths ms old new fault) c.as_slice-3.ensures.value c.in_err-print_groups.ensures.stops in
    let Stops = StopsGroups c.args.comparison R before after paths old new in
    returned Stops _ c.from_residual-in_err-print_groups.result c.from_residual-in_err-print_groups.ensures.1
    (λ other gives. subst Stops (sym gives) (inr (placings, members, groups, stops)))

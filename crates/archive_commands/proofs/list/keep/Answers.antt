use Rattle.std.proofs.Common.{◌∙◌, sym}
use Rattle.archive_commands.proofs.Listing.{kept}
use Rattle.archive_commands.proofs.list.keep.Goals as goal

pub returns-in_ok-push : goal.returns-in_ok-push
returns-in_ok-push c = kept c.args.end c.args.paths.now.items c.push.new.self.items c.in_ok-from_slice.field-0 c.args.part.now c.without_cr-path.result.now
    c.in_ok-push.ensures.items c.in_ok-from_slice.ensures.items c.without_cr-path.ensures (sym c.is_empty.ensures ∙ c.if-not-is_empty.true)

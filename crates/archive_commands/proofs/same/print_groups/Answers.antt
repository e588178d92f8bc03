use Rattle.std.proofs.Common.{◌≡◌, ◌<◌, ◌∙◌, ◌==◌, ◌&&◌, ap, arith, sym, subst, length, get_or}
use Rattle.std.specs.Prelude.{nat_lt}
use Rattle.std.specs.Io.KnownBytes.{Appends}
use Rattle.archive_commands.specs.Lists.{items_of}
use Rattle.archive_commands.specs.Same.{path_at}
use Rattle.archive_commands.specs.SameGroups.{group_line}
use Rattle.archive_commands.proofs.Printing.{begins_first, begins_later, line_printed, path_is}
use Rattle.archive_commands.proofs.same.print_groups.Goals.{then-k-gt0, else-k-gt0}
use Rattle.archive_commands.proofs.same.print_groups.Goals as goal

pub loop-k-preserved : goal.loop-k-preserved
loop-k-preserved g c =
    let k = c.loop-k.k in
    let end = c.args.end in
    let files = c.args.paths.now in
    let members = c.args.members.now in
    let m = get_or members k (0, 0) in
    let mid = g.W.Write.contents c.loop-k.out in
    let new = g.W.Write.contents c.write_all.new.writer in
    let less : k < length members = omega (arith, c.loop-k-test.true) in
    let within : m.1 < length files = c.requires.within k (0, 0) less in
    let further = m.0 == m.1 in
    let begins : c.if-k-gt0.begins_group ≡ (nat_lt 0 k && further) = elim c.if-k-gt0.branch [
      | then-k-gt0 w ↦ begins_later k c.if-k-gt0.begins_group further w.if-k-gt0.true w.begins_group-is
      | else-k-gt0 w ↦ begins_first k c.if-k-gt0.begins_group further w.if-k-gt0.false w.begins_group-is
    ] in
    let path : c.as_slice.result.now ≡ path_at (items_of files) m.1 =
    c.as_slice.ensures.value ∙ (ap (λ p. p.items) c.index-paths-at.is ∙ sym (path_is files m.1 c.index-paths-at.result within)) in
    let line : c.as_slice-in-loop-k.result.now ≡ group_line end (nat_lt 0 k && further) (path_at (items_of files) m.1) =
    c.as_slice-in-loop-k.ensures.value ∙ (c.in-Ok.ensures ∙ (ap (λ b. group_line end b c.as_slice.result.now) begins ∙ ap (group_line end (nat_lt 0 k && further)) path)) in
    line_printed end (items_of files) members k (0, 0) (g.W.Write.contents c.args.out.now) mid new less c.loop-k.invariant
    (subst (Appends mid new) line c.in_ok-write_all.ensures.bytes)

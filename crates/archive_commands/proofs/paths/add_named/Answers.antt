use Rattle.std.proofs.Common.{◌≡◌, arith, subst, ◌++◌, ℕ, List}
use Rattle.std.specs.Global.{Vec}
use Rattle.archive_commands.proofs.Expanding.{next_added, none_added}
use Rattle.archive_commands.proofs.paths.add_named.Goals as goal

pub loop-file-preserved : goal.loop-file-preserved
loop-file-preserved g c = λ new rest.
    let Stands = g.F.Folders.stands_for c.args.folders.now in
    let files = c.args.files.now in
    let i = c.loop-file.file-index in
    let old = c.loop-file.paths.items in
    let mid = c.add.new.paths.items in
    let one = subst (λ path. (own : List (Vec ℕ)) × Stands path own × (mid ≡ old ++ own)) c.as_bytes.ensures.value c.in_ok-add.ensures in
    c.loop-file.invariant new (next_added Stands (λ p. p.now) files i _ old mid new c.loop-file-test.true one rest)

pub returns : goal.returns
returns g c =
    c.loop-file.invariant c.loop-file.paths.items (none_added (g.F.Folders.stands_for c.args.folders.now) (λ p. p.now) c.args.files.now c.loop-file.file-index c.loop-file.paths.items
    (omega (arith, c.loop-file-test.false, c.loop-file.auto.file-index-end)))

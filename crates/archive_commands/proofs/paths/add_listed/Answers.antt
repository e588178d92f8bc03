use Rattle.std.proofs.Common.{◌≡◌, ◌∙◌, ap, arith, get_or, rules, subst, ◌++◌, ℕ, List}
use Rattle.std.specs.Global.{Vec}
use Rattle.archive_commands.proofs.Expanding.{next_added, none_added}
use Rattle.archive_commands.proofs.paths.add_listed.Goals as goal

pub loop-path-preserved : goal.loop-path-preserved
loop-path-preserved g c = λ new rest.
    let Stands = g.F.Folders.stands_for c.args.folders.now in
    let listed = c.args.listed.now in
    let i = c.loop-path.path-index in
    let old = c.loop-path.paths.items in
    let mid = c.add.new.paths.items in
    let item = c.path-item.result in
    let is : item ≡ get_or listed i item = search rules in
    let one = subst (λ path. (own : List (Vec ℕ)) × Stands path own × (mid ≡ old ++ own)) (c.as_slice.ensures.value ∙ ap (λ p. p.items) is) c.in_ok-add.ensures in
    c.loop-path.invariant new (next_added Stands (λ p. p.items) listed i item old mid new c.loop-path-test.true one rest)

pub returns : goal.returns
returns g c =
    c.loop-path.invariant c.loop-path.paths.items (none_added (g.F.Folders.stands_for c.args.folders.now) (λ p. p.items) c.args.listed.now c.loop-path.path-index c.loop-path.paths.items
    (omega (arith, c.loop-path-test.false, c.loop-path.auto.path-index-end)))

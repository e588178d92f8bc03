use Rattle.std.proofs.Common.{rules, ◌≡◌, ◌<◌, ◌^◌, ◌/◌, ℕ, ap, arith, refl, subst, sym, ◌∙◌}
use Rattle.std.proofs.lemmas.Option.{slice_get_read}
use Rattle.shogi_rules.specs.Searching.{Comes, first_link}
use Rattle.shogi_rules.proofs.Searched.{leads-on, goes-less, goes-greater, found-here, ends-free}
use Rattle.shogi_rules.proofs.occurrences.search.Goals as goal

pub loop-link-init : goal.loop-link-init
loop-link-init c =
    let is : first_link c.args.position.now ≡ c.key.result / 18014398509481984 = ap (λ (n : ℕ). n / 18014398509481984) (sym c.key.ensures.value) in
    let low : c.key.result < 2 ^ 64 = search rules in
    let wide = c.requires.wide in
    (omega (arith, wide, low), subst (Comes c.args.entries.now c.args.links.now c.args.position.now) is Comes.begins)

pub bounds-entries-n : goal.bounds-entries-n
bounds-entries-n c = (leads-on c.args.entries.now c.args.links.now c.loop-link.link c.requires c.loop-link.invariant.0 c.loop-link-test.true).0

pub loop-link-smaller-in-Less : goal.loop-link-smaller-in-Less
loop-link-smaller-in-Less c =
    let on = leads-on c.args.entries.now c.args.links.now c.loop-link.link c.requires c.loop-link.invariant.0 c.loop-link-test.true in
    omega (arith, on.1, on.2)

pub loop-link-preserved-in-Less : goal.loop-link-preserved-in-Less
loop-link-preserved-in-Less c =
    let on = leads-on c.args.entries.now c.args.links.now c.loop-link.link c.requires c.loop-link.invariant.0 c.loop-link-test.true in
    let at = slice_get_read c.args.entries.now _ _ c.index-entries-n.result refl on.0 c.index-entries-n.is in
    (omega (arith, on.2), goes-less c.args.entries.now c.args.links.now c.args.position.now c.loop-link.link _ c.index-entries-n.result c.loop-link.invariant on.3 at (sym c.order.ensures ∙ c.in-Less.is))

pub returns-in-Equal : goal.returns-in-Equal
returns-in-Equal c =
    let on = leads-on c.args.entries.now c.args.links.now c.loop-link.link c.requires c.loop-link.invariant.0 c.loop-link-test.true in
    let at = slice_get_read c.args.entries.now _ _ c.index-entries-n.result refl on.0 c.index-entries-n.is in
    (on.0, found-here c.args.entries.now c.args.position.now _ c.index-entries-n.result at (sym c.order.ensures ∙ c.in-Equal.is))

pub loop-link-smaller : goal.loop-link-smaller
loop-link-smaller c =
    let on = leads-on c.args.entries.now c.args.links.now c.loop-link.link c.requires c.loop-link.invariant.0 c.loop-link-test.true in
    omega (arith, on.1, on.2)

pub loop-link-preserved : goal.loop-link-preserved
loop-link-preserved c =
    let on = leads-on c.args.entries.now c.args.links.now c.loop-link.link c.requires c.loop-link.invariant.0 c.loop-link-test.true in
    let at = slice_get_read c.args.entries.now _ _ c.index-entries-n.result refl on.0 c.index-entries-n.is in
    (on.2, goes-greater c.args.entries.now c.args.links.now c.args.position.now c.loop-link.link _ c.index-entries-n.result c.loop-link.invariant on.3 at (sym c.order.ensures ∙ c.in-Greater.is))

pub returns : goal.returns
returns c = ends-free c.args.entries.now c.args.links.now c.args.position.now c.loop-link.link c.loop-link.invariant (omega (arith, c.loop-link-test.false))

use Rattle.std.proofs.Common.{◌≡◌, ◌∙◌, ◌+◌, arith, length, refl, rules, subst, sym}
use Rattle.game_archive.proofs.Causes.{causes_next, digests_by, exact, no_causes}
use Rattle.game_archive.proofs.Placed.{grouped}
use Rattle.game_archive.proofs.Readings.{alike_refl, alike_trans, gives_still}
use Rattle.game_archive.specs.Groups.{outside}
use Rattle.game_archive.specs.Readings.{how_many}
use Rattle.game_archive.specs.Unreadable.{HaveCausesBetween}
use Rattle.game_archive.proofs.grouping.group_by.Goals as goal

pub loop-at-init : goal.loop-at-init
loop-at-init g c = record {
  counted = search rules;
  size = refl;
  alike = alike_refl (g.A.Archive.reads c.args.archive.now);
  leaders = search rules;
  digests = search rules;
  few = search rules;
  known = search rules;
  noted = subst (λ ps. how_many (g.A.Archive.noted c.args.archive.now) ≡ how_many (g.A.Archive.noted c.args.archive.now) + outside ps) (sym c.new.ensures.items) (omega arith);
  causes = subst (HaveCausesBetween c.args.likeness (g.D.Digester.digest_of c.args.digester.now) (g.A.Archive.reads c.args.archive.now) (g.A.Archive.noted c.args.archive.now) (g.A.Archive.noted c.args.archive.now)) (sym c.new.ensures.items)
      (no_causes c.args.likeness (g.D.Digester.digest_of c.args.digester.now) (g.A.Archive.reads c.args.archive.now) (g.A.Archive.noted c.args.archive.now));
}

pub loop-at-preserved : goal.loop-at-preserved
loop-at-preserved g c =
    let start = c.args.archive.now in
    let here = c.loop-at.archive in
    let new = c.place_next.new.self in
    let alike = c.loop-at.invariant.alike in
    let size = c.loop-at.invariant.size in
    record {
      counted = omega (arith, c.in_ok-place_next.ensures.more, c.loop-at.invariant.counted);
      size = c.in_ok-place_next.ensures.size ∙ size;
      alike = alike_trans (g.A.Archive.reads start) (g.A.Archive.reads here) (g.A.Archive.reads c.place_next.new.archive) alike c.in_ok-place_next.ensures.alike;
      leaders = c.in_ok-place_next.ensures.leaders;
      digests = (digests_by c.args.likeness (g.D.Digester.digest_of c.args.digester.now) (g.A.Archive.reads here) (g.A.Archive.reads start)
          new.placings.items new.by_digest new.colliding.items (λ k r. (alike k r).1) c.in_ok-place_next.ensures.digests);
      few = c.in_ok-place_next.ensures.few c.loop-at.invariant.few;
      known = λ bytes gives. c.in_ok-place_next.ensures.groups bytes
          (gives_still (g.A.Archive.reads start) (g.A.Archive.reads here) (g.A.Archive.size start) (g.A.Archive.size here) bytes alike size gives) (c.loop-at.invariant.known bytes gives);
      noted =
          let step : how_many (g.A.Archive.noted c.place_next.new.archive) + outside c.loop-at.groups.placings.items ≡ how_many (g.A.Archive.noted here) + outside new.placings.items = c.in_ok-place_next.ensures.counted in
          let before = c.loop-at.invariant.noted in
          omega (arith, step, before);
      causes = causes_next c.args.likeness (g.D.Digester.digest_of c.args.digester.now) (g.A.Archive.reads start) (g.A.Archive.reads here) (g.A.Archive.noted start) (g.A.Archive.noted here) (g.A.Archive.noted c.place_next.new.archive)
          c.loop-at.groups.placings.items new.placings.items (λ k r. (alike k r).0) (λ k r. (alike k r).1) c.in_ok-place_next.ensures.causes c.loop-at.invariant.causes;
    }

pub returns-clause-grouped : goal.returns-clause-grouped
returns-clause-grouped g c = λ bytes gives.
    grouped c.args.likeness bytes (g.D.Digester.digest_of c.args.digester.now) c.loop-at.groups.placings.items c.loop-at.groups.by_digest c.loop-at.groups.colliding.items
    (c.loop-at.invariant.known bytes gives)

pub returns-clause-exact : goal.returns-clause-exact
returns-clause-exact g c = λ bytes gives same.
    let start = c.args.archive.now in
    let placings = c.loop-at.groups.placings.items in
    let is_grouped = grouped c.args.likeness bytes (g.D.Digester.digest_of c.args.digester.now) placings c.loop-at.groups.by_digest c.loop-at.groups.colliding.items
    (c.loop-at.invariant.known bytes gives) in
    let all : length placings ≡ g.A.Archive.size start = omega (arith, c.loop-at.invariant.counted, c.loop-at-test.false, c.loop-at.auto.at-end) in
    exact c.args.likeness (g.D.Digester.digest_of c.args.digester.now) (g.A.Archive.size start) (g.A.Archive.reads start) (g.A.Archive.noted start) (g.A.Archive.noted c.loop-at.archive) bytes placings all gives same is_grouped c.loop-at.invariant.causes

pub place_next-requires : goal.place_next-requires
place_next-requires g c =
    let start = c.args.archive.now in
    let here = c.loop-at.archive in
    let groups = c.loop-at.groups in
    record {
      within = omega (arith, c.loop-at.invariant.counted, c.loop-at.invariant.size, c.loop-at-test.true, c.len-at-end.ensures);
      leaders = c.loop-at.invariant.leaders;
      digests = digests_by c.args.likeness (g.D.Digester.digest_of c.args.digester.now) (g.A.Archive.reads start) (g.A.Archive.reads here)
          groups.placings.items groups.by_digest groups.colliding.items (λ k r. (c.loop-at.invariant.alike k r).0) c.loop-at.invariant.digests;
    }

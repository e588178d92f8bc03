use Rattle.std.proofs.Common.{◌≡◌, ◌∙◌, [], ◌∷◌, ◌++◌, ap, arith, length, refl, subst, sym}
use Rattle.std.proofs.lemmas.List.{length_push}
use Rattle.game_archive.proofs.Placed.{leaders_still, placed_unreadable, placed_with}
use Rattle.game_archive.proofs.Causes.{both_ok, keeps_group, keeps_lost, on_ok}
use Rattle.game_archive.proofs.Counts.{none_outside, one_outside}
use Rattle.game_archive.proofs.Digests.{digests_added, digests_still}
use Rattle.game_archive.specs.Knowing.{KeepsCauses, KeepsCount}
use Rattle.game_archive.specs.declared.grouping.Placing.TheVariants as placing
use Rattle.game_archive.proofs.grouping.Groups.place_key.Goals as goal

pub returns-in_ok-push-in-Ok-Some-clause-leaders : goal.returns-in_ok-push-in-Ok-Some-clause-leaders
returns-in_ok-push-in-Ok-Some-clause-leaders g c =
    rw c.in_ok-push-in-Ok-Some.ensures.items (leaders_still c.args.self.now.placings.items (placing.Group c.in-Ok-Some.leader) c.args.self.now.by_digest c.args.self.now.colliding.items c.requires.leaders)

pub returns-in_ok-push-in-Ok-Some-clause-groups : goal.returns-in_ok-push-in-Ok-Some-clause-groups
returns-in_ok-push-in-Ok-Some-clause-groups g c = λ bytes gives has old.
    let leads = rw c.in-Ok-Some.field-0-is at c.in-Ok-Some.ensures.leader in
    let found = rw c.in-Ok-Some.field-0-is at (c.in-Ok-Some.ensures.found bytes gives) in
    rw c.in_ok-push-in-Ok-Some.ensures.items
    (placed_with c.args.likeness bytes (g.D.Digester.digest_of c.args.digester.now) c.args.self.now.placings.items c.in-Ok-Some.leader c.args.key.now c.args.self.now.by_digest c.args.self.now.colliding.items
    leads found has old)

pub returns-in-Ok-None-clause-groups : goal.returns-in-Ok-None-clause-groups
returns-in-Ok-None-clause-groups g c = λ bytes gives has old.
    let none = rw c.in-Ok-None.field-0-is at (c.in-Ok-None.ensures.found bytes gives) in
    c.begin.ensures.groups c.args.likeness bytes (g.D.Digester.digest_of c.args.digester.now) c.args.key.now c.digest-digest.ensures has none old

pub returns-in_ok-push-in-Ok-Some-clause-causes : goal.returns-in_ok-push-in-Ok-Some-clause-causes
returns-in_ok-push-in-Ok-Some-clause-causes g c = λ since old.
    rw c.in_ok-push-in-Ok-Some.ensures.items
    (keeps_group c.args.likeness (g.D.Digester.digest_of c.args.digester.now) (g.A.Archive.reads c.args.archive.now) (g.A.Archive.noted c.args.archive.now) (g.A.Archive.noted c.find.new.archive) since c.args.self.now.placings.items c.in-Ok-Some.leader
    c.in-Ok-Some.ensures.quiet old)

pub returns-in-Ok-None-clause-causes : goal.returns-in-Ok-None-clause-causes
returns-in-Ok-None-clause-causes g c = λ since old.
    let archive = c.args.archive.now in
    let R = g.A.Archive.reads archive in
    let before = g.A.Archive.noted archive in
    let noted = g.A.Archive.noted c.find.new.archive in
    let placings = c.args.self.now.placings.items in
    let after = c.begin.new.self.placings.items in
    let own = placing.Group (length placings) in
    let l = c.args.likeness in
    let d = g.D.Digester.digest_of c.args.digester.now in
    on_ok (after ≡ placings ++ own ∷ []) (KeepsCauses l d R before noted since after) c.begin.result
    (λ e. subst (KeepsCauses l d R before noted since) (sym e) (keeps_group l d R before noted since placings (length placings) c.in-Ok-None.ensures.quiet old)) c.begin.ensures.placed

pub returns-in_ok-push-in-Err-Refused : goal.returns-in_ok-push-in-Err-Refused
returns-in_ok-push-in-Err-Refused g c = record {
  more = ap length c.in_ok-push-in-Err-Refused.ensures.items ∙ length_push c.args.self.now.placings.items placing.Unreadable;
  few = λ old.
      let grown = length_push c.args.self.now.placings.items placing.Unreadable in
      rw c.in_ok-push-in-Err-Refused.ensures.items (omega (arith, grown, old));
  digests = rw c.in_ok-push-in-Err-Refused.ensures.items
      (digests_still c.args.likeness (g.D.Digester.digest_of c.args.digester.now) (g.A.Archive.reads c.args.archive.now) c.args.self.now.placings.items placing.Unreadable c.args.self.now.by_digest c.args.self.now.colliding.items c.requires.digests);
  leaders = rw c.in_ok-push-in-Err-Refused.ensures.items (leaders_still c.args.self.now.placings.items placing.Unreadable c.args.self.now.by_digest c.args.self.now.colliding.items c.requires.leaders);
  groups = λ bytes gives has old. rw c.in_ok-push-in-Err-Refused.ensures.items
      (placed_unreadable c.args.likeness bytes (g.D.Digester.digest_of c.args.digester.now) c.args.self.now.placings.items c.args.self.now.by_digest c.args.self.now.colliding.items old);
  causes = λ since old.
      let archive = c.args.archive.now in
      let d = g.D.Digester.digest_of c.args.digester.now in
      rw c.in_ok-push-in-Err-Refused.ensures.items
      (keeps_lost c.args.likeness d (g.A.Archive.reads archive) (g.A.Archive.noted archive) (g.A.Archive.noted c.find.new.archive) since c.args.self.now.placings.items c.args.key.now c.digest-digest.result c.in-Err-Refused.field-0
      (λ e. let h = sym c.in-Err-Refused.field-0-is ∙ e in absurd cc) (λ e. let h = sym c.in-Err-Refused.field-0-is ∙ e in absurd cc)
      c.requires.read c.digest-digest.ensures (c.in-Err-Refused.ensures.fault d c.requires.digests) old);
  counted =
      let archive = c.args.archive.now in
      let lost = c.in-Err-Refused.ensures.fault (g.D.Digester.digest_of c.args.digester.now) c.requires.digests (λ e. let h = sym c.in-Err-Refused.field-0-is ∙ e in absurd cc) in
      rw c.in_ok-push-in-Err-Refused.ensures.items
      (one_outside (g.A.Archive.noted archive) (g.A.Archive.noted c.find.new.archive) lost.0 c.in-Err-Refused.field-0 c.args.self.now.placings.items placing.Unreadable
      (λ e. let h = sym c.in-Err-Refused.field-0-is ∙ e in absurd cc) (λ e. let h = sym c.in-Err-Refused.field-0-is ∙ e in absurd cc) lost.4 refl);
  size = c.in-Err-Refused.ensures.size;
  alike = c.in-Err-Refused.ensures.alike;
}

pub returns-in_ok-push-in-Err-ReadFault : goal.returns-in_ok-push-in-Err-ReadFault
returns-in_ok-push-in-Err-ReadFault g c = record {
  more = ap length c.in_ok-push-in-Err-ReadFault.ensures.items ∙ length_push c.args.self.now.placings.items placing.Unreadable;
  few = λ old.
      let grown = length_push c.args.self.now.placings.items placing.Unreadable in
      rw c.in_ok-push-in-Err-ReadFault.ensures.items (omega (arith, grown, old));
  digests = rw c.in_ok-push-in-Err-ReadFault.ensures.items
      (digests_still c.args.likeness (g.D.Digester.digest_of c.args.digester.now) (g.A.Archive.reads c.args.archive.now) c.args.self.now.placings.items placing.Unreadable c.args.self.now.by_digest c.args.self.now.colliding.items c.requires.digests);
  leaders = rw c.in_ok-push-in-Err-ReadFault.ensures.items (leaders_still c.args.self.now.placings.items placing.Unreadable c.args.self.now.by_digest c.args.self.now.colliding.items c.requires.leaders);
  groups = λ bytes gives has old. rw c.in_ok-push-in-Err-ReadFault.ensures.items
      (placed_unreadable c.args.likeness bytes (g.D.Digester.digest_of c.args.digester.now) c.args.self.now.placings.items c.args.self.now.by_digest c.args.self.now.colliding.items old);
  causes = λ since old.
      let archive = c.args.archive.now in
      let d = g.D.Digester.digest_of c.args.digester.now in
      rw c.in_ok-push-in-Err-ReadFault.ensures.items
      (keeps_lost c.args.likeness d (g.A.Archive.reads archive) (g.A.Archive.noted archive) (g.A.Archive.noted c.find.new.archive) since c.args.self.now.placings.items c.args.key.now c.digest-digest.result c.in-Err-ReadFault.field-0
      (λ e. let h = sym c.in-Err-ReadFault.field-0-is ∙ e in absurd cc) (λ e. let h = sym c.in-Err-ReadFault.field-0-is ∙ e in absurd cc)
      c.requires.read c.digest-digest.ensures (c.in-Err-ReadFault.ensures.fault d c.requires.digests) old);
  counted =
      let archive = c.args.archive.now in
      let lost = c.in-Err-ReadFault.ensures.fault (g.D.Digester.digest_of c.args.digester.now) c.requires.digests (λ e. let h = sym c.in-Err-ReadFault.field-0-is ∙ e in absurd cc) in
      rw c.in_ok-push-in-Err-ReadFault.ensures.items
      (one_outside (g.A.Archive.noted archive) (g.A.Archive.noted c.find.new.archive) lost.0 c.in-Err-ReadFault.field-0 c.args.self.now.placings.items placing.Unreadable
      (λ e. let h = sym c.in-Err-ReadFault.field-0-is ∙ e in absurd cc) (λ e. let h = sym c.in-Err-ReadFault.field-0-is ∙ e in absurd cc) lost.4 refl);
  size = c.in-Err-ReadFault.ensures.size;
  alike = c.in-Err-ReadFault.ensures.alike;
}

pub returns-in_ok-push-in-Ok-Some-clause-counted : goal.returns-in_ok-push-in-Ok-Some-clause-counted
returns-in_ok-push-in-Ok-Some-clause-counted g c =
    rw c.in_ok-push-in-Ok-Some.ensures.items
    (none_outside (g.A.Archive.noted c.args.archive.now) (g.A.Archive.noted c.find.new.archive) c.args.self.now.placings.items c.in-Ok-Some.leader c.in-Ok-Some.ensures.quiet)

pub returns-in-Ok-None-clause-counted : goal.returns-in-Ok-None-clause-counted
returns-in-Ok-None-clause-counted g c =
    let before = g.A.Archive.noted c.args.archive.now in
    let noted = g.A.Archive.noted c.find.new.archive in
    let placings = c.args.self.now.placings.items in
    let after = c.begin.new.self.placings.items in
    let own = placing.Group (length placings) in
    on_ok (after ≡ placings ++ own ∷ []) (KeepsCount before noted placings after) c.begin.result
    (λ e. subst (KeepsCount before noted placings) (sym e) (none_outside before noted placings (length placings) c.in-Ok-None.ensures.quiet)) c.begin.ensures.placed

pub returns-in_ok-push-in-Ok-Some-clause-digests : goal.returns-in_ok-push-in-Ok-Some-clause-digests
returns-in_ok-push-in-Ok-Some-clause-digests g c =
    rw c.in_ok-push-in-Ok-Some.ensures.items
    (digests_still c.args.likeness (g.D.Digester.digest_of c.args.digester.now) (g.A.Archive.reads c.args.archive.now) c.args.self.now.placings.items (placing.Group c.in-Ok-Some.leader)
    c.args.self.now.by_digest c.args.self.now.colliding.items c.requires.digests)

pub returns-in-Ok-None-clause-digests : goal.returns-in-Ok-None-clause-digests
returns-in-Ok-None-clause-digests g c =
    let before = c.args.self.now in
    let after = c.begin.new.self in
    let own = placing.Group (length before.placings.items) in
    both_ok _ _ _ c.begin.result
    (λ e added. digests_added c.args.likeness (g.D.Digester.digest_of c.args.digester.now) (g.A.Archive.reads c.args.archive.now) before.placings.items after.placings.items own c.args.key.now c.digest-digest.result
    before.by_digest after.by_digest before.colliding.items after.colliding.items e c.requires.read c.digest-digest.ensures added c.requires.leaders c.requires.digests)
    c.begin.ensures.placed c.begin.ensures.added

use Rattle.std.proofs.Common.{◌≡◌, ◌∙◌, Ok, Err, ap, arith, length, refl, subst, sym}
use Rattle.csa_record.specs.declared.flow.FlowFault.TheVariants as flow
use Rattle.game_archive.proofs.Placed.{leaders_still, placed_refused, placed_unreadable}
use Rattle.game_archive.specs.Knowing.{HasKey, HadKey}
use Rattle.game_archive.specs.Alike.{GivesOnly}
use Rattle.game_archive.proofs.Causes.{causes_by, digests_by, keeps_by, keeps_from, keeps_refused, keeps_unread, on_ok}
use Rattle.game_archive.proofs.Digests.{digests_still}
use Rattle.game_archive.proofs.Counts.{count_from, one_outside}
use Rattle.game_archive.proofs.Readings.{alike_trans, gives_still}
use Rattle.game_archive.specs.Readings.{noted_at}
use Rattle.game_archive.specs.declared.grouping.Placing.TheVariants as placing
use Rattle.game_archive.proofs.grouping.Groups.place_next.Goals as goal

pub returns-in_ok-push-in-Err-Refused-clause-leaders : goal.returns-in_ok-push-in-Err-Refused-clause-leaders
returns-in_ok-push-in-Err-Refused-clause-leaders g c =
    rw c.in_ok-push-in-Err-Refused.ensures.items (rw c.in-Err-Refused.field-0-is
    (leaders_still c.args.self.now.placings.items (placing.Refused c.in-Err-Refused.refusal) c.args.self.now.by_digest c.args.self.now.colliding.items c.requires.leaders))

pub returns-in_ok-push-in-Err-Refused-clause-groups : goal.returns-in_ok-push-in-Err-Refused-clause-groups
returns-in_ok-push-in-Err-Refused-clause-groups g c = λ bytes gives old.
    let placings = c.args.self.now.placings.items in
    let n : c.len.result ≡ length c.args.self.now.placings.items = omega (arith, c.len.ensures) in
    let here = subst (λ i. GivesOnly (g.A.Archive.reads c.args.archive.now i) (bytes (length placings))) (sym n) (gives (length placings) c.requires.within) in
    let refused = c.in-Err-Refused.ensures.refused (bytes (length placings)) c.in-Err-Refused.refusal here (ap Err c.in-Err-Refused.field-0-is) in
    rw c.in_ok-push-in-Err-Refused.ensures.items (rw c.in-Err-Refused.field-0-is
    (placed_refused c.args.likeness bytes (g.D.Digester.digest_of c.args.digester.now) placings c.in-Err-Refused.refusal c.args.self.now.by_digest c.args.self.now.colliding.items refused old))

pub returns-in_ok-push-in-Err-ReadFault-clause-leaders : goal.returns-in_ok-push-in-Err-ReadFault-clause-leaders
returns-in_ok-push-in-Err-ReadFault-clause-leaders g c =
    rw c.in_ok-push-in-Err-ReadFault.ensures.items
    (leaders_still c.args.self.now.placings.items placing.Unreadable c.args.self.now.by_digest c.args.self.now.colliding.items c.requires.leaders)

pub returns-in_ok-push-in-Err-ReadFault-clause-groups : goal.returns-in_ok-push-in-Err-ReadFault-clause-groups
returns-in_ok-push-in-Err-ReadFault-clause-groups g c = λ bytes gives old.
    rw c.in_ok-push-in-Err-ReadFault.ensures.items
    (placed_unreadable c.args.likeness bytes (g.D.Digester.digest_of c.args.digester.now) c.args.self.now.placings.items c.args.self.now.by_digest c.args.self.now.colliding.items old)

pub returns-in-Ok-clause-groups : goal.returns-in-Ok-clause-groups
returns-in-Ok-clause-groups g c = λ bytes gives old.
    let placings = c.args.self.now.placings.items in
    let archive = c.args.archive.now in
    let here = c.key_at.new.archive in
    let n : c.len.result ≡ length c.args.self.now.placings.items = omega (arith, c.len.ensures) in
    let own = subst (λ i. GivesOnly (g.A.Archive.reads archive i) (bytes (length placings))) (sym n) (gives (length placings) c.requires.within) in
    let has = subst (HasKey c.args.likeness (bytes (length placings))) (sym c.deref.ensures.value) (c.in-Ok.ensures.text (bytes (length placings)) own) in
    c.place_key.ensures.groups bytes (gives_still (g.A.Archive.reads archive) (g.A.Archive.reads here) (g.A.Archive.size archive) (g.A.Archive.size here) bytes c.in-Ok.ensures.alike c.in-Ok.ensures.size gives) has old

pub returns-in-Ok-clause-causes : goal.returns-in-Ok-clause-causes
returns-in-Ok-clause-causes g c = λ since old.
    let archive = c.args.archive.now in
    let here = c.key_at.new.archive in
    let new = c.place_key.new.archive in
    let R = g.A.Archive.reads archive in
    let S = g.A.Archive.reads here in
    let l = c.args.likeness in
    let d = g.D.Digester.digest_of c.args.digester.now in
    let step = c.place_key.ensures.causes since (causes_by l d R S since c.args.self.now.placings.items (λ k r. (c.in-Ok.ensures.alike k r).0) old) in
    on_ok _ _ c.place_key.result
    (λ keeps. keeps_from l d R (g.A.Archive.noted archive) (g.A.Archive.noted here) (g.A.Archive.noted new) since c.place_key.new.self.placings.items c.in-Ok.ensures.noted
    (keeps_by l d S R (g.A.Archive.noted here) (g.A.Archive.noted new) since c.place_key.new.self.placings.items (λ k r. (c.in-Ok.ensures.alike k r).1) keeps)) step

pub returns-in-Ok-clause-alike : goal.returns-in-Ok-clause-alike
returns-in-Ok-clause-alike g c =
    alike_trans (g.A.Archive.reads c.args.archive.now) (g.A.Archive.reads c.key_at.new.archive) (g.A.Archive.reads c.place_key.new.archive) c.in-Ok.ensures.alike c.place_key.ensures.alike

pub returns-in_ok-push-in-Err-Refused-clause-causes : goal.returns-in_ok-push-in-Err-Refused-clause-causes
returns-in_ok-push-in-Err-Refused-clause-causes g c = λ since old.
    let archive = c.args.archive.now in
    let R = g.A.Archive.reads archive in
    let placings = c.args.self.now.placings.items in
    let refused = flow.Refused c.in-Err-Refused.refusal in
    let n : c.len.result ≡ length c.args.self.now.placings.items = omega (arith, c.len.ensures) in
    let is = c.in-Err-Refused.field-0-is in
    let reads = subst (λ i. R i (Err refused)) n (subst (λ f. R c.len.result (Err f)) is (c.in-Err-Refused.ensures.fault (λ lost. let e = sym is ∙ lost in absurd cc))) in
    let after = subst (λ i. g.A.Archive.noted c.key_at.new.archive ≡ noted_at (g.A.Archive.noted archive) i refused) n
    (subst (λ f. g.A.Archive.noted c.key_at.new.archive ≡ noted_at (g.A.Archive.noted archive) c.len.result f) is c.in-Err-Refused.ensures.noted) in
    rw c.in_ok-push-in-Err-Refused.ensures.items (rw c.in-Err-Refused.field-0-is
    (keeps_refused c.args.likeness (g.D.Digester.digest_of c.args.digester.now) R (g.A.Archive.noted archive) (g.A.Archive.noted c.key_at.new.archive) since placings c.in-Err-Refused.refusal after reads old))

pub returns-in_ok-push-in-Err-ReadFault-clause-causes : goal.returns-in_ok-push-in-Err-ReadFault-clause-causes
returns-in_ok-push-in-Err-ReadFault-clause-causes g c = λ since old.
    let archive = c.args.archive.now in
    let R = g.A.Archive.reads archive in
    let placings = c.args.self.now.placings.items in
    let n : c.len.result ≡ length c.args.self.now.placings.items = omega (arith, c.len.ensures) in
    let after = subst (λ i. g.A.Archive.noted c.key_at.new.archive ≡ noted_at (g.A.Archive.noted archive) i flow.ReadFault) n
    (subst (λ f. g.A.Archive.noted c.key_at.new.archive ≡ noted_at (g.A.Archive.noted archive) c.len.result f) c.in-Err-ReadFault.field-0-is c.in-Err-ReadFault.ensures.noted) in
    let is = c.in-Err-ReadFault.field-0-is in
    let reads = subst (λ i. R i (Err flow.ReadFault)) n (subst (λ f. R c.len.result (Err f)) is (c.in-Err-ReadFault.ensures.fault (λ lost. let e = sym is ∙ lost in absurd cc))) in
    rw c.in_ok-push-in-Err-ReadFault.ensures.items
    (keeps_unread c.args.likeness (g.D.Digester.digest_of c.args.digester.now) R (g.A.Archive.noted archive) (g.A.Archive.noted c.key_at.new.archive) since placings after reads old)

pub returns-in-Ok-clause-counted : goal.returns-in-Ok-clause-counted
returns-in-Ok-clause-counted g c =
    let before = g.A.Archive.noted c.args.archive.now in
    let here = g.A.Archive.noted c.key_at.new.archive in
    let new = g.A.Archive.noted c.place_key.new.archive in
    let placings = c.args.self.now.placings.items in
    on_ok _ _ c.place_key.result (count_from before here new placings c.place_key.new.self.placings.items c.in-Ok.ensures.noted) c.place_key.ensures.counted

pub returns-in_ok-push-in-Err-Refused-clause-counted : goal.returns-in_ok-push-in-Err-Refused-clause-counted
returns-in_ok-push-in-Err-Refused-clause-counted g c =
    let archive = c.args.archive.now in
    let refused = flow.Refused c.in-Err-Refused.refusal in
    let after = subst (λ f. g.A.Archive.noted c.key_at.new.archive ≡ noted_at (g.A.Archive.noted archive) c.len.result f) c.in-Err-Refused.field-0-is c.in-Err-Refused.ensures.noted in
    rw c.in_ok-push-in-Err-Refused.ensures.items (rw c.in-Err-Refused.field-0-is
    (one_outside (g.A.Archive.noted archive) (g.A.Archive.noted c.key_at.new.archive) c.len.result refused c.args.self.now.placings.items (placing.Refused c.in-Err-Refused.refusal)
    (λ e. absurd cc) (λ e. absurd cc) after refl))

pub returns-in_ok-push-in-Err-ReadFault-clause-counted : goal.returns-in_ok-push-in-Err-ReadFault-clause-counted
returns-in_ok-push-in-Err-ReadFault-clause-counted g c =
    let archive = c.args.archive.now in
    let after = subst (λ f. g.A.Archive.noted c.key_at.new.archive ≡ noted_at (g.A.Archive.noted archive) c.len.result f) c.in-Err-ReadFault.field-0-is c.in-Err-ReadFault.ensures.noted in
    rw c.in_ok-push-in-Err-ReadFault.ensures.items
    (one_outside (g.A.Archive.noted archive) (g.A.Archive.noted c.key_at.new.archive) c.len.result flow.ReadFault c.args.self.now.placings.items placing.Unreadable
    (λ e. absurd cc) (λ e. absurd cc) after refl)

pub returns-in_ok-push-in-Err-Refused-clause-digests : goal.returns-in_ok-push-in-Err-Refused-clause-digests
returns-in_ok-push-in-Err-Refused-clause-digests g c =
    rw c.in_ok-push-in-Err-Refused.ensures.items (rw c.in-Err-Refused.field-0-is
    (digests_still c.args.likeness (g.D.Digester.digest_of c.args.digester.now) (g.A.Archive.reads c.args.archive.now) c.args.self.now.placings.items (placing.Refused c.in-Err-Refused.refusal)
    c.args.self.now.by_digest c.args.self.now.colliding.items c.requires.digests))

pub returns-in_ok-push-in-Err-ReadFault-clause-digests : goal.returns-in_ok-push-in-Err-ReadFault-clause-digests
returns-in_ok-push-in-Err-ReadFault-clause-digests g c =
    rw c.in_ok-push-in-Err-ReadFault.ensures.items
    (digests_still c.args.likeness (g.D.Digester.digest_of c.args.digester.now) (g.A.Archive.reads c.args.archive.now) c.args.self.now.placings.items placing.Unreadable
    c.args.self.now.by_digest c.args.self.now.colliding.items c.requires.digests)

pub place_key-requires : goal.place_key-requires
place_key-requires g c =
    let archive = c.args.archive.now in
    let here = c.key_at.new.archive in
    let before = c.args.self.now in
    let n : c.len.result ≡ length before.placings.items = omega (arith, c.len.ensures) in
    let R = g.A.Archive.reads archive in
    let S = g.A.Archive.reads here in
    let l = c.args.likeness in
    let size = c.in-Ok.ensures.size in
    let read = subst (λ i. HadKey l R i c.in-Ok.key.items) n c.in-Ok.ensures.read in
    let now = subst (HadKey l R (length before.placings.items)) (sym c.deref.ensures.value) read in
    record {
      within = omega (arith, c.requires.within, size);
      leaders = c.requires.leaders;
      read = (now.0, (c.in-Ok.ensures.alike (length before.placings.items) (Ok now.0)).0 now.1, now.2);
      digests = digests_by l (g.D.Digester.digest_of c.args.digester.now) R S before.placings.items before.by_digest before.colliding.items (λ k r. (c.in-Ok.ensures.alike k r).0) c.requires.digests;
    }

pub returns-in-Ok-clause-digests : goal.returns-in-Ok-clause-digests
returns-in-Ok-clause-digests g c =
    let new = c.place_key.new.self in
    on_ok _ _ c.place_key.result
    (digests_by c.args.likeness (g.D.Digester.digest_of c.args.digester.now) (g.A.Archive.reads c.key_at.new.archive) (g.A.Archive.reads c.args.archive.now) new.placings.items new.by_digest new.colliding.items
    (λ k r. (c.in-Ok.ensures.alike k r).1)) c.place_key.ensures.digests

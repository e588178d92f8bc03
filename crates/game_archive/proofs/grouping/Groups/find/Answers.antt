use Rattle.std.proofs.Common.{◌≡◌, ◌<◌, ◌∙◌, ap, arith, inl, inr, length, refl, subst, sym}
use Rattle.csa_record.specs.declared.flow.FlowFault.TheVariants as flow
use Rattle.std.specs.Prelude.{slice_index}
use Rattle.std.proofs.lemmas.Bool.{cases_lt}
use Rattle.std.proofs.lemmas.List.{get_or_default}
use Rattle.game_archive.specs.Digests.{Collides}
use Rattle.game_archive.specs.Knowing.{HasKey, IsNotCompared}
use Rattle.game_archive.specs.Groups.{HasLeader}
use Rattle.game_archive.specs.Readings.{ReadAlike}
use Rattle.game_archive.proofs.Causes.{not_compared, returned}
use Rattle.game_archive.proofs.Readings.{alike_refl, alike_trans, gives_still}
use Rattle.game_archive.proofs.Placed.{leads_within, refuted, some_none, some_number}
use Rattle.game_archive.proofs.grouping.Groups.find.Goals.{in-Some+in_ok-has_key+else-branch, in_default}
use Rattle.game_archive.proofs.grouping.Groups.find.Goals as goal

pub has_key-requires : goal.has_key-requires
has_key-requires g c = record {
  within = leads_within c.args.self.now.placings.items _ c.in-Some.leader.now c.requires.within (c.requires.leaders.at_digests c.args.digest.now c.in-Some.leader.now (sym c.in-Some.ensures.value));
}

pub returns-then-branch-clause-leader : goal.returns-then-branch-clause-leader
returns-then-branch-clause-leader g c = c.requires.leaders.at_digests c.args.digest.now c.in-Some.leader.now (sym c.in-Some.ensures.value)

pub returns-then-branch-clause-found : goal.returns-then-branch-clause-found
returns-then-branch-clause-found g c = λ bytes gives.
    let less = leads_within c.args.self.now.placings.items _ c.in-Some.leader.now c.requires.within (c.requires.leaders.at_digests c.args.digest.now c.in-Some.leader.now (sym c.in-Some.ensures.value)) in
    (c.in_ok-has_key.ensures.same (bytes c.in-Some.leader.now) (gives c.in-Some.leader.now less)).0 c.if-branch.true

pub loop-k-init : goal.loop-k-init
loop-k-init g c = record {
  size = elim c.match-get.branch [
    | in-Some+in_ok-has_key+else-branch w ↦ ap g.A.Archive.size w.archive-is ∙ w.in_ok-has_key.ensures.size
    | in_default w ↦ ap g.A.Archive.size w.archive-is
  ];
  alike = elim c.match-get.branch [
    | in-Some+in_ok-has_key+else-branch w ↦ subst (λ a. ReadAlike (g.A.Archive.reads c.args.archive.now) (g.A.Archive.reads a)) (sym w.archive-is) w.in_ok-has_key.ensures.alike
    | in_default w ↦ subst (λ a. ReadAlike (g.A.Archive.reads c.args.archive.now) (g.A.Archive.reads a)) (sym w.archive-is) (alike_refl (g.A.Archive.reads c.args.archive.now))
  ];
  quiet = elim c.match-get.branch [
    | in-Some+in_ok-has_key+else-branch w ↦ ap g.A.Archive.noted w.archive-is ∙ w.in_ok-has_key.ensures.noted
    | in_default w ↦ ap g.A.Archive.noted w.archive-is
  ];
  colliding = λ bytes gives j less. absurd (omega (arith, less));
}

pub has_key-requires-in-loop-k : goal.has_key-requires-in-loop-k
has_key-requires-in-loop-k g c =
    let within : c.loop-k.k < length c.args.self.now.colliding.items = omega (arith, c.loop-k-test.true, c.len-k-end.ensures) in
    let leads = c.requires.leaders.elsewhere c.loop-k.k _ within in
    let read : c.index-leader.result.now ≡ _ = c.index-leader.ensures in
    let less = leads_within c.args.self.now.placings.items _ c.index-leader.result.now c.requires.within (subst (λ i. HasLeader c.args.self.now.placings.items i i) (sym read) leads) in
    let size = c.loop-k.invariant.size in
    record { within = omega (arith, less, size) }

pub returns-then-branch-2-clause-found : goal.returns-then-branch-2-clause-found
returns-then-branch-2-clause-found g c = λ bytes gives.
    let within : c.loop-k.k < length c.args.self.now.colliding.items = omega (arith, c.loop-k-test.true, c.len-k-end.ensures) in
    let leads = c.requires.leaders.elsewhere c.loop-k.k _ within in
    let read : c.index-leader.result.now ≡ _ = c.index-leader.ensures in
    let less = leads_within c.args.self.now.placings.items _ c.index-leader.result.now c.requires.within (subst (λ i. HasLeader c.args.self.now.placings.items i i) (sym read) leads) in
    let size = c.loop-k.invariant.size in
    let still = gives_still (g.A.Archive.reads c.args.archive.now) (g.A.Archive.reads c.loop-k.archive) (g.A.Archive.size c.args.archive.now) (g.A.Archive.size c.loop-k.archive) bytes c.loop-k.invariant.alike size gives in
    (c.in_ok-has_key-2.ensures.same (bytes c.index-leader.result.now) (still c.index-leader.result.now (omega (arith, less, size)))).0 c.if-branch-2.true

pub loop-k-preserved : goal.loop-k-preserved
loop-k-preserved g c = record {
  size = c.in_ok-has_key-2.ensures.size ∙ c.loop-k.invariant.size;
  alike = alike_trans (g.A.Archive.reads c.args.archive.now) (g.A.Archive.reads c.loop-k.archive) (g.A.Archive.reads c.has_key-in-loop-k.new.archive) c.loop-k.invariant.alike c.in_ok-has_key-2.ensures.alike;
  quiet = c.in_ok-has_key-2.ensures.noted ∙ c.loop-k.invariant.quiet;
  colliding = λ bytes gives j less same.
      elim (cases_lt j c.loop-k.k) [
        | inl before ↦ c.loop-k.invariant.colliding bytes gives j before same
        | inr not ↦
            let within : c.loop-k.k < length c.args.self.now.colliding.items = omega (arith, c.loop-k-test.true, c.len-k-end.ensures) in
            let e : c.loop-k.k ≡ j = omega (arith, not, less) in
            let leads = c.requires.leaders.elsewhere c.loop-k.k _ within in
            let read : c.index-leader.result.now ≡ slice_index c.args.self.now.colliding.items c.loop-k.k = c.index-leader.ensures ∙ get_or_default c.args.self.now.colliding.items c.loop-k.k _ 0 within in
            let now : c.index-leader.result.now ≡ _ = c.index-leader.ensures in
            let below = leads_within c.args.self.now.placings.items _ c.index-leader.result.now c.requires.within (subst (λ i. HasLeader c.args.self.now.placings.items i i) (sym now) leads) in
            let size = c.loop-k.invariant.size in
            let still = gives_still (g.A.Archive.reads c.args.archive.now) (g.A.Archive.reads c.loop-k.archive) (g.A.Archive.size c.args.archive.now) (g.A.Archive.size c.loop-k.archive) bytes c.loop-k.invariant.alike size gives in
            refuted (HasKey c.args.likeness (bytes c.index-leader.result.now) c.args.key.now) c.in_ok-has_key-2.field-0
            (c.in_ok-has_key-2.ensures.same (bytes c.index-leader.result.now) (still c.index-leader.result.now (omega (arith, below, size)))) c.if-branch-2.false
            (subst (λ i. HasKey c.args.likeness (bytes i) c.args.key.now) (sym (read ∙ ap (slice_index c.args.self.now.colliding.items) e)) same)
      ];
}

pub returns-clause-found : goal.returns-clause-found
returns-clause-found g c = λ bytes gives. (
  λ leader there same. elim c.match-get.branch [
    | in-Some+in_ok-has_key+else-branch w ↦
        let leads = c.requires.leaders.at_digests c.args.digest.now w.in-Some.leader.now (sym w.in-Some.ensures.value) in
        let below = leads_within c.args.self.now.placings.items _ w.in-Some.leader.now c.requires.within leads in
        let e = some_number w.in-Some.leader.now leader _ w.in-Some.ensures.value there in
        refuted (HasKey c.args.likeness (bytes w.in-Some.leader.now) c.args.key.now) w.in_ok-has_key.field-0
        (w.in_ok-has_key.ensures.same (bytes w.in-Some.leader.now) (gives w.in-Some.leader.now below)) w.if-branch.false
        (subst (λ i. HasKey c.args.likeness (bytes i) c.args.key.now) (sym e) same)
    | in_default w ↦ some_none leader _ w.in_default.ensures.value there
  ],
  λ j d less same. c.loop-k.invariant.colliding bytes gives j (omega (arith, less, c.loop-k-test.false, c.len-k-end.ensures, c.loop-k.auto.k-end))
      (subst (λ i. HasKey c.args.likeness (bytes i) c.args.key.now) (get_or_default c.args.self.now.colliding.items j d 0 less) same),
)

pub returns-in_err-has_key-clause-fault : goal.returns-in_err-has_key-clause-fault
returns-in_err-has_key-clause-fault g c = λ digest_of digests.
    let leader = c.in-Some.leader.now in
    let l = c.args.likeness in
    let digest = c.args.digest.now in
    let placings = c.args.self.now.placings.items in
    let at = sym c.in-Some.ensures.value in
    let leads = c.requires.leaders.at_digests digest leader at in
    let archive = c.args.archive.now in
    let R = g.A.Archive.reads archive in
    returned (λ fault. (fault ≡ flow.OutOfMemory → ⊥) → IsNotCompared l digest_of R (g.A.Archive.noted archive) (g.A.Archive.noted c.has_key.new.archive) placings digest fault)
    _ c.from_residual.result c.from_residual.ensures.1
    (λ fault gives. not_compared l digest_of R R (g.A.Archive.noted archive) (g.A.Archive.noted archive) (g.A.Archive.noted c.has_key.new.archive) placings digest leader
    c.in_err-has_key.field-0.0 fault (λ k r h. h) refl leads (inl (digests.at_digests digest leader at)) c.in_err-has_key.ensures.fault c.in_err-has_key.ensures.noted gives)

pub returns-in_err-has_key-2-clause-fault : goal.returns-in_err-has_key-2-clause-fault
returns-in_err-has_key-2-clause-fault g c = λ digest_of digests.
    let placings = c.args.self.now.placings.items in
    let l = c.args.likeness in
    let digest = c.args.digest.now in
    let within : c.loop-k.k < length c.args.self.now.colliding.items = omega (arith, c.loop-k-test.true, c.len-k-end.ensures) in
    let leader = c.index-leader.result.now in
    let read : c.index-leader.result.now ≡ _ = c.index-leader.ensures in
    let leads = subst (λ i. HasLeader placings i i) (sym read) (c.requires.leaders.elsewhere c.loop-k.k _ within) in
    let archive = c.args.archive.now in
    let here = c.loop-k.archive in
    let R = g.A.Archive.reads archive in
    let collides = subst (Collides l digest_of R placings) (sym read) (digests.elsewhere c.loop-k.k _ within) in
    returned (λ fault. (fault ≡ flow.OutOfMemory → ⊥) → IsNotCompared l digest_of R (g.A.Archive.noted archive) (g.A.Archive.noted c.has_key-in-loop-k.new.archive) placings digest fault)
    _ c.from_residual-in_err-has_key-2.result c.from_residual-in_err-has_key-2.ensures.1
    (λ fault gives. not_compared l digest_of R (g.A.Archive.reads here) (g.A.Archive.noted archive) (g.A.Archive.noted here) (g.A.Archive.noted c.has_key-in-loop-k.new.archive) placings digest leader
    c.in_err-has_key-2.field-0.0 fault (λ k r. (c.loop-k.invariant.alike k r).1) c.loop-k.invariant.quiet leads (inr collides) c.in_err-has_key-2.ensures.fault c.in_err-has_key-2.ensures.noted gives)

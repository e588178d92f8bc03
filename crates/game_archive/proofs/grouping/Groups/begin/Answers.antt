use Rattle.std.proofs.Common.{◌≡◌, ◌∙◌, arith, inl, inr, length, refl, rules, sym}
use Rattle.std.specs.Vec.{vec_len}
use Rattle.game_archive.proofs.Placed.{absent_none, began_inserted, began_pushed, leaders_inserted, leaders_pushed}
use Rattle.game_archive.proofs.grouping.Groups.begin.Goals as goal

pub returns-in_ok-push-2-clause-leaders : goal.returns-in_ok-push-2-clause-leaders
returns-in_ok-push-2-clause-leaders c =
    let n : vec_len c.args.self.now.placings ≡ length c.args.self.now.placings.items = omega arith in
    rw c.in_ok-push.ensures.items (rw c.in_ok-push-2.ensures.items (rw c.len-at.ensures (rw n
    (leaders_pushed c.args.self.now.placings.items c.args.self.now.by_digest c.args.self.now.colliding.items c.requires.leaders))))

pub returns-in_ok-push-2-clause-groups : goal.returns-in_ok-push-2-clause-groups
returns-in_ok-push-2-clause-groups c = λ likeness bytes digest_of key is has none old.
    let n : vec_len c.args.self.now.placings ≡ length c.args.self.now.placings.items = search rules in
    rw c.in_ok-push.ensures.items (rw c.in_ok-push-2.ensures.items (rw c.len-at.ensures (rw n
    (began_pushed likeness bytes digest_of c.args.self.now.placings.items key c.args.digest.now c.args.self.now.by_digest c.args.self.now.colliding.items is has none old))))

pub returns-in_ok-insert-clause-leaders : goal.returns-in_ok-insert-clause-leaders
returns-in_ok-insert-clause-leaders c =
    let n : vec_len c.args.self.now.placings ≡ length c.args.self.now.placings.items = omega arith in
    let updates = rw n at (rw c.len-at.ensures at c.in_ok-insert.ensures.updates) in
    rw c.in_ok-push.ensures.items (rw c.len-at.ensures (rw n
    (leaders_inserted c.args.self.now.placings.items c.args.digest.now c.args.self.now.by_digest c.insert.new.self c.args.self.now.colliding.items updates.0 c.requires.leaders)))

pub returns-in_ok-insert-clause-groups : goal.returns-in_ok-insert-clause-groups
returns-in_ok-insert-clause-groups c = λ likeness bytes digest_of key is has none old.
    let n : vec_len c.args.self.now.placings ≡ length c.args.self.now.placings.items = omega arith in
    let updates = rw n at (rw c.len-at.ensures at c.in_ok-insert.ensures.updates) in
    let absent = absent_none _ (sym c.contains_key.ensures ∙ c.if-contains_key.false) in
    rw c.in_ok-push.ensures.items (rw c.len-at.ensures (rw n
    (began_inserted likeness bytes digest_of c.args.self.now.placings.items key c.args.digest.now c.args.self.now.by_digest c.insert.new.self c.args.self.now.colliding.items
    absent updates.0 updates.1 is has none old)))

pub returns-in_ok-push-2-clause-added : goal.returns-in_ok-push-2-clause-added
returns-in_ok-push-2-clause-added c =
    let n : vec_len c.args.self.now.placings ≡ length c.args.self.now.placings.items = omega arith in
    rw c.in_ok-push-2.ensures.items (rw c.len-at.ensures (rw n (inr (sym c.contains_key.ensures ∙ c.if-contains_key.true, refl, refl))))

pub returns-in_ok-insert-clause-added : goal.returns-in_ok-insert-clause-added
returns-in_ok-insert-clause-added c =
    let n : vec_len c.args.self.now.placings ≡ length c.args.self.now.placings.items = omega arith in
    let updates = rw n at (rw c.len-at.ensures at c.in_ok-insert.ensures.updates) in
    inl (refl, updates.0)

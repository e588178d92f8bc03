use Rattle.std.proofs.Common.{◌≡◌, ℕ, ◌+◌, ◌<◌, [], ◌∷◌, ◌++◌, ◌∙◌, ap, arith, length, subst, sym}
use Rattle.std.specs.Prelude.{IsTrue}
use Rattle.std.specs.BTreeSet.{contains}
use Rattle.std.specs.Ordering.{nat_cmp}
use Rattle.game_archive.proofs.Listed.{Lists, Rise, leader_read, lists_sorted, never, no_leader_read, once_sorted, pairs_pass, pairs_push, rise_push}
use Rattle.game_archive.proofs.Placed.{leader_is}
use Rattle.game_archive.proofs.listing.copies.Goals.{in-Group+then-contains+in_ok-push, in-Group+else-contains, in_default}
use Rattle.game_archive.proofs.listing.copies.Goals as goal

pub loop-at-preserved : goal.loop-at-preserved
loop-at-preserved c =
    let Passes = λ (leader : ℕ). IsTrue (contains nat_cmp c.in_ok-shared.shared leader) in
    let placings = c.args.placings.now in
    let n = c.loop-at.at in
    let old = c.loop-at.pairs.items in
    let less : c.loop-at.at < length c.args.placings.now = omega (arith, c.loop-at-test.true) in
    elim c.match-placings-at.branch [
      | in-Group+then-contains+in_ok-push w ↦
          let lead = w.in-Group.leader in
          let leads = leader_read placings n lead _ less w.in-Group.is in
          let passes = sym w.contains.ensures ∙ w.if-contains.true in
          let e : c.match-placings-at.pairs.items ≡ old ++ (lead, n) ∷ [] = ap (λ v. v.items) w.pairs-is ∙ w.in_ok-push.ensures.items in
          record {
            lists = subst (Lists Passes placings (n + 1)) (sym e) (pairs_push Passes placings n old lead leads passes c.loop-at.invariant.lists);
            rise = subst Rise (sym e) (rise_push Passes placings n old lead c.loop-at.invariant.lists c.loop-at.invariant.rise);
          }
      | in-Group+else-contains w ↦
          let e : c.match-placings-at.pairs.items ≡ old = ap (λ v. v.items) w.pairs-is in
          record {
            lists = subst (Lists Passes placings (n + 1)) (sym e) (pairs_pass Passes placings n old
                (λ lead h holds. let same = leader_is placings n lead w.in-Group.leader h (leader_read placings n w.in-Group.leader _ less w.in-Group.is) in
                let no_pass = sym w.contains.ensures ∙ w.if-contains.false in
                never (contains nat_cmp c.in_ok-shared.shared w.in-Group.leader) (subst Passes same holds) no_pass) c.loop-at.invariant.lists);
            rise = subst Rise (sym e) c.loop-at.invariant.rise;
          }
      | in_default w ↦
          let e : c.match-placings-at.pairs.items ≡ old = ap (λ v. v.items) w.pairs-is in
          record {
            lists = subst (Lists Passes placings (n + 1)) (sym e) (pairs_pass Passes placings n old (λ lead h holds. no_leader_read placings n _ less w.in_default.not-Group lead h) c.loop-at.invariant.lists);
            rise = subst Rise (sym e) c.loop-at.invariant.rise;
          }
    ]

pub returns-clause-members : goal.returns-clause-members
returns-clause-members c =
    lists_sorted (λ leader. IsTrue (contains nat_cmp c.in_ok-shared.shared leader)) c.args.placings.now c.loop-at.at c.loop-at.pairs.items c.sort.new.self.items
    c.in_ok-shared.ensures (omega (arith, c.loop-at-test.false, c.loop-at.auto.at-end)) c.in_ok-sort.ensures.permutation c.loop-at.invariant.lists

pub returns-clause-once : goal.returns-clause-once
returns-clause-once c = once_sorted c.loop-at.pairs.items c.sort.new.self.items c.in_ok-sort.ensures.permutation c.loop-at.invariant.rise

use Rattle.std.proofs.Common.{◌<◌, ◌+◌, arith, length, sym, subst}
use Rattle.game_archive.proofs.Listed.{Seen, leader_read, no_leader_read, seen_insert, seen_pass}
use Rattle.game_archive.proofs.Placed.{leader_is}
use Rattle.game_archive.proofs.listing.shared_leaders.Goals.{in-Group+then-leader-at+in_ok-insert, in-Group+else-leader-at, in_default}
use Rattle.game_archive.proofs.listing.shared_leaders.Goals as goal

pub loop-at-preserved : goal.loop-at-preserved
loop-at-preserved c =
    let less : c.loop-at.at < length c.args.placings.now = omega (arith, c.loop-at-test.true) in
    elim c.match-placings-at.branch [
      | in-Group+then-leader-at+in_ok-insert w ↦
          let updates = w.in_ok-insert.ensures.updates in
          subst (Seen c.args.placings.now (c.loop-at.at + 1)) (sym w.shared-is)
          (seen_insert c.args.placings.now c.loop-at.at w.in-Group.leader c.loop-at.shared w.insert.new.self updates.0 updates.1 (omega (arith, w.if-leader-at.true)) (leader_read c.args.placings.now c.loop-at.at w.in-Group.leader _ less w.in-Group.is) c.loop-at.invariant)
      | in-Group+else-leader-at w ↦
          let own = w.if-leader-at.false in
          subst (Seen c.args.placings.now (c.loop-at.at + 1)) (sym w.shared-is)
          (seen_pass c.args.placings.now c.loop-at.at c.loop-at.shared
          (λ lead h. let e = leader_is c.args.placings.now c.loop-at.at lead w.in-Group.leader h (leader_read c.args.placings.now c.loop-at.at w.in-Group.leader _ less w.in-Group.is) in omega (arith, e, own)) c.loop-at.invariant)
      | in_default w ↦
          subst (Seen c.args.placings.now (c.loop-at.at + 1)) (sym w.shared-is)
          (seen_pass c.args.placings.now c.loop-at.at c.loop-at.shared (λ lead h. absurd (no_leader_read c.args.placings.now c.loop-at.at _ less w.in_default.not-Group lead h)) c.loop-at.invariant)
    ]

use Rattle.std.proofs.Common.{◌≡◌, ◌<◌, ◌++◌, List, [], ◌∷◌, None, length, ap, ◌∙◌, sym, subst, inl, inr, refl, arith}
use Rattle.std.proofs.lemmas.Grind.{common_steps}
use Rattle.std.specs.Prelude.{◌⊎◌, Some}
use Rattle.shogi_board.specs.After.{after}
use Rattle.shogi_board.specs.Legal.{Mated, NoDropMate}
use Rattle.shogi_board.specs.Placed.{Placed}
use Rattle.shogi_board.specs.declared.moves.Move.{Move}
use Rattle.shogi_board.proofs.Broken.{mate-by-side, no-mate, none-by-side, unkept-by-side}
use Rattle.shogi_rules.specs.Counting.{IsSeen}
use Rattle.shogi_rules.specs.Play.{Answers, Breaks}
use Rattle.shogi_rules.specs.Lines.{IsOpen}
use Rattle.shogi_rules.specs.Positions.{now_of, position_after, positions_of, Played}
use Rattle.shogi_rules.specs.declared.line.PlayFault.TheVariants.{OutOfMemory}
use Rattle.shogi_rules.proofs.Games.{breaks-of, line-more, line-room, positions-more, position-more}
use Rattle.shogi_rules.proofs.line.Line.play.Goals as goal

pub returns-in-Some-clause-answer : goal.returns-in-Some-clause-answer
returns-in-Some-clause-answer c =
    inr (c.in-Some.ensures c.args.mv)

pub returns-then-is_err-clause-answer : goal.returns-then-is_err-clause-answer
returns-then-is_err-clause-answer c =
    let i = c.self.inside in
    let kept : c.reserve.new.self.items ≡ i.moves.items = grind (arith, common_steps) in
    let same : record { start = i.start; moves = c.reserve.new.self.items } ≡ c.args.self.now = ap (λ (ms : List Move). record { start = i.start; moves = ms }) kept ∙ c.self.view_is in
    let r = c.fault_without_room.result in
    subst (λ (s : Played). ((r ≡ OutOfMemory) × Answers s c.args.mover c.args.mv None) ⊎ Answers s c.args.mover c.args.mv (Some r)) same c.fault_without_room.ensures

pub returns-in-Err-clause-answer : goal.returns-in-Err-clause-answer
returns-in-Err-clause-answer c =
    let i = c.self.inside in
    let e : i.last ≡ now_of c.args.self.now = c.self.invariant.2 ∙ ap now_of c.self.view_is in
    inr (c.in_default.ensures.few, breaks-of c.args.self.now i.last c.args.mover c.args.mv _ e c.in_default.ensures (unkept-by-side i.last c.args.mv c.in-Err.rule c.in-Err.ensures.answer))

pub push-requires : goal.push-requires
push-requires c =
    let i = c.self.inside in
    let few : length i.moves.items < 10000 = rw (← c.self.view_is) at c.in_default.ensures.few in
    (positions_of i.start i.moves.items, position_after i.start i.moves.items, line-room i.start i.moves.items few, c.self.invariant.1)

pub invariant_of-self-in-Ok : goal.invariant_of-self-in-Ok
invariant_of-self-in-Ok c =
    let i = c.self.inside in
    let v : Played = record { start = i.start; moves = i.moves.items } in
    let next = c.play.new.self in
    let may : IsOpen v c.args.mover = subst (λ (s : Played). IsOpen s c.args.mover) (sym c.self.view_is) c.in_default.ensures in
    let free : NoDropMate i.last c.args.mv = no-mate i.last next c.args.mv _ c.in_default-play.ensures.played c.if-mates.false c.mates.ensures in
    let none : Breaks v c.args.mover c.args.mv None = breaks-of v i.last c.args.mover c.args.mv None c.self.invariant.2 may (none-by-side i.last c.args.mv c.in_default-play.ensures.answer free) in
    let after_all : next ≡ after (position_after i.start i.moves.items) c.args.mv = c.in_default-play.ensures.played ∙ ap (λ (q : Placed). after q c.args.mv) c.self.invariant.2 in
    let pushed : c.push_reserved.new.self.items ≡ i.moves.items ++ c.args.mv ∷ [] = grind (arith, common_steps) in
    let ps = positions_of i.start i.moves.items in
    let now : next ≡ position_after i.start c.push_reserved.new.self.items = after_all ∙ (sym (position-more i.start i.moves.items c.args.mv) ∙ ap (position_after i.start) (sym pushed)) in
    let all : ps ++ next ∷ [] ≡ positions_of i.start c.push_reserved.new.self.items =
    ap (λ (q : Placed). ps ++ q ∷ []) after_all ∙ (sym (positions-more i.start i.moves.items c.args.mv) ∙ ap (positions_of i.start) (sym pushed)) in
    let seen : IsSeen (ps ++ next ∷ []) next c.push.new.self = c.in-Ok.ensures.ok ps (position_after i.start i.moves.items) c.self.invariant.1 in (
      rw pushed (line-more i.start i.moves.items c.args.mover c.args.mv c.self.invariant.0 may.few none),
      rw (← all, ← now) seen,
      now,
      c.self.invariant.3,
    )

pub returns-in-Ok-clause-answer : goal.returns-in-Ok-clause-answer
returns-in-Ok-clause-answer c =
    let i = c.self.inside in
    let e : i.last ≡ now_of c.args.self.now = c.self.invariant.2 ∙ ap now_of c.self.view_is in
    let free : NoDropMate i.last c.args.mv = no-mate i.last c.play.new.self c.args.mv _ c.in_default-play.ensures.played c.if-mates.false c.mates.ensures in
    (c.in_default.ensures.few, breaks-of c.args.self.now i.last c.args.mover c.args.mv None e c.in_default.ensures (none-by-side i.last c.args.mv c.in_default-play.ensures.answer free))

pub returns-in-Err-push-clause-answer : goal.returns-in-Err-push-clause-answer
returns-in-Err-push-clause-answer c =
    let i = c.self.inside in
    let e : i.last ≡ now_of c.args.self.now = c.self.invariant.2 ∙ ap now_of c.self.view_is in
    let free : NoDropMate i.last c.args.mv = no-mate i.last c.play.new.self c.args.mv _ c.in_default-play.ensures.played c.if-mates.false c.mates.ensures in
    inl (refl, (c.in_default.ensures.few, breaks-of c.args.self.now i.last c.args.mover c.args.mv None e c.in_default.ensures (none-by-side i.last c.args.mv c.in_default-play.ensures.answer free)))

pub returns-then-mates-clause-answer : goal.returns-then-mates-clause-answer
returns-then-mates-clause-answer c =
    let i = c.self.inside in
    let e : i.last ≡ now_of c.args.self.now = c.self.invariant.2 ∙ ap now_of c.self.view_is in
    let mates = c.mates.ensures.0 c.if-mates.true in
    let mated = subst (λ (q : Placed). Mated q) c.in_default-play.ensures.played mates.1 in
    inr (c.in_default.ensures.few, breaks-of c.args.self.now i.last c.args.mover c.args.mv _ e c.in_default.ensures (mate-by-side i.last c.args.mv c.in_default-play.ensures.answer mates.0 mated))

pub invariant_of-self : goal.invariant_of-self
invariant_of-self c =
    let kept : c.reserve.new.self.items ≡ c.self.inside.moves.items = grind (arith, common_steps) in
    rw kept c.self.invariant

pub invariant_of-self-in-Err : goal.invariant_of-self-in-Err
invariant_of-self-in-Err c =
    let kept : c.reserve.new.self.items ≡ c.self.inside.moves.items = grind (arith, common_steps) in
    rw (kept, c.in-Err.ensures.unchanged) c.self.invariant

pub invariant_of-self-then-mates : goal.invariant_of-self-then-mates
invariant_of-self-then-mates c =
    let i = c.self.inside in
    let kept : c.reserve.new.self.items ≡ i.moves.items = grind (arith, common_steps) in
    let back : c.from-self-inside.result ≡ position_after i.start i.moves.items = c.from-self-inside.ensures.0 ∙ c.last.ensures _ (position_after i.start i.moves.items) c.self.invariant.1 in
    rw kept (c.self.invariant.0, c.self.invariant.1, back, c.self.invariant.3)

pub invariant_of-self-in-Err-push : goal.invariant_of-self-in-Err-push
invariant_of-self-in-Err-push c =
    let i = c.self.inside in
    let kept : c.reserve.new.self.items ≡ i.moves.items = grind (arith, common_steps) in
    let seen : IsSeen (positions_of i.start i.moves.items) (position_after i.start i.moves.items) c.push.new.self = rw c.in-Err-push.ensures.err c.self.invariant.1 in
    let back : c.from-self-inside-in-Err-push.result ≡ position_after i.start i.moves.items = c.from-self-inside-in-Err-push.ensures.0 ∙ c.last-in-Err-push.ensures _ (position_after i.start i.moves.items) seen in
    rw kept (c.self.invariant.0, seen, back, c.self.invariant.3)

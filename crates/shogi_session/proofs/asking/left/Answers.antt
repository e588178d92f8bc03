use Rattle.std.proofs.Common.{◌≡◌, length, arith, ap, ◌∙◌}
use Rattle.std.proofs.lemmas.List.{length-map}
use Rattle.shogi_rules.specs.Positions.{Played}
use Rattle.csa_record.specs.Game.{move_of}
use Rattle.shogi_session.proofs.Asked.{left_more}
use Rattle.shogi_session.proofs.asking.left.Goals as goal

pub loop-i-preserved : goal.loop-i-preserved
loop-i-preserved c =
    let moves = c.args.game.now.moves in
    let count : length c.moves-i-end.result.now ≡ length moves =
    ap length (c.moves-i-end.ensures.value ∙ ap (λ (l : Played). l.moves) c.line-2.ensures.value) ∙ length-map moves move_of in
    left_more c.args.color c.loop-i.side c.not-side.result moves c.loop-i.i c.loop-i.left c.less-left.result _ c.time.result (omega (arith, c.loop-i-test.true, count)) c.time.ensures.value c.less-left.ensures c.not-side.ensures c.loop-i.invariant

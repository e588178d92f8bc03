use Rattle.std.proofs.Common.{◌≡◌, ◌-◌, ◌+◌, suc, arith, ◌∙◌, ap, ◌++◌}
use Rattle.usi_text.specs.SfenText.{rank_text, board_text}
use Rattle.usi_text.proofs.Written.{rank_more}
use Rattle.usi_text.proofs.writing.push_board.Goals as goal

pub loop-rank-preserved : goal.loop-rank-preserved
loop-rank-preserved c =
    let r = c.loop-rank.rank in
    let one : 10 - r ≡ suc (10 - (r + 1)) = omega arith in
    let board = c.args.position.now.material.board in
    rank_more board r (10 - r) (10 - (r + 1)) c.loop-rank.text.items c.push_rank-in-loop-rank.new.text.items (c.args.text.now.items ++ board_text board) one c.loop-rank.invariant
    (c.in_ok-push_rank-2.ensures ∙ ap (λ x. x ++ rank_text board r) c.in_ok-push.ensures.items)

use Rattle.std.proofs.Common.{◌≡◌, ◌-◌, ◌+◌, suc, arith, ◌∙◌, ap, ◌++◌, sym}
use Rattle.usi_text.specs.Letters.{piece_text}
use Rattle.usi_text.specs.SfenText.{cells_from, rank_text}
use Rattle.usi_text.proofs.Runs.{after_is}
use Rattle.usi_text.proofs.Written.{left_none, left_piece}
use Rattle.usi_text.proofs.writing.push_rank.Goals as goal
use Rattle.usi_text.proofs.writing.push_rank.Goals.{in-None, in-Some+in_ok-push_run-in-Some+in_ok-push_piece-in-Some}

pub loop-right-init : goal.loop-right-init
loop-right-init c = record {
  text = ap (λ t. c.args.text.now.items ++ t) (after_is 0 (cells_from c.args.position.now.material.board c.args.rank 9));
  few = omega arith;
}

pub loop-right-preserved : goal.loop-right-preserved
loop-right-preserved c =
    let r = c.loop-right.right in
    let one : 9 - r ≡ suc (9 - (r + 1)) = omega arith in
    let board = c.args.position.now.material.board in
    let w = c.args.text.now.items ++ rank_text board c.args.rank in
    elim c.match-cell.branch [
      | in-None w ↦ record {
        text = rw (w.text-is, w.empty-is) (left_none board c.args.rank (9 - r) (9 - (r + 1)) c.loop-right.empty c.loop-right.text.items _ one (sym c.cell.ensures ∙ w.in-None.is) c.loop-right.invariant.text);
        few = omega (arith, w.empty-is);
      }
      | in-Some+in_ok-push_run-in-Some+in_ok-push_piece-in-Some w ↦ record {
        text = rw (w.text-is, w.empty-is) (left_piece board c.args.rank (9 - r) (9 - (r + 1)) c.loop-right.empty w.in-Some.piece c.loop-right.text.items w.push_piece.new.text.items _ one (sym c.cell.ensures ∙ w.in-Some.is) c.loop-right.invariant.text (w.in_ok-push_piece-in-Some.ensures ∙ ap (λ x. x ++ piece_text w.in-Some.piece) w.in_ok-push_run-in-Some.ensures));
        few = omega (arith, w.empty-is);
      }
    ]

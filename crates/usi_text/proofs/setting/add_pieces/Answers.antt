use Rattle.std.proofs.Common.{◌∙◌}
use Rattle.std.proofs.lemmas.Result.{err_from_is_err_and}
use Rattle.usi_text.proofs.Settings.{held_more, held_fault}
use Rattle.usi_text.proofs.setting.add_pieces.Goals as goal

pub loop-preserved : goal.loop-preserved
loop-preserved c = λ others.
    c.loop.invariant others ∙ held_more c.loop.setup c.add_hand.new.self c.args.piece c.args.count c.loop.counter others c.loop-test.true c.in_ok-add_hand.ensures.answer c.in_ok-add_hand.ensures.changed

pub returns-in_err-add_hand : goal.returns-in_err-add_hand
returns-in_err-add_hand c = λ others.
    let p = err_from_is_err_and c.from_residual.result c.from_residual.ensures.1 in
    rw (p.1, p.2) (c.loop.invariant others ∙ held_fault c.loop.setup c.args.piece c.args.count c.loop.counter others c.in_err-add_hand.field-0.0 c.loop-test.true c.in_err-add_hand.ensures.answer)

use Rattle.std.proofs.Common.{refl}
use Rattle.std.proofs.lemmas.Result.{err_from_is_err_and}
use Rattle.session_commands.specs.Playing.{not_tried, played_for}
use Rattle.session_commands.proofs.play.play_for.Goals as goal

pub returns-in_err-draft : goal.returns-in_err-draft
returns-in_err-draft g c =
    let p = err_from_is_err_and c.from_residual.result c.from_residual.ensures.1 in
    rw (p.1, p.2) (not_tried _ c.in_err-draft.ensures.unbegun refl)

pub returns : goal.returns
returns g c = played_for _ _ _ c.in_ok-draft.ensures.begun c.play_in.ensures.played

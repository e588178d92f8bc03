use Rattle.std.proofs.Common.{refl}
use Rattle.std.proofs.lemmas.Result.{err_from_is_err_and}
use Rattle.session_commands.specs.Playing.{not_played}
use Rattle.session_commands.proofs.Outcomes.{is_reported}
use Rattle.session_commands.proofs.play.report.Goals as goal

pub returns-in_err-moves : goal.returns-in_err-moves
returns-in_err-moves g c =
    let p = err_from_is_err_and c.from_residual.result c.from_residual.ensures.1 in
    rw (p.1, p.2) (not_played _ c.in_err-moves.ensures refl)

pub returns : goal.returns
returns g c = is_reported _ g.W.Write.contents _ _ _ _ c.in_ok-moves.ensures c.print_moves.ensures.printed c.print_moves.ensures.unprinted

use Rattle.std.proofs.Common.{◌≡◌, refl, rules, string_bytes}
use Rattle.std.proofs.lemmas.Result.{err_from_is_err_and}
use Rattle.session_commands.specs.Playing.{is_closed, no_text, not_closed}
use Rattle.session_commands.proofs.play.close_log.Goals as goal

pub returns-in_err-text : goal.returns-in_err-text
returns-in_err-text g c =
    let p = err_from_is_err_and c.from_residual.result c.from_residual.ensures.1 in
    rw (p.1, p.2) (no_text refl)

pub returns-in_err-close : goal.returns-in_err-close
returns-in_err-close g c =
    let p = err_from_is_err_and c.from_residual-in_err-close.result c.from_residual-in_err-close.ensures.1 in
    let same : c.as_bytes.result.now ≡ string_bytes c.in_ok-text.text = search rules in
    rw (p.1, p.2) (not_closed _ (rw (← c.in_ok-text.ensures, ← same) c.in_err-close.ensures.unclosed) c.in_err-close.ensures.faults)

pub returns : goal.returns
returns g c =
    let same : c.as_bytes.result.now ≡ string_bytes c.in_ok-text.text = search rules in
    is_closed (rw (← c.in_ok-text.ensures, ← same) c.in_ok-close.ensures.closed)

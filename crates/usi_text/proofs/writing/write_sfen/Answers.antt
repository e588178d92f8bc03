use Rattle.usi_text.proofs.Again.{again}
use Rattle.usi_text.proofs.writing.write_sfen.Goals as goal

pub returns-clause-again : goal.returns-clause-again
returns-clause-again c =
    let p = c.args.position.now in
    let e = c.in_ok-push_sfen.ensures.text in
    rw (e, c.new-text.ensures.items) (again p c.in_ok-push_sfen.ensures.sound)

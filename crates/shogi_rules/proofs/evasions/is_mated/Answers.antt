use Rattle.shogi_board.proofs.Check.{one-king}
use Rattle.shogi_rules.proofs.Checks.{mated-then}
use Rattle.shogi_rules.proofs.evasions.is_mated.Goals as goal

pub has_evasion-requires-clause-check : goal.has_evasion-requires-clause-check
has_evasion-requires-clause-check c =
    let p = c.args.situation.now in
    let checks = c.in-Some.ensures.answer in
    let king = rw (c.side.ensures.value, c.as_ref-position.ensures.value) at c.in-Some-king.ensures.answer in
    let within = rw c.as_ref-position.ensures.value at c.side.ensures.sound.within in
    let same = one-king p.material.board p.side c.in-Some-king.king checks.0 within.squares (within.kings p.side) king checks.1 in
    rw same at checks.2

pub returns : goal.returns
returns c =
    let checks = c.in-Some.ensures.answer in
    mated-then c.args.situation.now c.has_evasion.result (checks.0, checks.1, (c.in-Some.checker, checks.2)) c.has_evasion.ensures

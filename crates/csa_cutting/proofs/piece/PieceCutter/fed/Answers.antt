use Rattle.std.proofs.Common.{rules}
use Rattle.csa_cutting.proofs.Unfinished.{none_of_comment, is_open}
use Rattle.csa_cutting.proofs.piece.PieceCutter.fed.Goals as goal

pub returns-clause-comment : goal.returns-clause-comment
returns-clause-comment c =
    let s = c.self.inside in
    rw (← c.self.view_is) (none_of_comment s.place s.held.items c.self.invariant.2)

pub returns-clause-open : goal.returns-clause-open
returns-clause-open c =
    let s = c.self.inside in
    rw (← c.self.view_is) (is_open s.place s.held.items c.self.invariant.2)

pub returns-clause-count : goal.returns-clause-count
returns-clause-count c = search rules

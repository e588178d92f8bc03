use Rattle.std.proofs.Common.{arith, sym, ◌∙◌}
use Rattle.csa_cutting.proofs.Unspoken.{unspoken_leads}
use Rattle.csa_cutting.proofs.Words.{none_of}
use Rattle.csa_cutting.proofs.piece.PieceCutter.take_unspoken.Goals as goal

pub returns-clause-leads : goal.returns-clause-leads
returns-clause-leads c =
    let s = c.self.inside in
    let u = c.in_ok-unspoken in
    unspoken_leads c.args.self.now s.place s.held.items c.clear_in_comment.new.held.items c.args.piece.now s.fed s.number s.refused u.unspoken c.self.view_is (none_of s.refused (sym c.is_some.ensures ∙ c.if-is_some.false)) (omega (arith, c.self.invariant.0)) c.clear_in_comment.ensures.comment u.ensures.some (u.ensures.unspoken s.held.items c.self.invariant.2)

use Rattle.std.proofs.Common.{◌≡◌, arith, refl, sym, ◌∙◌, rules}
use Rattle.csa_cutting.specs.declared.units.Place.TheVariants.{Gap}
use Rattle.csa_cutting.proofs.Fronts.{turned_false}
use Rattle.csa_cutting.proofs.Words.{none_of, word_stepped}
use Rattle.csa_cutting.proofs.piece.PieceCutter.take_word.Goals as goal

pub returns-clause-stepped : goal.returns-clause-stepped
returns-clause-stepped c =
    let s = c.self.inside in
    let gap : s.place ≡ Gap = search (rules, c.if-ne.ensures) in
    word_stepped c.args.self.now s.place s.held.items c.clear.new.self.items c.args.piece.now c.args.size s.fed s.number s.refused _
    c.self.view_is gap (none_of s.refused (sym c.is_some.ensures ∙ c.if-is_some.false)) (omega (arith, c.self.invariant.0)) c.clear.ensures (omega (arith, c.if-size-piece.false)) c.requires.short c.requires.word
    (λ first plain. turned_false _ (sym (c.is_in_statement.ensures first plain) ∙ c.if-is_in_statement.false)) refl refl refl

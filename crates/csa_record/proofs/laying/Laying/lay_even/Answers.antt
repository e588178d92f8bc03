use Rattle.std.proofs.Common.{true, refl, sym, ap, ◌∙◌, subst}
use Rattle.csa_text.specs.Saying.{even, pairs_of}
use Rattle.record_game.specs.Laying.{Lays}
use Rattle.shogi_board.specs.Placing.{place_all}
use Rattle.record_game.specs.Placings.{placings_of}
use Rattle.record_game.proofs.LaidNext.{laid_as, mixed, refused, taken, even_late, even_fits, begins_even, same_ranks, or_one}
use Rattle.csa_record.proofs.laying.Laying.lay_even.Goals as goal

pub returns-then-self-clause-taken : goal.returns-then-self-clause-taken
returns-then-self-clause-taken c = λ before lays s e.
    let l = laid_as c.self.inside.setup c.self.inside.positioned c.self.inside.even c.self.inside.ranks in
    let ps = pairs_of c.args.pairs in
    let so = subst (Lays before) (sym c.self.view_is) lays in
    mixed before (even ps) l (even_late before l ps so s e c.if-self.true)

pub returns-in-Err-clause-taken : goal.returns-in-Err-clause-taken
returns-in-Err-clause-taken c = λ before lays s e.
    let l = laid_as c.self.inside.setup c.self.inside.positioned c.self.inside.even c.self.inside.ranks in
    let ps = pairs_of c.args.pairs in
    let so = subst (Lays before) (sym c.self.view_is) lays in
    refused before l l (even ps) c.in-Err.fault so refl (even_fits before l ps so s e c.if-self.false)
    (ap (λ t. place_all t (placings_of (even ps))) (begins_even before l ps so c.if-self.false) ∙ c.in-Err.ensures)

pub returns-clause-taken : goal.returns-clause-taken
returns-clause-taken c = λ before lays s e.
    let l = laid_as c.self.inside.setup c.self.inside.positioned c.self.inside.even c.self.inside.ranks in
    let new = laid_as c.take_off_pairs.new.setup true true c.self.inside.ranks in
    let ps = pairs_of c.args.pairs in
    let so = subst (Lays before) (sym c.self.view_is) lays in
    taken before l new (even ps) so refl (even_fits before l ps so s e c.if-self.false)
    (ap (λ t. place_all t (placings_of (even ps))) (begins_even before l ps so c.if-self.false) ∙ c.in_default.ensures)
    refl (or_one l.even) (same_ranks l new (even ps) refl refl)

use Rattle.std.proofs.Common.{true, refl, sym, ap, ◌∙◌, subst}
use Rattle.csa_text.specs.Saying.{pieces, pairs_of}
use Rattle.record_game.specs.Laying.{Lays}
use Rattle.shogi_board.specs.Placing.{place_all}
use Rattle.record_game.specs.Placings.{placings_of}
use Rattle.record_game.proofs.LaidNext.{Begun, begun_on, begun_empty, laid_as, refused, taken, pieces_fit, same_ranks, or_none}
use Rattle.csa_record.proofs.laying.Laying.lay_pieces.Goals as goal
use Rattle.csa_record.proofs.laying.Laying.lay_pieces.Goals.{then-not-self, else-not-self}

pub returns-in-Err-clause-taken : goal.returns-in-Err-clause-taken
returns-in-Err-clause-taken c = λ before lays s e.
    let l = laid_as c.self.inside.setup c.self.inside.positioned c.self.inside.even c.self.inside.ranks in
    let item = pieces c.args.color (pairs_of c.args.pairs) in
    let so = subst (Lays before) (sym c.self.view_is) lays in
    let now = c.if-not-self.self-inside in
    let begun : Begun l item now.setup now.even now.ranks = elim c.if-not-self.branch [
      | then-not-self w ↦ rw w.self-inside-is (begun_empty l item w.empty-self-inside.result refl w.if-not-self.true w.empty-self-inside.ensures.value)
      | else-not-self w ↦ rw w.self-inside-is (begun_on l item w.if-not-self.false)
    ] in
    refused before l l item c.in-Err.fault so refl (pieces_fit before c.args.color (pairs_of c.args.pairs) s e)
    (ap (λ t. place_all t (placings_of item)) (sym begun.0) ∙ c.in-Err.ensures)

pub returns-clause-taken : goal.returns-clause-taken
returns-clause-taken c = λ before lays s e.
    let l = laid_as c.self.inside.setup c.self.inside.positioned c.self.inside.even c.self.inside.ranks in
    let item = pieces c.args.color (pairs_of c.args.pairs) in
    let so = subst (Lays before) (sym c.self.view_is) lays in
    let now = c.if-not-self.self-inside in
    let begun : Begun l item now.setup now.even now.ranks = elim c.if-not-self.branch [
      | then-not-self w ↦ rw w.self-inside-is (begun_empty l item w.empty-self-inside.result refl w.if-not-self.true w.empty-self-inside.ensures.value)
      | else-not-self w ↦ rw w.self-inside-is (begun_on l item w.if-not-self.false)
    ] in
    let new = laid_as c.place_pairs.new.setup true now.even now.ranks in
    taken before l new item so refl (pieces_fit before c.args.color (pairs_of c.args.pairs) s e)
    (ap (λ t. place_all t (placings_of item)) (sym begun.0) ∙ c.in_default.ensures)
    refl (begun.1 ∙ or_none l.even) (same_ranks l new item refl begun.2)

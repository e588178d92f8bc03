use Rattle.std.proofs.Common.{true, refl, sym, ap, ◌-◌, ◌∙◌, set, subst}
use Rattle.csa_text.specs.Saying.{rank}
use Rattle.record_game.specs.Laying.{Lays}
use Rattle.shogi_board.specs.Placing.{place_all}
use Rattle.record_game.specs.Placings.{placings_of}
use Rattle.record_game.proofs.LaidNext.{Begun, begun_on, begun_empty, laid_as, mixed, refused, taken, rank_beside_even, rank_twice, rank_fits, one_rank, or_none}
use Rattle.csa_record.proofs.laying.Laying.lay_rank.Goals as goal
use Rattle.csa_record.proofs.laying.Laying.lay_rank.Goals.{then-not-self, else-not-self, then-self-via-then-self, then-self-via-else-self+then-self-number}

pub returns-then-self-clause-taken : goal.returns-then-self-clause-taken
returns-then-self-clause-taken c = λ before lays s e.
    let l = laid_as c.self.inside.setup c.self.inside.positioned c.self.inside.even c.self.inside.ranks in
    let so = subst (Lays before) (sym c.self.view_is) lays in
    elim c.then-self.branch [
      | then-self-via-then-self w ↦
          mixed before (rank c.args.number c.args.cells.now) l (rank_beside_even before l c.args.number c.args.cells.now so s e w.if-self.true)
      | then-self-via-else-self+then-self-number w ↦
          mixed before (rank c.args.number c.args.cells.now) l (rank_twice before l c.args.number c.args.cells.now c.requires.low c.requires.high so s e w.if-self-number.true)
    ]

pub returns-in-Err-clause-taken : goal.returns-in-Err-clause-taken
returns-in-Err-clause-taken c = λ before lays s e.
    let l = laid_as c.self.inside.setup c.self.inside.positioned c.self.inside.even c.self.inside.ranks in
    let item = rank c.args.number c.args.cells.now in
    let so = subst (Lays before) (sym c.self.view_is) lays in
    let now = c.if-not-self.self-inside in
    let begun : Begun l item now.setup now.even now.ranks = elim c.if-not-self.branch [
      | then-not-self w ↦ rw w.self-inside-is (begun_empty l item w.empty-self-inside.result refl w.if-not-self.true w.empty-self-inside.ensures.value)
      | else-not-self w ↦ rw w.self-inside-is (begun_on l item w.if-not-self.false)
    ] in
    refused before l l item c.in-Err.fault so refl (rank_fits before l c.args.number c.args.cells.now c.requires.low c.requires.high so s e c.if-self.false c.if-self-number.false)
    (ap (λ t. place_all t (placings_of item)) (sym begun.0) ∙ c.in-Err.ensures)

pub returns-clause-taken : goal.returns-clause-taken
returns-clause-taken c = λ before lays s e.
    let l = laid_as c.self.inside.setup c.self.inside.positioned c.self.inside.even c.self.inside.ranks in
    let item = rank c.args.number c.args.cells.now in
    let so = subst (Lays before) (sym c.self.view_is) lays in
    let now = c.if-not-self.self-inside in
    let begun : Begun l item now.setup now.even now.ranks = elim c.if-not-self.branch [
      | then-not-self w ↦ rw w.self-inside-is (begun_empty l item w.empty-self-inside.result refl w.if-not-self.true w.empty-self-inside.ensures.value)
      | else-not-self w ↦ rw w.self-inside-is (begun_on l item w.if-not-self.false)
    ] in
    let new = laid_as c.place_cells.new.setup true now.even (set now.ranks (c.args.number - 1) true) in
    taken before l new item so refl (rank_fits before l c.args.number c.args.cells.now c.requires.low c.requires.high so s e c.if-self.false c.if-self-number.false)
    (ap (λ t. place_all t (placings_of item)) (sym begun.0) ∙ c.in_default.ensures)
    refl (begun.1 ∙ or_none l.even) (one_rank l new c.args.number c.args.cells.now c.requires.low c.requires.high c.self.invariant (ap (λ bs. set bs (c.args.number - 1) true) begun.2))

use Rattle.std.proofs.Common.{arith, [], ◌∷◌, ◌∙◌, sym, ap}
use Rattle.std.proofs.lemmas.Result.{err_from_is_err_and}
use Rattle.csa_text.specs.Saying.{pairs_of}
use Rattle.shogi_board.specs.Placing.{place_all}
use Rattle.record_game.specs.Placings.{pair_placing}
use Rattle.record_game.proofs.LayingPlaced.{left_more, left_fault, never_past, singles}
use Rattle.csa_record.proofs.laying.place_pairs.Goals as goal
use Rattle.csa_record.proofs.laying.place_pairs.Goals.{in-Some+in_ok-place_pair, in_default}

pub loop-i-preserved : goal.loop-i-preserved
loop-i-preserved c =
    elim c.match-get.branch [
      | in-Some+in_ok-place_pair w ↦
          rw w.setup-is (left_more (λ p. pair_placing c.args.color p ∷ []) (pairs_of c.args.pairs) c.args.setup.now c.loop-i.setup w.place_pair.new.setup c.loop-i.i w.in-Some.pair c.loop-i.invariant w.in-Some.ensures.pair w.in_ok-place_pair.ensures)
      | in_default w ↦ absurd (never_past (pairs_of c.args.pairs) c.loop-i.i (omega (arith, c.loop-i-test.true, c.len-i-end.ensures.count)) w.in_default.ensures.pair)
    ]

pub returns-in_err-place_pair : goal.returns-in_err-place_pair
returns-in_err-place_pair c =
    let p = err_from_is_err_and c.from_residual.result c.from_residual.ensures.1 in
    rw (p.1, p.2)
    (ap (place_all c.args.setup.now) (sym (singles (pair_placing c.args.color) (pairs_of c.args.pairs)))
    ∙ left_fault (λ p. pair_placing c.args.color p ∷ []) (pairs_of c.args.pairs) c.args.setup.now c.loop-i.setup c.loop-i.i c.in-Some.pair c.in_err-place_pair.field-0.0 c.loop-i.invariant c.in-Some.ensures.pair c.in_err-place_pair.ensures)

use Rattle.std.proofs.Common.{arith}
use Rattle.std.proofs.lemmas.Result.{err_from_is_err_and}
use Rattle.csa_text.specs.Saying.{pairs_of}
use Rattle.record_game.specs.Placings.{taken_off}
use Rattle.record_game.proofs.LayingPlaced.{left_more, left_fault, never_past}
use Rattle.csa_record.proofs.laying.take_off_pairs.Goals as goal
use Rattle.csa_record.proofs.laying.take_off_pairs.Goals.{in-Some+in_ok-take_off_pair, in_default}

pub loop-i-preserved : goal.loop-i-preserved
loop-i-preserved c =
    elim c.match-get.branch [
      | in-Some+in_ok-take_off_pair w ↦
          rw w.setup-is (left_more taken_off (pairs_of c.args.pairs) c.args.setup.now c.loop-i.setup w.take_off_pair.new.setup c.loop-i.i w.in-Some.pair c.loop-i.invariant w.in-Some.ensures.pair w.in_ok-take_off_pair.ensures)
      | in_default w ↦ absurd (never_past (pairs_of c.args.pairs) c.loop-i.i (omega (arith, c.loop-i-test.true, c.len-i-end.ensures.count)) w.in_default.ensures.pair)
    ]

pub returns-in_err-take_off_pair : goal.returns-in_err-take_off_pair
returns-in_err-take_off_pair c =
    let p = err_from_is_err_and c.from_residual.result c.from_residual.ensures.1 in
    rw (p.1, p.2)
    (left_fault taken_off (pairs_of c.args.pairs) c.args.setup.now c.loop-i.setup c.loop-i.i c.in-Some.pair c.in_err-take_off_pair.field-0.0 c.loop-i.invariant c.in-Some.ensures.pair c.in_err-take_off_pair.ensures)

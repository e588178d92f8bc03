use Rattle.std.proofs.Common.{arith}
use Rattle.record_game.proofs.LayingPlaced.{cells_none, cells_some}
use Rattle.csa_record.proofs.laying.place_cells.Goals as goal
use Rattle.csa_record.proofs.laying.place_cells.Goals.{in-Some+in_ok-place, in_default}

pub loop-i-preserved : goal.loop-i-preserved
loop-i-preserved c =
    elim c.match-cells-i.branch [
      | in-Some+in_ok-place w ↦
          rw w.setup-is (cells_some c.args.number c.args.cells.now c.args.setup.now c.loop-i.setup w.place.new.self c.loop-i.i w.in-Some.piece w.square_on.result c.loop-i.invariant (omega (arith, c.told-cells, c.loop-i-test.true)) w.in-Some.is w.square_on.ensures w.in_ok-place.ensures.answer w.in_ok-place.ensures.changed)
      | in_default w ↦ rw w.setup-is (cells_none c.args.number c.args.cells.now c.args.setup.now c.loop-i.setup c.loop-i.i c.loop-i.invariant (omega (arith, c.told-cells, c.loop-i-test.true)) w.in_default.is)
    ]

use Rattle.std.proofs.Common.{arith, ◌≡◌, ◌-◌, take, drop, length, length-drop}
use Rattle.std.proofs.KnownBytes.{Appends-trans}
use Rattle.std.proofs.Math.Seq.{take-add}
use Rattle.std.proofs.lemmas.Grind.{common_steps}
use Rattle.record_commands.proofs.streams.write_each.Goals as goal

pub loop-at-preserved : goal.loop-at-preserved
loop-at-preserved g c =
    let piece = c.args.bytes.now in
    let whole : take (length piece - c.loop-at.at) (drop c.loop-at.at piece) ≡ drop c.loop-at.at piece = grind (arith, common_steps) in
    let took = rw whole at c.in-Ok.ensures.bytes in
    let within = rw whole at c.in-Ok.ensures.within in
    record {
      within = omega (arith, length-drop c.loop-at.at piece, within);
      written = rw take-add (Appends-trans _ _ _ _ _ c.loop-at.invariant.written took);
    }

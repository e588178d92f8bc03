use Rattle.std.proofs.Common.{◌≡◌, ◌++◌, ◌-◌, replicate}
use Rattle.csa_text.specs.PairTexts.{pairs_text}
use Rattle.csa_text.specs.declared.pair.Pair.TheVariants.{InHand}
use Rattle.csa_record.proofs.start_writer.write_held.Given as goal

abbrev pub invariant-loop : goal.invariant-loop
invariant-loop l =
    l.out.items ++ pairs_text (replicate (l.count - l.counter) (InHand l.kind)) ≡ l.fn.out.items ++ pairs_text (replicate l.count (InHand l.kind))

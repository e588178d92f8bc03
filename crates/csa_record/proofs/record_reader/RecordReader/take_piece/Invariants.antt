use Rattle.std.proofs.Common.{◌≡◌, ℕ, ◌+◌, ◌-◌, ◌≤◌, List, length, take, ◌++◌}
use Rattle.csa_record.specs.RecordReading.{HasRead}
use Rattle.csa_record.proofs.record_reader.RecordReader.take_piece.Given as goal

abbrev pub invariant-loop-used : goal.invariant-loop-used
invariant-loop-used l = record {
  within : l.used ≤ length l.piece;
  fed : l.self.cutter.fed ≡ l.fn.self.cutter.fed + l.used;
  read : (source : List ℕ) → HasRead source l.fn.self → HasRead (source ++ take l.used l.piece) l.self;
}

abbrev pub decreases-loop-used : goal.decreases-loop-used
decreases-loop-used l = length l.piece - l.used

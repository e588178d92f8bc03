use Rattle.std.proofs.Common.{take}
use Rattle.csa_record.specs.RecordReading.{HasRead, bytes_of}
use Rattle.record_game.specs.Pieces.{joined}
use Rattle.csa_record.proofs.pieces.read_pieces.Given as goal

-- the reader has read the pieces so far
abbrev pub invariant-loop-piece : goal.invariant-loop-piece
invariant-loop-piece l = HasRead (joined (bytes_of (take l.piece-index l.pieces))) l.reader

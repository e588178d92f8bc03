use Rattle.std.proofs.Common.{◌≡◌, ◌++◌, take, drop}
use Rattle.hash_comments.specs.Hashes.{hashes_read}
use Rattle.hash_comments.specs.PieceSteps.{place_after_bytes}
use Rattle.hash_comments.proofs.comments.read_hashes.Given as goal

abbrev pub invariant-loop-at : goal.invariant-loop-at
invariant-loop-at l = record {
  bytes : take l.at l.piece ++ hashes_read l.here (drop l.at l.piece) ≡ hashes_read l.fn.place l.fn.piece;
  place : place_after_bytes l.here (drop l.at l.piece) ≡ place_after_bytes l.fn.place l.fn.piece;
}

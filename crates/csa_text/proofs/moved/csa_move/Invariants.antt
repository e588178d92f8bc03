use Rattle.std.proofs.Common.{◌≡◌, take}
use Rattle.csa_text.proofs.moved.csa_move.Given as goal

abbrev pub invariant-loop-byte : goal.invariant-loop-byte
invariant-loop-byte l = l.text.bytes ≡ take l.byte-index l.byte-items

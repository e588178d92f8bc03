use Rattle.std.proofs.Common.{◌≡◌, length, map, take}
use Rattle.session_commands.specs.Endings.{quoted_byte}
use Rattle.session_commands.proofs.ending.excerpt_of.Given as goal

abbrev pub invariant-loop-byte : goal.invariant-loop-byte
invariant-loop-byte l = record {
  bytes : l.front.bytes ≡ map quoted_byte (take l.byte-index l.shown);
  len : length l.front.bytes ≡ l.byte-index;
}

use Rattle.std.proofs.Common.{◌≡◌, ◌*◌, length, take}
use Rattle.std.specs.List.{flat_map}
use Rattle.csa_text.specs.Codes.{cell_text}
use Rattle.csa_text.proofs.rank.read_cells.Given as goal

abbrev pub invariant-loop-i : goal.invariant-loop-i
invariant-loop-i l = record {
  nine : length l.cells ≡ 9;
  front : take (3 * l.i) l.bytes ≡ flat_map cell_text (take l.i l.cells);
}

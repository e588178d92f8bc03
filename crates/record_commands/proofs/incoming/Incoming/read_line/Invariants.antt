use Rattle.std.proofs.Common.{◌≡◌, is_some, true}
use Rattle.record_commands.specs.Incoming.{GivesNoLine}
use Rattle.record_commands.proofs.incoming.Incoming.read_line.Given as goal

abbrev pub invariant-loop-pieces : goal.invariant-loop-pieces
invariant-loop-pieces g l = record {
  none : GivesNoLine l.fn.self.bytes l.self.bytes;
  stop : l.self.stop ≡ l.fn.self.stop;
  stays : is_some l.fn.self.stop ≡ true → (l.self ≡ l.fn.self) × (l._pieces ≡ 0);
}

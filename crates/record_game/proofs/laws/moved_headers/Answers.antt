use Rattle.record_game.proofs.Rearranged.{says_moved}
use Rattle.record_game.proofs.laws.moved_headers.Goals as goal

pub returns : goal.returns
returns c = record {
  accepted = λ source other g stated statements sayings cut spelt first moved. record {
    statements = statements;
    sayings = sayings;
    cut = cut;
    spelt = spelt;
    says = says_moved stated.sayings sayings g stated.says first moved;
  };
}

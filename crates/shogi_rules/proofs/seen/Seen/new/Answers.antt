use Rattle.std.proofs.Common.{◌≡◌, [], ◌∷◌, arith, refl}
use Rattle.std.proofs.lemmas.Grind.{common_steps}
use Rattle.shogi_rules.proofs.Counting.{none-counted, no-turns, turns-more}
use Rattle.shogi_rules.proofs.seen.Seen.new.Goals as goal

pub returns : goal.returns
returns c =
    let one : c.push.new.self.items ≡ c.of-turn.result ∷ [] = grind (arith, common_steps) in
    record {
      counts = rw (← c.as_ref.ensures.value) (c.in_ok-here.ensures.ok [] refl (none-counted _ c.in_ok-counts.ensures));
      here = rw (← c.as_ref.ensures.value) c.in_ok-here.ensures.place.1;
      turns = rw one (turns-more [] [] c.args.start.now c.of-turn.result no-turns c.of-turn.ensures.side c.of-turn.ensures.check);
    }

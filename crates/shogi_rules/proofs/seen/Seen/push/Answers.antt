use Rattle.std.proofs.Common.{rules, ◌≡◌, ◌++◌, [], ◌∷◌, arith, sym, ◌∙◌, length}
use Rattle.std.proofs.lemmas.Grind.{common_steps}
use Rattle.shogi_rules.specs.Counting.{IsSeen, Seeing}
use Rattle.shogi_rules.specs.declared.seen.Turn.{Turn}
use Rattle.shogi_rules.proofs.Counting.{turns-more}
use Rattle.shogi_rules.proofs.seen.Seen.push.Goals as goal

pub returns-clause-ok : goal.returns-clause-ok
returns-clause-ok c = λ ps p seen.
    let i = c.self.inside in
    let old : Seeing = record { counts = i.counts; here = i.here; turns = i.turns.items } in
    let kept : IsSeen ps p old = rw (sym c.self.view_is) at seen in
    let turn : Turn = c.of-turn.result in
    let more : c.push_reserved.new.self.items ≡ i.turns.items ++ turn ∷ [] = grind (arith, common_steps) in
    let before : c.len-before.result ≡ length i.turns.items = grind (arith, common_steps) in
    record {
      counts = rw (← c.as_ref.ensures.value) (c.in_ok-self-inside.ensures.ok ps (sym (before ∙ kept.turns.long)) kept.counts);
      here = rw (← c.as_ref.ensures.value) c.in_ok-self-inside.ensures.place.1;
      turns = rw more (turns-more ps i.turns.items c.args.situation.now turn kept.turns c.of-turn.ensures.side c.of-turn.ensures.check);
    }

pub returns-in_err-reserve-clause-err : goal.returns-in_err-reserve-clause-err
returns-in_err-reserve-clause-err c = search rules

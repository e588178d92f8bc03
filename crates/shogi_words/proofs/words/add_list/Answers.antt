use Rattle.std.proofs.Common.{refl}
use Rattle.clap.specs.Words.{app_of}
use Rattle.shogi_words.proofs.CommandWords.{adds_last_rule, adds_rule}
use Rattle.shogi_words.proofs.words.add_list.Goals as goal

pub returns : goal.returns
returns c =
    let words-1 = adds_rule _ _ _ (app_of c.args.base) _ c.in_ok-arg.ensures c.list.ensures.local c.list.ensures.rule refl in
    let words-2 = adds_rule _ _ _ _ _ c.in_ok-arg-2.ensures c.null.ensures.local c.null.ensures.rule words-1 in
    let words-3 = adds_rule _ _ _ _ _ c.in_ok-arg-3.ensures c.hash_comments.ensures.local c.hash_comments.ensures.rule words-2 in
    let words-4 = adds_rule _ _ _ _ _ c.in_ok-arg-4.ensures c.explain.ensures.local c.explain.ensures.rule words-3 in
    record { words = adds_last_rule c.arg-5.result _ _ _ _ c.arg-5.ensures c.flag.ensures.local c.flag.ensures.rule words-4 }

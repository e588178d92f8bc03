use Rattle.std.proofs.Common.{ap, ◌∙◌}
use Rattle.clap.specs.Simple.{app_of_fields}
use Rattle.shogi_words.specs.Options.{with_list}
use Rattle.shogi_words.proofs.CommandWords.{adds_last_rule, adds_rule, compared_local, compared_rule}
use Rattle.shogi_words.proofs.records.same.Goals as goal

pub returns-clause-words : goal.returns-clause-words
returns-clause-words c =
    let local = compared_local c.files.result c.in_ok-files.files _ c.in_ok-files.ensures c.files.ensures.local in
    let rule = compared_rule c.files.result c.in_ok-files.files _ c.in_ok-files.ensures c.files.ensures.rule in
    let words-0 = ap app_of_fields c.override_usage-command.ensures ∙ c.named.ensures.no_words in
    let words-1 = adds_rule _ _ _ _ _ c.in_ok-arg.ensures local rule words-0 in
    let words-2 = c.in_ok-add_list.ensures.words ∙ ap with_list words-1 in
    adds_last_rule c.arg-2.result _ _ _ _ c.arg-2.ensures c.flag.ensures.local c.flag.ensures.rule words-2

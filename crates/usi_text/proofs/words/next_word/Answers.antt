use Rattle.usi_text.proofs.Fronts.{no_word, one_word, rest_following, none_left, some_left}
use Rattle.usi_text.proofs.words.next_word.Goals as goal

pub returns-then-is_empty-clause-word : goal.returns-then-is_empty-clause-word
returns-then-is_empty-clause-word c =
    let all = c.spaces_length.ensures in
    no_word c.args.text.now c.split_at.result.1.now c.spaces_length.result
    (record { cut = c.split_at.ensures.back; within = all.within; run = all.run; ends = all.ends })
    (none_left _ c.is_empty.result c.is_empty.ensures c.if-is_empty.true)

pub returns-clause-word : goal.returns-clause-word
returns-clause-word c =
    let all = c.spaces_length.ensures in
    let word = c.word_length.ensures in
    let some = some_left _ c.is_empty.result c.is_empty.ensures c.if-is_empty.false in
    rw (c.split_at-2.ensures.front, c.split_at-2.ensures.back)
    (one_word c.args.text.now c.split_at.result.1.now c.spaces_length.result c.word_length.result
    (record { cut = c.split_at.ensures.back; within = all.within; run = all.run; ends = all.ends })
    (record { within = word.within; run = word.run; ends = word.ends }) some)

pub returns-clause-following : goal.returns-clause-following
returns-clause-following c =
    let all = c.spaces_length.ensures in
    let word = c.word_length.ensures in
    rw c.split_at-2.ensures.back
    (rest_following c.args.text.now c.split_at.result.1.now c.spaces_length.result c.word_length.result
    (record { cut = c.split_at.ensures.back; within = all.within; run = all.run; ends = all.ends })
    (record { within = word.within; run = word.run; ends = word.ends }))

use Rattle.std.proofs.Common.{length}
use Rattle.usi_text.proofs.Piles.{reads_start, reads_more, answer, answer_empty, not_so}
use Rattle.usi_text.proofs.Ranks.{no_bytes, empty_is, some_are}
use Rattle.usi_text.proofs.hands.is_hands.Goals as goal

pub loop-following-init : goal.loop-following-init
loop-following-init c = reads_start c.args.text.now

pub loop-following-preserved : goal.loop-following-preserved
loop-following-preserved c =
    let q = c.in-Some.ensures.pile in
    reads_more c.args.text.now c.loop-following.rest.now c.in-Some.following.now q.0 c.loop-following.invariant q.1 q.3

pub returns-then-is_empty : goal.returns-then-is_empty
returns-then-is_empty c =
    answer_empty c.args.text.now (no_bytes c.args.text.now (empty_is c.is_empty.result (length c.args.text.now) c.is_empty.ensures c.if-is_empty.true))

pub returns : goal.returns
returns c =
    answer c.is_empty-2.result c.args.text.now c.loop-following.rest.now c.loop-following.invariant (not_so c.is_dash.result c.is_dash.ensures c.if-is_dash.false) (some_are c.is_empty.result c.args.text.now c.is_empty.ensures c.if-is_empty.false) c.in_default.ensures.pile c.is_empty-2.ensures

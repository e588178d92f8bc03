use Rattle.std.proofs.Common.{length, arith, ap, refl}
use Rattle.usi_text.proofs.Piles.{is_so, not_so}
use Rattle.usi_text.proofs.Splits.{reading_start, reading_more, split_here, split_nowhere}
use Rattle.usi_text.proofs.line.split_moves.Goals as goal

pub loop-word-init : goal.loop-word-init
loop-word-init c = reading_start c.args.text.now

pub loop-word-preserved : goal.loop-word-preserved
loop-word-preserved c =
    let rest = c.loop-word.rest.now in
    let w = c.in-Some.word.now in
    let following = c.in-Some.following.now in
    reading_more c.args.text.now rest following w c.loop-word.invariant c.in-Some.ensures.following c.in-Some.ensures.word (not_so c.same.result c.same.ensures c.if-same.false)

pub loop-word-smaller : goal.loop-word-smaller
loop-word-smaller c = let l = ap length c.in-Some.ensures.word in omega (arith, l)

pub returns-then-same : goal.returns-then-same
returns-then-same c =
    let rest = c.loop-word.rest.now in
    let w = c.in-Some.word.now in
    let following = c.in-Some.following.now in
    split_here c.args.text.now rest following _ w c.loop-word.invariant c.in-Some.ensures.word (is_so c.same.result c.same.ensures c.if-same.true) refl

pub returns : goal.returns
returns c = split_nowhere c.args.text.now c.loop-word.rest.now c.loop-word.invariant (c.in_default.ensures {u = tt}).word

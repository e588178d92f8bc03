use Rattle.std.proofs.Common.{arith, add-one}
use Rattle.std.proofs.lemmas.List.{take_rest}
use Rattle.usi_text.proofs.Ranks.{rank_first, rank_alone}
use Rattle.usi_text.proofs.boards.take_rank.Goals as goal

pub returns-then-b-eq47 : goal.returns-then-b-eq47
returns-then-b-eq47 c =
    let i = c.loop-i.i in
    let text = c.args.text.now in
    rw (take_rest, add-one) (rank_first text i (omega arith) c.loop-i.invariant c.if-b-eq47.true)

pub returns : goal.returns
returns c = rank_alone c.args.text.now (λ k h. c.loop-i.invariant k (omega arith))

use Rattle.std.proofs.Common.{arith}
use Rattle.csa_text.proofs.PairsRead.{front_next, no_pairs, no_fourths}
use Rattle.csa_text.proofs.Texts.{cut_out}
use Rattle.csa_text.proofs.pairs.Pairs.read.Goals as goal

pub returns-then-bytes-ne0 : goal.returns-then-bytes-ne0
returns-then-bytes-ne0 c = no_fourths c.args.bytes.now c.if-bytes-ne0.true

pub returns-in_err-read_pair : goal.returns-in_err-read_pair
returns-in_err-read_pair c =
    rw c.from_residual.ensures
    (no_pairs c.args.bytes.now _ c.loop-i.i (omega (arith, c.loop-i-test.true)) (cut_out c.args.bytes.now 4 c.loop-i.i) c.in_err-read_pair.ensures)

pub loop-i-preserved : goal.loop-i-preserved
loop-i-preserved c =
    front_next c.args.bytes.now _ c.loop-i.i c.in_ok-read_pair.field-0 c.loop-i.invariant (cut_out c.args.bytes.now 4 c.loop-i.i) c.in_ok-read_pair.ensures

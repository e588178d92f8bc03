use Rattle.std.proofs.Common.{sym}
use Rattle.csa_text.specs.Saying.{pairs_of}
use Rattle.csa_text.proofs.PairsRead.{none_past, pair_got}
use Rattle.csa_text.proofs.Texts.{cut_out}
use Rattle.csa_text.proofs.pairs.Pairs.get.Goals as goal

pub returns-then-self-i : goal.returns-then-self-i
returns-then-self-i c =
    let p = c.args.self.now in
    record { pair = sym (none_past p.bytes.now (pairs_of p) c.args.i p.are_pairs.1 c.if-self-i.true) }

pub returns : goal.returns
returns c =
    let p = c.args.self.now in
    record { pair = pair_got p.bytes.now _ (pairs_of p) c.args.i c.read_pair.result p.are_pairs.1 c.if-self-i.false (cut_out p.bytes.now 4 c.args.i) c.read_pair.ensures }

use Rattle.std.proofs.Common.{◌≡◌, arith, length, ap}
use Rattle.csa_text.specs.PairTexts.{pair_text, pairs_text}
use Rattle.csa_text.specs.PairsOnce.{pair_length}
use Rattle.csa_text.specs.Saying.{pairs_of}
use Rattle.csa_text.proofs.Texts.{texts_length}
use Rattle.csa_text.proofs.pairs.Pairs.len.Goals as goal

pub returns : goal.returns
returns c =
    let p = c.args.self.now in
    let whole : length p.bytes.now ≡ length (pairs_text (pairs_of p)) = ap length p.are_pairs.1 in
    omega (arith, whole, texts_length pair_text 4 pair_length (pairs_of p))

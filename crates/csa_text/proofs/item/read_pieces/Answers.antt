use Rattle.std.proofs.Common.{◌≡◌, ◌∷◌, List}
use Rattle.csa_text.specs.Codes.{sign}
use Rattle.csa_text.specs.PairTexts.{pairs_text}
use Rattle.csa_text.specs.declared.pair.Pair.{Pair}
use Rattle.csa_text.proofs.Rows.{no_pieces, start_fault, refused}
use Rattle.csa_text.proofs.item.read_pieces.Goals as goal

pub returns-in_err-pairs : goal.returns-in_err-pairs
returns-in_err-pairs c =
    let text = c.args.pairs.now in
    let given = c.in_err-pairs.ensures in
    let none : (pairs : List Pair) → text ≡ pairs_text pairs → ⊥ = rw given.ok_part at c.read.ensures in
    refused (80 ∷ sign c.args.color ∷ text) c.read.result _ _ c.from_residual.result given.value given.ok_part c.from_residual.ensures.1 (no_pieces c.args.color text none) (start_fault c.args.color text)

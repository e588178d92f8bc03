use Rattle.std.proofs.Common.{rules}
use Rattle.std.proofs.Common.{◌≡◌, ◌∷◌, List, refl}
use Rattle.std.proofs.lemmas.Bool.{false≢true}
use Rattle.csa_text.specs.declared.pair.Pair.{Pair}
use Rattle.csa_text.specs.PairTexts.{pairs_text, AllOnBoard}
use Rattle.csa_text.specs.Saying.{pairs_of}
use Rattle.csa_text.proofs.Rows.{no_even, not_on_board, refused}
use Rattle.csa_text.proofs.item.read_even.Goals as goal

pub returns-in_err-pairs : goal.returns-in_err-pairs
returns-in_err-pairs c =
    let text = c.args.pairs.now in
    let given = c.in_err-pairs.ensures in
    let none : (pairs : List Pair) → text ≡ pairs_text pairs → ⊥ = rw given.ok_part at c.read.ensures in
    refused (80 ∷ 73 ∷ text) c.read.result _ _ c.from_residual.result given.value given.ok_part c.from_residual.ensures.1 (no_even text (λ pairs e on. none pairs e)) refl

pub returns-then-not-are_on_board : goal.returns-then-not-are_on_board
returns-then-not-are_on_board c =
    let text = c.args.pairs.now in
    let ps = pairs_of c.in_ok-pairs.pairs in
    let same : text ≡ pairs_text ps = rw c.in_ok-pairs.ensures.ok_part at c.read.ensures in
    let off : AllOnBoard ps → ⊥ = λ on. false≢true (c.if-not-are_on_board.ensures.1 on) in
    (no_even text (not_on_board text ps same off), refl)

pub returns : goal.returns
returns c = search rules

use Rattle.std.proofs.Common.{ℕ, ◌∷◌}
use Rattle.csa_text.specs.TimeTexts.{IsTime}
use Rattle.csa_text.proofs.Rows.{no_time, time_fault, refused}
use Rattle.csa_text.proofs.item.read_time_item.Goals as goal

pub returns-in_err-thousandths : goal.returns-in_err-thousandths
returns-in_err-thousandths c =
    let text = c.args.text.now in
    let given = c.in_err-thousandths.ensures in
    let none : (n : ℕ) → IsTime text n → ⊥ = rw given.ok_part at c.read_time.ensures in
    refused (84 ∷ text) c.read_time.result _ _ c.from_residual.result given.value given.ok_part c.from_residual.ensures.1 (no_time text none) (time_fault text)

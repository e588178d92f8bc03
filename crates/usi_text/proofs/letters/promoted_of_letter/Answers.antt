use Rattle.usi_text.proofs.Spelt.{no_promoted}
use Rattle.usi_text.proofs.letters.promoted_of_letter.Goals as goal

pub returns-in_err-piece : goal.returns-in_err-piece
returns-in_err-piece c = rw c.from_residual.ensures (λ p t e. no_promoted c.args.byte c.in_err-piece.ensures p e)

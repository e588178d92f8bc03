use Rattle.usi_text.proofs.OneText.{one_line_text}
use Rattle.usi_text.proofs.laws.one_line_text.Goals as goal

pub returns : goal.returns
returns c = record { one = one_line_text }

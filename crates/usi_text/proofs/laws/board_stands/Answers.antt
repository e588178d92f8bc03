use Rattle.usi_text.proofs.Standing.{board_stands}
use Rattle.usi_text.proofs.laws.board_stands.Goals as goal

pub returns : goal.returns
returns c = record { cells = board_stands }
